-- What the laws of the phase cite, that its plan is kept; conditions and results of single steps; and sums of what
-- flows out.
pub mod FluxLaws
pub mod FirstCells
pub mod Sending
pub mod Outward
