-- Lemmas by subject.
pub mod Coordinates
pub mod Steps
pub mod BesideBlocks
pub mod Besides
pub mod Outside
pub mod Passing
pub mod Advancing
pub mod Shares
pub mod UpwindFluxes
pub mod AmountBounds
pub mod Replacing
pub mod NearCells
pub mod StillAxes
pub mod OneCell
pub mod ClosedEnds
