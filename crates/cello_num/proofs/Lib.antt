-- Lemmas by subject.
pub mod FluxBounds
mod Padding
pub mod PartSums
pub mod Sums
