-- Definitions by subject.
pub mod Fluxes
pub mod Name
pub mod Parts
pub mod Sums
