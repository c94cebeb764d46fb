-- The definitions of this crate, in the order in which one stands on another.
pub mod Axes
pub mod Fluxes
pub mod BoundaryFlows
pub mod Bounds
pub mod Replacing
pub mod Upwind
pub mod Surroundings
pub mod Examples
