-- The definitions of this crate, in the order in which one stands on another.
pub mod Places
pub mod Order
pub mod Axes
pub mod Beyond
pub mod Touching
pub mod Wishes
