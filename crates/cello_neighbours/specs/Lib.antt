-- The definitions of this crate.
pub mod Directions
pub mod Covers
pub mod Lemmas
