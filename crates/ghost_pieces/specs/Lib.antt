-- The definitions of this crate, in the order in which one stands on another.
pub mod Ghosts
pub mod Boxes
pub mod Regions
pub mod Sent
pub mod Pieces
pub mod Filing
pub mod Shells
pub mod Examples
pub mod Lemmas
