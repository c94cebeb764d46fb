-- Definitions that serve proofs alone.
pub mod Advances
pub mod Bounds
pub mod Decisions
pub mod Keeping
