-- Definitions that only serve proofs.
pub mod Shares
pub mod Passes
pub mod Lines
pub mod Streams
pub mod Advances
pub mod Rims
pub mod Corrections
