-- Definitions that serve proofs alone: no public contract rests on them.
pub mod Numbering
pub mod Added
