-- Definitions that serve proofs alone: no public contract rests on them.
pub mod OwedLists
pub mod Counts
pub mod Parts
pub mod Rows
pub mod FiledFields
pub mod Fills
pub mod Noted
