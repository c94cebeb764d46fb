-- Definitions that serve private contracts and proofs.
pub mod Tables
pub mod Slots
pub mod Firsts
pub mod Groups
pub mod CellCounts
