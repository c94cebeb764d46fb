-- Definitions by subject.
pub mod Cells
pub mod States
pub mod Samples
pub mod Divisions
pub mod InitialStates
pub mod Shells
pub mod Blocks
pub mod Layout
pub mod BlockStates
pub mod Lending
