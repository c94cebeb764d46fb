-- Definitions by subject.
pub mod Cells
pub mod Samples
pub mod Wishes
pub mod Examples
pub mod Lemmas
