-- Lemmas by subject.
pub mod Parts
