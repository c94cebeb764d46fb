-- Lemmas by subject.
pub mod Runs
