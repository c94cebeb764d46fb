-- Lemmas by subject.
pub mod Roots
pub mod Fitting
pub mod SmallFields
