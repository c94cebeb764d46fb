-- What contracts of reports cite. `Lemmas` is for the proofs alone.
pub mod FileNames
pub mod Actions
pub mod Outputs
pub mod Examples
pub mod Lemmas
