-- What contracts cite. `Lemmas` is for the proofs alone.
pub mod Advances
pub mod Lemmas
