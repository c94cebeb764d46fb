pub mod Applying
pub mod Lemmas
