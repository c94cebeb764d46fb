pub mod Families
pub mod Lemmas
