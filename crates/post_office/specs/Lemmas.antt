-- Lemmas for the laws of a post's contents.
pub mod Shares
pub mod PartLaws
pub mod LegalLaws
pub mod Handled
pub mod Dealt
pub mod Gathered
pub mod Ended
