-- What contracts of checkpoints cite.
pub mod Parts
pub mod SavedStates
pub mod Spelling
pub mod Reading
pub mod Examples
pub mod Lemmas
