-- Lemmas by subject.
pub mod GhostFacts
pub mod Messages
pub mod Goings
pub mod Rest
pub mod Counts
pub mod EachState
pub mod Handling
pub mod Sends
pub mod FirstBlocks
pub mod Beginning
pub mod MadeCells
pub mod Settled
