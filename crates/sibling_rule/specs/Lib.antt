-- What a contract cites beside the specs of `leaf_set`, and what the functions within cite.
pub mod Decided
pub mod BrokenRules
pub mod Lemmas
