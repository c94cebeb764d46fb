-- Lemmas that proofs of callers cite.
pub mod Calls
