-- Lemmas by subject.
pub mod FittingPieces
