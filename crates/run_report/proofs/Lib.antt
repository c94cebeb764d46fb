-- Lemmas by subject.
pub mod CycleLines
pub mod FourDigits
pub mod KeptStates
pub mod MadeActions
pub mod NumberedPieces
pub mod Prefixes
pub mod RunActions
