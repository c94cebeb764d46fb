-- Definitions on which no public contract rests.
pub mod PartEnds
pub mod AmountSteps
pub mod Stages
