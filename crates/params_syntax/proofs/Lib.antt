-- Lemmas by subject: steps and runs of the reader, tokens of a text, readings, canonical texts.
pub mod Runs
pub mod Steps
pub mod StepTokens
pub mod StepLimits
pub mod Reached
pub mod Formed
pub mod Fronts
pub mod Courses
pub mod EachReads
pub mod OneReading
pub mod Digits
pub mod ReadingSteps
pub mod Bytes
pub mod Elements
pub mod TokenTexts
pub mod TextTokens
pub mod CanonicalTokens
