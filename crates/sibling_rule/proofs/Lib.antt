-- Lemmas about opening levels, broken rules and the next mesh, leaf by leaf.
pub mod NextMeshSteps
pub mod OpeningSteps
pub mod EvenLevels
pub mod SiblingPlaces
pub mod FirstAround
pub mod BrokenRules
