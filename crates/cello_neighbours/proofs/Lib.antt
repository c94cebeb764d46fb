-- The lemmas of this crate by subject.
pub mod AscendingLists
pub mod Insertions
pub mod HalfSteps
pub mod NearSides
pub mod NearChildren
pub mod Collections
pub mod Splits
pub mod CoverLaws
pub mod Numbers
pub mod Additions
pub mod NamedLeaves
pub mod Gatherings
pub mod TouchingLists
pub mod NineLeaves
