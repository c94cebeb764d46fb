pub mod Lists
pub mod FamilyRuns
pub mod NextPlaces
pub mod NewBlocks
pub mod Walks
pub mod Adapted
