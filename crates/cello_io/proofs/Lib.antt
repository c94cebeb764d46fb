-- Lemmas by subject.
pub mod FilesByName
pub mod MadeFiles
pub mod MemoryTells
pub mod ReadLemmas
pub mod WriteLemmas
pub mod FetchedFronts
