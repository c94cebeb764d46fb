-- The definitions: first those that public contracts rest on.
pub mod Values
pub mod Bounds
pub mod Keys
pub mod Forms
pub mod Amounts
pub mod Limits
pub mod TreeValues
pub mod Parameters
pub mod Walks
pub mod Examples
pub mod Lemmas
