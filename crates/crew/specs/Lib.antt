-- What contracts cite.
pub mod Counts
pub mod Owners
