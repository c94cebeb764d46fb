-- What contracts of owners cite.
pub mod Owners
