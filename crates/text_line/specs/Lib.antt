-- What contracts of lines cite.
pub mod Shown
