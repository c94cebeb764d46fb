-- What contracts of the output cite.
pub mod Lines
pub mod FieldFiles
pub mod Pages
pub mod Pens
pub mod Examples
