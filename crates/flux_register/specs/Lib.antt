-- Definitions that contracts cite, and lemmas that the laws of the phase cite.
pub mod Faces
pub mod Cells
pub mod React
pub mod Made
pub mod Problem
pub mod States
pub mod Lemmas
pub mod Examples
