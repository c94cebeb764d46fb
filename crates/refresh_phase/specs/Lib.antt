-- Definitions that contracts cite, and lemmas that the laws of the phase cite.
pub mod Cells
pub mod React
pub mod Problem
pub mod States
pub mod Lemmas
