-- The laws of the adapt phase, which its impl cites, with all that they rest on. FirstCells has the definitions that
-- the functions of src/first_cells.rt cite.
pub mod FirstCells
pub mod Leaves
pub mod Siblings
pub mod Handlings
pub mod Keeping
pub mod Weighing
pub mod Beginning
pub mod AdaptLaws
