-- Definitions that serve proofs.
pub mod Bounds
pub mod CellWishes
pub mod Faces
pub mod Rows
