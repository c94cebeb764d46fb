-- The definitions of this crate, in the order in which one stands on another.
pub mod Meshes
pub mod LevelRules
pub mod NextMesh
pub mod Origins
pub mod RootMesh
pub mod MeshLaws
pub mod Solutions
pub mod LevelChanges
pub mod TouchingLeaves
pub mod Opening
pub mod Tiling
pub mod LeafFaults
pub mod Lemmas
