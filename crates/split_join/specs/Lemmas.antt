pub mod NewBlocks
pub mod Steps
