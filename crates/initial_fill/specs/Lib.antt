pub mod RootBlocks
pub mod Lemmas
