pub mod Adding
pub mod Amounts
pub mod Bounds
pub mod Outside
pub mod RootBlocks
