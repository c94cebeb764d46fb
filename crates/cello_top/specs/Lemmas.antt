-- Definitions that serve proofs alone.
pub mod CommandSteps
pub mod Engine
pub mod Resuming
pub mod Demonstrating
pub mod Asking
