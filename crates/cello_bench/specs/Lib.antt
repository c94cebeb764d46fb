-- What the inputs of a measurement are.
pub mod Inputs
