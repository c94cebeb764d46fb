-- What the tests know of the pieces that they deliver.
pub mod Delivering
