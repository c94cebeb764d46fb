-- Definitions that contracts cite, and lemmas that laws of phases cite.
pub mod Plans
pub mod Holds
pub mod States
pub mod Rest
pub mod Lemmas
