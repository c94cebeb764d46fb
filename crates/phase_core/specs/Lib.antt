-- Definitions that contracts cite, and lemmas that laws of phases cite.
pub mod Outgoing
pub mod Machine
pub mod Picks
pub mod Stands
pub mod PhaseLaws
pub mod Settled
pub mod Lemmas
