-- Definitions that serve the proofs of `opening` and `levels_ok`.
pub mod OwnLevel
pub mod TouchAt
