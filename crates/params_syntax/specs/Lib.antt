-- What a text and its reading are, in reading order. `Machine` is for the proofs alone.
pub mod Limits
pub mod Tokens
pub mod Trees
pub mod Grammar
pub mod Reading
pub mod Canonical
pub mod Machine
