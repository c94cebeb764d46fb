-- What contracts of the commands cite. `Lemmas` is for the proofs alone.
pub mod Words
pub mod WorkerWords
pub mod Faults
pub mod FaultLines
pub mod Texts
pub mod Answers
pub mod Solo
pub mod GoneOn
pub mod Balances
pub mod Counts
pub mod Lemmas
