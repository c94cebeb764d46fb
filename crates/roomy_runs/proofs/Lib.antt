-- Lemmas by subject.
mod Room
mod Accepted
mod Ends
