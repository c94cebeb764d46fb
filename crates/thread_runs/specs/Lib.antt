-- What contracts of calls in threads cite.
pub mod Jobs
pub mod Lemmas
pub mod Runs
