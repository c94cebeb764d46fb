-- What contracts of the run cite. `Lemmas` is for the proofs alone.
pub mod Courses
pub mod CourseLimits
pub mod Runs
pub mod PlainCounts
pub mod Steps
pub mod Works
pub mod Lemmas
