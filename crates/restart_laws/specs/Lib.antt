-- What laws of runs that go on cite.
pub mod Restarts
pub mod Resumes
pub mod ResumedRuns
