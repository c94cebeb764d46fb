-- Definitions by subject.
pub mod Counts
pub mod Devices
pub mod Files
pub mod Fetching
pub mod Filing
pub mod Reads
pub mod StoredFiles
pub mod Writes
