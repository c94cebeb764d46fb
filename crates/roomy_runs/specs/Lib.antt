-- What laws of runs with room cite.
pub mod RoomyRuns
pub mod Summaries
pub mod Examples
