-- Lemmas by subject.
pub mod KeptNumbers
mod GoingOn
mod RestCourses
mod KeptCheckpoints
mod ShortFiles
mod ToldCycles
mod WritingOn
mod WrittenCheckpoints
mod LongerRuns
