pub mod Rows
pub mod SplitNumbers
pub mod JoinNumbers
pub mod RoundTrips
