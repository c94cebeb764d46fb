pub mod JoinNumbers
pub mod SplitNumbers
