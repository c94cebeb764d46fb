pub mod Shares
pub mod Posts
pub mod Finds
pub mod Visits
pub mod Seats
pub mod Lemmas
