-- Lemmas about runs of the core machine, and about how `drive` goes through one.
pub mod Events
pub mod Deliveries
pub mod Flights
pub mod Driving
mod Picking
