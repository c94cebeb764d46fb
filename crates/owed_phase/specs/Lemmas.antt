-- From small to large: rearrangements, the messages to one position, starts, what all cells owe, the first cells, one
-- handling, any order of the flight, what is handled at rest, single messages; then the laws by name.
pub mod Moves
pub mod Inboxes
pub mod Starts
pub mod Owed
pub mod Beginnings
pub mod Handlings
pub mod Orders
pub mod AllHandled
pub mod States
pub mod OwingLaws
