-- Lemmas for the laws of a phase: look-ups in lists, lists by their places, the start messages. Then the definitions
-- and the laws of the test phase.
pub mod Lookups
pub mod ListsByPlaces
pub mod Starts
pub mod Ring
pub mod RingLaws
