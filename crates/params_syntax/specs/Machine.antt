-- How the reader goes from token to token. No public contract rests on this.
pub mod Forming
pub mod States
pub mod Steps
