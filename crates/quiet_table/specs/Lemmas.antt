pub mod Purses
