-- Lemmas by subject.
mod BlockAdvances
mod Moved
