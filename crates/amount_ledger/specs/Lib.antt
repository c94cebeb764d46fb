-- What contracts of the ledger cite.
pub mod Ledgers
