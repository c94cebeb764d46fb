-- That the plan of the phase is kept, which its laws cite; and what contracts of private functions cite: when a cell can
-- send its pieces, and what the first cells are.
pub mod RefreshLaws
pub mod Sending
pub mod FirstCells
