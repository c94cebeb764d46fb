-- Lemmas: what is drawn, the tree of a text, and that it is accepted.
pub mod Draws
pub mod DemoTrees
pub mod GroupTexts
pub mod Totals
pub mod Accepted
pub mod TreeTexts
