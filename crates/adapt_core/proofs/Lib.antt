-- Lemmas about the phase: at rest, over runs, what its problem is and that there is one.
pub mod Rest
pub mod EveryRun
pub mod PartsOfLeaves
pub mod OneProblem
pub mod FirstProblems
pub mod MadeCells
pub mod TakenLists
