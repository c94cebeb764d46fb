-- There is no other.
use Rattle.adapt_core.proofs.OneProblem.{same_problem, same_cells}
use Rattle.adapt_core.proofs.problem_laws.one_problem.Goals as goal

pub returns-clause-one : goal.returns-clause-one
returns-clause-one c = same_problem

pub returns-clause-cells : goal.returns-clause-cells
returns-clause-cells c = same_cells
