-- There is a problem.
use Rattle.adapt_core.proofs.FirstProblems.{problem_exists}
use Rattle.adapt_core.proofs.problem_laws.problem_exists.Goals as goal

pub returns : goal.returns
returns c = record {
  exists = λ grid mesh wishes g m balanced long.
      let h = problem_exists grid mesh wishes g m balanced long in
      (h.problem, h.is, h.same_grid, h.same_mesh, h.same_wishes);
}
