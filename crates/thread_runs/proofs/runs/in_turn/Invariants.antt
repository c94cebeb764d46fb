-- The places so far are changed, and the others stand as they did.
use Rattle.std.proofs.Common.{ℕ, ◌+◌, Ok}
use Rattle.thread_runs.specs.Runs.{CallsAt}
use Rattle.thread_runs.proofs.Parts.{Course}
use Rattle.thread_runs.proofs.runs.in_turn.Given as goal

abbrev pub invariant-loop-i : goal.invariant-loop-i
invariant-loop-i g l = record {
  course : Course (λ (j : ℕ) x y. CallsAt g.F.Fn l.f (l.base + j) x (Ok tt) y) l.i l.fn.elements l.elements;
}
