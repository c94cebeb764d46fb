-- One place more is changed.
use Rattle.std.proofs.Common.{ℕ, ◌+◌, Ok, subst, arith}
use Rattle.std.specs.Prelude.{slice_index_or}
use Rattle.std.proofs.lemmas.List.{get_or_default}
use Rattle.thread_runs.specs.Runs.{CallsAt}
use Rattle.thread_runs.proofs.Parts.{one_more}
use Rattle.thread_runs.proofs.runs.in_turn.Goals as goal

pub loop-i-preserved : goal.loop-i-preserved
loop-i-preserved g c =
    let at = c.loop-i in
    let i = at.i in
    let now = c.call_at.new.element in
    let within = c.index-elements-i.is in
    let was = slice_index_or at.elements i c.index-elements-i.result in
    let calls = subst (λ r. CallsAt g.F.Fn c.args.f.now (c.args.base + i) was r now) c.in_ok-call_at.was c.call_at.ensures in
    record {
      course = one_more (λ (j : ℕ) x y. CallsAt g.F.Fn c.args.f.now (c.args.base + j) x (Ok tt) y) i c.args.elements.now at.elements now (omega (arith, at.invariant.course.many)) at.invariant.course
          (λ d. subst (λ (x : g.row.T.Denot). CallsAt g.F.Fn c.args.f.now (c.args.base + i) x (Ok tt) now) (get_or_default at.elements i _ d (omega (arith, at.invariant.course.many))) calls);
    }
