-- One position more.
use Rattle.std.proofs.Common.{ℕ, get_or, max, length-set, ap, ◌≡◌, ◌∙◌, arith}
use Rattle.criteria.proofs.Written.{written-more}
use Rattle.criteria.proofs.extremes.greatest_of.Goals as goal

pub loop-x-preserved : goal.loop-x-preserved
loop-x-preserved c =
    let P : ℕ → ℕ = λ k. max (get_or c.args.a.now k 0) (max (get_or c.args.b.now k 0) (get_or c.args.c.now k 0)) in
    let v = c.max-in-loop-x.result in
    let here : v ≡ P c.loop-x.x = c.max-in-loop-x.ensures ∙ ap (max (get_or c.args.a.now c.loop-x.x 0)) c.max.ensures in
    record {
      long = length-set c.loop-x.all c.loop-x.x v ∙ c.loop-x.invariant.long;
      so_far = written-more P c.loop-x.all c.loop-x.x v (omega arith) c.loop-x.invariant.so_far here;
    }
