-- What is left of the proof of this function.
use Rattle.std.proofs.Common.{◌≡◌, ◌+◌, arith, sym, ap, subst, ◌∙◌}
use Rattle.block_index.specs.Places.{Cube, IsInside, child_of, parent_of, child_number}
use Rattle.leaf_set.specs.Lemmas.Stretches.{ending, IsFirstFrom}
use Rattle.leaf_set.proofs.Stretches.{next_child, last_child}
use Rattle.leaf_set.proofs.Values.{positive}
use Rattle.leaf_set.proofs.bare_places.place_after.Goals as goal

pub returns-then-next-lt-CHILDREN-clause-found : goal.returns-then-next-lt-CHILDREN-clause-found
returns-then-next-lt-CHILDREN-clause-found c =
    let grid = c.args.domain.now in
    let last = c.loop-parent.last in
    let child : c.child.result ≡ child_of (parent_of last) (child_number last + 1) =
    c.child.ensures.value
    ∙ ap (λ (p : Cube). child_of p (c.child_number-next.result + 1)) c.in-Some.ensures.value
    ∙ ap (λ k. child_of (parent_of last) (k + 1)) c.child_number-next.ensures.number in
    let number = c.child_number-next.ensures.number in
    let first = next_child grid last c.loop-parent.invariant.inside c.parent.ensures.limits.level (positive last.level c.in-Some.ensures.root.1) (omega arith) in
    subst (λ at. IsFirstFrom grid at c.child.result) c.loop-parent.invariant.ends (subst (IsFirstFrom grid (ending last)) (sym child) first)

pub loop-parent-preserved : goal.loop-parent-preserved
loop-parent-preserved c =
    let grid = c.args.domain.now in
    let last = c.loop-parent.last in
    let number = c.child_number-next.ensures.number in
    let up = last_child grid last c.loop-parent.invariant.inside c.parent.ensures.limits.level (positive last.level c.in-Some.ensures.root.1) (omega arith) in
    let parent = sym c.in-Some.ensures.value in
    record {
      inside = subst (IsInside grid) parent up.0;
      ends = ap ending (sym parent) ∙ up.1 ∙ c.loop-parent.invariant.ends;
    }
