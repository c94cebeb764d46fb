-- A missing sibling, or none.
use Rattle.std.proofs.Common.{◌≡◌, ℕ, List, true, Option, None, Some, IfSome, is_some, not, slice_get, below_more, true≢false, arith, sym, ap, subst, ◌∙◌}
use Rattle.block_index.specs.Places.{Cube, child_of}
use Rattle.leaf_set.specs.Meshes.{IsLeaf}
use Rattle.sibling_rule.proofs.own_rules.is_lone.Goals as goal

found_leaf : (at : Option ℕ) (mesh : List Cube) (c : Cube) → is_some at ≡ true → IfSome at (λ i. slice_get mesh i ≡ Some c) → IsLeaf mesh c
found_leaf None mesh c h f = absurd (true≢false (sym h))
found_leaf (Some i) mesh c h f = (i, f)

pub loop-k-preserved : goal.loop-k-preserved
loop-k-preserved c =
    below_more (λ j. IsLeaf c.args.set.now.places (child_of c.in-Some.parent j)) _ c.loop-k.invariant
    (subst (IsLeaf c.args.set.now.places) c.child.ensures.value
    (found_leaf c.position.result c.args.set.now.places c.child.result (c.is_none.ensures ∙ ap not c.if-is_none.false) c.position.ensures.found))

pub returns : goal.returns
returns c = (
  (λ h. absurd (true≢false (sym h))),
  λ lone. absurd (lone.1.2 (subst (λ parent. IsLeaf c.args.set.now.places (child_of parent lone.1.0)) c.in-Some.ensures.value
      (c.loop-k.invariant lone.1.0 (omega (arith, lone.1.1, c.loop-k-test.false))))),
)
