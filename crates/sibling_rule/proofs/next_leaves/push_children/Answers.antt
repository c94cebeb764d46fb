-- One more child.
use Rattle.std.proofs.Common.{◌++◌, [], ◌∷◌, map, arith, sym, ap, ◌∙◌}
use Rattle.std.specs.List.{range_with_len}
use Rattle.std.proofs.lemmas.List.{append_assoc}
use Rattle.std.proofs.lemmas.List.FromFn.{map-range_with_len_more}
use Rattle.block_index.specs.Places.{child_of}
use Rattle.sibling_rule.proofs.next_leaves.push_children.Goals as goal

pub loop-k-preserved : goal.loop-k-preserved
loop-k-preserved c =
    c.in_ok-push.ensures.items
    ∙ ap (λ child. c.loop-k.places.items ++ child ∷ []) c.child.ensures.value
    ∙ ap (λ places. places ++ child_of c.args.leaf c.loop-k.k ∷ []) c.loop-k.invariant
    ∙ append_assoc c.args.places.now.items (map (child_of c.args.leaf) (range_with_len 0 c.loop-k.k)) (child_of c.args.leaf c.loop-k.k ∷ [])
    ∙ ap (λ children. c.args.places.now.items ++ children) (sym (map-range_with_len_more (child_of c.args.leaf) 0 c.loop-k.k c.loop-k.k (omega arith)))
