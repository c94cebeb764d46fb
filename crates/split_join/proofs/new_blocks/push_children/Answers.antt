use Rattle.std.proofs.Common.{◌≡◌, ℕ, ◌+◌, List, [], ◌∷◌, ◌++◌, map, sym, ap, ◌∙◌, arith, append_assoc}
use Rattle.std.specs.List.{range_with_len}
use Rattle.std.proofs.lemmas.List.FromFn.{map-range_with_len_more}
use Rattle.block_fields.specs.Blocks.{BlockState}
use Rattle.split_join.specs.Lemmas.NewBlocks.{child_block}
use Rattle.split_join.proofs.new_blocks.push_children.Goals as goal

-- one child more
more : (b : BlockState) (k : ℕ) (before now next : List BlockState) (x : BlockState) → next ≡ now ++ x ∷ [] → now ≡ before ++ map (child_block b) (range_with_len 0 k) → x ≡ child_block b k → next ≡ before ++ map (child_block b) (range_with_len 0 (k + 1))
more b k before now next x pushed so_far is =
    let xs = map (child_block b) (range_with_len 0 k) in
    pushed
    ∙ ap (λ l. l ++ (x ∷ [])) so_far
    ∙ append_assoc before xs (x ∷ [])
    ∙ ap (λ x. before ++ (xs ++ (x ∷ []))) is
    ∙ ap (λ l. before ++ l) (sym (map-range_with_len_more (child_block b) 0 k k (omega arith)))

pub loop-k-preserved : goal.loop-k-preserved
loop-k-preserved c =
    more c.args.block.now c.loop-k.k c.args.next.now.items c.loop-k.next.items c.push.new.self.items c.in_ok-child_from.field-0 c.in_ok-push.ensures.items c.loop-k.invariant c.in_ok-child_from.ensures
