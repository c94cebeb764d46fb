-- The new blocks are those of the next set, and their totals are as before.
use Rattle.std.proofs.Common.{◌≡◌, ℕ, ◌^◌, ◌≤◌, subst, sym}
use Rattle.block_index.specs.Places.{Grid}
use Rattle.block_fields.specs.BlockStates.{state_of}
use Rattle.block_fields.specs.States.{total}
use Rattle.cello_bench.proofs.inputs.moved.Goals as goal

pub returns : goal.returns
returns c =
    let (n, fields, depth, are, few) = c.requires.blocks in
    record {
      blocks = (
        n,
        fields,
        depth,
        c.in_ok-blocks.ensures.blocks n fields depth are,
        λ f within. subst (λ (g : Grid). total (state_of g n fields c.in_ok-blocks.blocks.items) f ≤ 2 ^ 42) (sym c.requires.same)
            (subst (λ (t : ℕ). t ≤ 2 ^ 42) (sym (c.in_ok-blocks.ensures.totals n fields depth f are within)) (few f within)),
      );
    }
