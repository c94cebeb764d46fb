-- The blocks of a run that are to be advanced.
use Rattle.std.proofs.Common.{◌≡◌, ℕ, List, Some, sym, subst}
use Rattle.std.specs.Prelude.{slice_get}
use Rattle.block_fields.specs.Blocks.{BlockState}
use Rattle.params_check.specs.Parameters.{Parameters}
use Rattle.parallel_maps.specs.Advances.{CanAdvance}
use Rattle.run_core.specs.Works.{IsAdvance, Standing}

-- each can be
pub can-advance : (s : Standing) (q : Parameters) (blocks : List BlockState) → q ≡ s.course.parameters → IsAdvance s blocks → (i : ℕ) (b : BlockState)
    → slice_get blocks i ≡ Some b → CanAdvance q b
can-advance s q blocks same work i b at =
    let one = work.holds.are_blocks.each i b at in
    subst (λ (p : Parameters). CanAdvance p b) (sym same) (record {
      inside = work.inside i b at;
      edge = one.same_edge;
      fields = one.same_fields;
      small = work.small i b at;
    })
