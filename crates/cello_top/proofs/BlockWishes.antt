-- The wishes of a run's blocks are those of the next phase.
use Rattle.std.proofs.Common.{◌≡◌, ℕ, ◌+◌, ◌<◌, ◌≤◌, ◌^◌, List, Some, All, length, map, refl, sym, ap, ◌∙◌, subst, arith}
use Rattle.std.specs.Prelude.{slice_get}
use Rattle.block_index.specs.declared.wish.Wish.{Wish}
use Rattle.block_index.specs.Places.{Cube}
use Rattle.block_fields.specs.Blocks.{BlockState, seen_at}
use Rattle.block_fields.specs.States.{IsState, State, total}
use Rattle.params_check.specs.Limits.{KeepsCriterion}
use Rattle.params_check.specs.declared.criterion.Criterion.{Criterion}
use Rattle.params_check.specs.Parameters.{Parameters}
use Rattle.criteria.specs.Samples.{IsSmall}
use Rattle.criteria.specs.Wishes.{criteria_wish}
use Rattle.criteria.proofs.MeshWishes.{wishes-wishes_in}
use Rattle.run_core.specs.declared.step.Step.TheVariants.{Wishes}
use Rattle.run_core.specs.CourseLimits.{IsCourse}
use Rattle.run_core.specs.Courses.{Course}
use Rattle.run_core.specs.Runs.{AreBlocksFor, blocks_state, phase_wishes}
use Rattle.run_core.specs.Works.{AreWishes, HoldAround, HoldState}
use Rattle.run_core.proofs.Refreshing.{small-each}
use Rattle.run_core.proofs.RunTotals.{Runs-IsState, Runs-most}

module _ (c : Course) (w : IsCourse c) (phases : ℕ) (mesh : List Cube) (blocks : List BlockState) (holds : HoldState Wishes c phases mesh blocks) where
  state-is : IsState (blocks_state c.parameters blocks)
  state-is = subst (λ (s : State). IsState s) holds.stands.is (Runs-IsState c w phases holds.stands.run holds.stands.runs)

  few : (f : ℕ) → f < length c.parameters.fields → total (blocks_state c.parameters blocks) f ≤ 2 ^ 40
  few f h = subst (λ (s : State). total s f ≤ 2 ^ 40) holds.stands.is (Runs-most c w phases f holds.stands.run holds.stands.runs h)

  -- the criteria are within the limits of each block's fields
  keeps-each : (i : ℕ) (b : BlockState) → slice_get blocks i ≡ Some b → All (KeepsCriterion (length b.amounts)) c.parameters.criteria
  keeps-each i b at = subst (λ (n : ℕ). All (KeepsCriterion n) c.parameters.criteria) (sym (holds.are_blocks.each i b at).same_fields) w.limits.criteria

  AreWishes-blocks : HoldAround c.parameters blocks → (wishes : List Wish)
      → wishes ≡ map (λ b. criteria_wish b.edge (c.ended + phases + 1) c.parameters.criteria (seen_at b) b.place) blocks → AreWishes c phases wishes
  AreWishes-blocks around wishes is =
      let places : List Cube = map (λ (b : BlockState). b.place) blocks in
      let low = w.limits.block.low in
      let are : AreBlocksFor c.parameters places blocks = record { places = refl; each = holds.are_blocks.each } in
      let q = c.parameters in
      record {
        run = holds.stands.run;
        runs = holds.stands.runs;
        are = is ∙ wishes-wishes_in q.grid places q.block (length q.fields) _ blocks (c.ended + phases + 1) q.criteria w.limits.domain state-is.mesh state-is.balanced
            (omega (arith, low)) are w.limits.criteria around
            ∙ ap (λ (s : State). phase_wishes q (c.ended + phases + 1) s) (sym holds.stands.is);
      }

  -- the same of blocks and criteria as they were read
  module _ (shown : List BlockState) (seen : shown ≡ blocks) (q : Parameters) (same : q ≡ c.parameters) (criteria : List Criterion) (read : criteria ≡ q.criteria) where
    asked : criteria ≡ c.parameters.criteria
    asked = read ∙ ap (λ (x : Parameters). x.criteria) same

    pub keeps-shown : (i : ℕ) (b : BlockState) → slice_get shown i ≡ Some b → All (KeepsCriterion (length b.amounts)) criteria
    keeps-shown i b at =
        subst (λ (ks : List Criterion). All (KeepsCriterion (length b.amounts)) ks) (sym asked)
        (keeps-each i b (subst (λ (bs : List BlockState). slice_get bs i ≡ Some b) seen at))

    pub small-shown : HoldAround c.parameters blocks → (i : ℕ) (b : BlockState) → slice_get shown i ≡ Some b → IsSmall b
    small-shown around i b at = small-each c.parameters mesh blocks holds.are_blocks few state-is around i b (subst (λ (bs : List BlockState). slice_get bs i ≡ Some b) seen at)

    pub AreWishes-shown : HoldAround c.parameters blocks → (number : ℕ) (wishes : List Wish) → number ≡ c.ended + phases + 1
        → wishes ≡ map (λ b. criteria_wish b.edge number criteria (seen_at b) b.place) shown → AreWishes c phases wishes
    AreWishes-shown around number wishes numbered is =
        AreWishes-blocks around wishes
        (is ∙ λ j. map (λ (b : BlockState). criteria_wish b.edge (numbered j) (asked j) (seen_at b) b.place) (seen j))
