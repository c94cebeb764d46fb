-- The limits that end an adapt phase, as the code meets them.
use Rattle.std.proofs.Common.{◌≡◌, ℕ, ◌+◌, ◌<◌, ◌≤◌, true, List, Some, length, refl, sym, ap, subst, ◌∙◌, inl, inr, arith}
use Rattle.std.specs.Prelude.{slice_get}
use Rattle.std.proofs.lemmas.Option.{same_Some, slice_get_within}
use Rattle.std.proofs.lemmas.Bool.{cases_lt}
use Rattle.block_index.specs.Places.{Cube, Grid}
use Rattle.block_index.specs.declared.wish.Wish.{Wish}
use Rattle.block_index.specs.declared.wish.Wish.TheVariants.{Refine}
use Rattle.leaf_set.specs.LevelRules.{IsLeast}
use Rattle.leaf_set.specs.NextMesh.{next_mesh}
use Rattle.params_check.specs.Parameters.{Parameters}
use Rattle.run_core.specs.declared.fault.RunFault.TheVariants.{LevelLimit, BlockLimit}
use Rattle.run_core.specs.Runs.{WishesTooFine, KeepsLevelLimit, PassesLimit, of_level, of_blocks}

module _ (p : Parameters) (phase : ℕ) (mesh : List Cube) (wishes : List Wish) where
  pub level_limit-found : (i : ℕ) (place : Cube) (w : Wish) (finest : ℕ) → p.strict ≡ true → slice_get mesh i ≡ Some place → slice_get wishes i ≡ Some w
      → finest ≡ p.grid.finest → (place.level ≡ finest) × (w ≡ Refine) → ((j : ℕ) (c : Cube) → j < i → WishesTooFine p mesh wishes j c → ⊥)
      → PassesLimit p phase mesh wishes (LevelLimit phase place)
  level_limit-found i place w finest strict leaf at is both none =
      of_level i place strict (record { leaf = leaf; finest = both.0 ∙ is; refine = at ∙ ap Some both.1 }) none refl

  pub level_limit-kept : (i : ℕ) (place : Cube) (w : Wish) (finest : ℕ) → slice_get mesh i ≡ Some place → slice_get wishes i ≡ Some w → finest ≡ p.grid.finest
      → ((place.level ≡ finest) × (w ≡ Refine) → ⊥) → ((j : ℕ) (c : Cube) → j < i → WishesTooFine p mesh wishes j c → ⊥)
      → (j : ℕ) (c : Cube) → j < i + 1 → WishesTooFine p mesh wishes j c → ⊥
  level_limit-kept i place w finest leaf at is other none j c below too =
      elim (cases_lt j i) [
        | inl less ↦ none j c less too
        | inr enough ↦
            let same : i ≡ j = omega arith in
            let here : slice_get mesh i ≡ Some c = subst (λ k. slice_get mesh k ≡ Some c) (sym same) too.leaf in
            let e : place ≡ c = same_Some place c (sym leaf ∙ here) in
            let refine : slice_get wishes i ≡ Some Refine = subst (λ k. slice_get wishes k ≡ Some Refine) (sym same) too.refine in
            other (ap (λ (d : Cube). d.level) e ∙ too.finest ∙ sym is, same_Some w Refine (sym at ∙ refine))
      ]

pub level_limit-none : (p : Parameters) (mesh : List Cube) (wishes : List Wish) (end : ℕ) → length mesh ≤ end
    → ((j : ℕ) (c : Cube) → j < end → WishesTooFine p mesh wishes j c → ⊥) → KeepsLevelLimit p mesh wishes
level_limit-none p mesh wishes end long none strict i place too = none i place (omega (arith, slice_get_within mesh i place too.leaf)) too

blocks-passed : (p : Parameters) (phase : ℕ) (mesh : List Cube) (wishes : List Wish) (levels : List ℕ) (count limit : ℕ) → KeepsLevelLimit p mesh wishes
    → IsLeast p.grid mesh wishes levels → count ≡ length (next_mesh mesh levels) → limit ≡ p.max_blocks → limit < count
    → PassesLimit p phase mesh wishes (BlockLimit phase count limit)
blocks-passed p phase mesh wishes levels count limit keeps least is most many =
    of_blocks levels keeps least (omega arith) (ap (λ n. BlockLimit phase n limit) is ∙ ap (BlockLimit phase (length (next_mesh mesh levels))) most)

pub blocks-ended : (p : Parameters) (phase : ℕ) (grid : Grid) (mesh : List Cube) (wishes : List Wish) (levels told : List ℕ) (count limit : ℕ)
    → KeepsLevelLimit p mesh wishes → grid ≡ p.grid → told ≡ levels → IsLeast grid mesh wishes levels
    → count ≡ length (next_mesh mesh told) → limit ≡ p.max_blocks → limit < count → PassesLimit p phase mesh wishes (BlockLimit phase count limit)
blocks-ended p phase grid mesh wishes levels told count limit keeps same taken least is most many =
    let here : IsLeast p.grid mesh wishes levels = subst (λ (g : Grid). IsLeast g mesh wishes levels) same least in
    blocks-passed p phase mesh wishes levels count limit keeps here (is ∙ ap (λ (ls : List ℕ). length (next_mesh mesh ls)) taken) most many
