-- With nothing in flight the levels of the cells are the least that meet the level rules.
use Rattle.std.proofs.Common.{◌≡◌, ℕ, ◌≤◌, min, true, List, [], Some, map, sym, ap, ◌∙◌, subst, arith, inl, inr}
use Rattle.std.specs.Prelude.{Contains, slice_get, slice_index}
use Rattle.std.proofs.lemmas.Bool.{cases_Bool, cond-false}
use Rattle.std.proofs.lemmas.List.{length-map, get_or_past}
use Rattle.std.proofs.lemmas.Option.{slice_get_cases, get_or_from_slice_get}
use Rattle.phase_core.specs.declared.envelope.Envelope.{Envelope}
use Rattle.block_index.specs.Places.{Cube}
use Rattle.block_index.specs.Touching.{Touches}
use Rattle.leaf_set.specs.LevelRules.{wished_level, AreSiblings, KeepsRange, MeetsWish, KeepsJump, KeepsLone, KeepsSiblings, IsLeast}
use Rattle.leaf_set.specs.Solutions.{greatest_levels}
use Rattle.leaf_set.proofs.Boxes.{Touches-sym}
use Rattle.leaf_set.proofs.Leaves.{cube_cases}
use Rattle.leaf_set.proofs.MeshLaws.{IsMesh-HasDistinctLeaves}
use Rattle.leaf_set.proofs.Solutions.{greatest_levels-IsSolution, greatest_at}
use Rattle.adapt_core.specs.declared.adapt_msg.AdaptMsg.{AdaptMsg}
use Rattle.adapt_core.specs.declared.adapt_msg.AdaptMsg.TheVariants.{Level}
use Rattle.adapt_core.specs.Cells.{LeafState, AdaptProblem}
use Rattle.adapt_core.specs.Problem.{mesh_of, wishes_of, openings_of}
use Rattle.adapt_core.specs.Holds.{starts_due, HasAsked, AdaptHolds}
use Rattle.phase_core.specs.Lemmas.Lookups.{get-map}
use Rattle.adapt_core.specs.Lemmas.Leaves.{get_cell, opening_at, length_cells}
use Rattle.adapt_core.specs.Lemmas.Siblings.{AreSiblings-Touches}

abbrev levels_of : List LeafState → List ℕ
levels_of cells = map (λ c. c.level) cells

not_in_none : (x : Envelope AdaptMsg) → Contains [] x → ⊥
not_in_none x h = absurd (omega (arith, h.1))

module _ (p : AdaptProblem) (cells : List LeafState) (holds : AdaptHolds p cells []) where
  level_at : (i : ℕ) (c : LeafState) → slice_get cells i ≡ Some c → slice_index (levels_of cells) i ≡ c.level
  level_at i c at = get_or_from_slice_get (levels_of cells) i c.level 0 (get-map (λ (x : LeafState). x.level) cells i c at)

  all_started : (i : ℕ) (c : LeafState) → slice_get cells i ≡ Some c → c.started ≡ true
  all_started i c at =
      elim (cases_Bool c.started) [
        | inl is ↦ is
        | inr waits ↦
            let due : starts_due (slice_get cells i) ≡ 1 = ap starts_due at ∙ cond-false {A = ℕ} c.started 0 1 waits in
            let none : 0 ≡ starts_due (slice_get cells i) = holds.starts i in
            absurd (omega (arith, due, none))
      ]

  at_least_opening : (i : ℕ) (a : Cube) → slice_get (mesh_of p) i ≡ Some a → slice_index (openings_of p) i ≤ slice_index (levels_of cells) i
  at_least_opening i a at =
      let c = get_cell p cells holds.problem holds.parts i a at in
      omega (arith, opening_at p cells holds.problem holds.parts i c.0 c.1, level_at i c.0 c.1, holds.opening i c.0 c.1 (all_started i c.0 c.1))

  range : KeepsRange p.grid (mesh_of p) (levels_of cells)
  range i a at =
      let c = get_cell p cells holds.problem holds.parts i a at in
      let place : c.0.part.place.level ≡ a.level = ap (λ (q : Cube). q.level) c.2 in
      let here = level_at i c.0 c.1 in
      let top : c.0.level ≤ slice_index (greatest_levels p.grid (mesh_of p)) i = holds.high (greatest_levels p.grid (mesh_of p)) (greatest_levels-IsSolution p.grid (mesh_of p) (wishes_of p) holds.problem.domain holds.problem.mesh holds.problem.balanced) i c.0 c.1 in
      let bottom = holds.low i c.0 c.1 in
      let most = greatest_at p.grid (mesh_of p) i a at in
      (omega (arith, place, here, bottom), omega (arith, here, top, most))

  wish : MeetsWish p.grid (mesh_of p) (wishes_of p) (levels_of cells)
  wish i a w at wishes = let least : min (wished_level w a.level) p.grid.finest ≤ slice_index (openings_of p) i = holds.problem.opening.own.wish i a w at wishes in omega (arith, least, at_least_opening i a at)

  lone : KeepsLone (mesh_of p) (levels_of cells)
  lone i k a at above number none = let least : a.level ≤ slice_index (openings_of p) i = holds.problem.opening.own.lone i k a at above number none in omega (arith, least, at_least_opening i a at)

  has_asked : (i j : ℕ) (b c : LeafState) → slice_get cells i ≡ Some b → slice_get cells j ≡ Some c → Touches p.grid b.part.place c.part.place → HasAsked b.part c.part b.level c.level
  has_asked i j b c at there touch =
      elim (holds.told i j b c at there (all_started i b at) touch) [
        | inl has ↦ has
        | inr flies ↦ absurd (not_in_none (record { to = j; msg = Level i b.level }) flies)
      ]

  jump : KeepsJump p.grid (mesh_of p) (levels_of cells)
  jump i j a c at there touch =
      let x = get_cell p cells holds.problem holds.parts i a at in
      let y = get_cell p cells holds.problem holds.parts j c there in
      let back : Touches p.grid y.0.part.place x.0.part.place = subst (λ q. Touches p.grid q x.0.part.place) (sym y.2) (subst (λ q. Touches p.grid c q) (sym x.2) (Touches-sym p.grid a c touch)) in
      omega (arith, level_at i x.0 x.1, level_at j y.0 y.1, (has_asked j i y.0 x.0 y.1 x.1 back).jump)

  siblings : KeepsSiblings (mesh_of p) (levels_of cells)
  siblings i j a c at there s =
      let x = get_cell p cells holds.problem holds.parts i a at in
      let y = get_cell p cells holds.problem holds.parts j c there in
      let level : x.0.part.place.level ≡ a.level = ap (λ (q : Cube). q.level) x.2 in
      elim (cube_cases a c) [
        | inl same ↦
            let again : slice_get (mesh_of p) j ≡ Some a = subst (λ q. slice_get (mesh_of p) j ≡ Some q) (sym same) there in
            let one : i ≡ j = IsMesh-HasDistinctLeaves p.grid (mesh_of p) holds.problem.domain holds.problem.mesh i j a at again in
            omega (arith, ap (λ k. slice_index (levels_of cells) k) one)
        | inr other ↦
            let touch = Touches-sym p.grid a c (AreSiblings-Touches p.grid a c s other) in
            let back : Touches p.grid y.0.part.place x.0.part.place = subst (λ q. Touches p.grid q x.0.part.place) (sym y.2) (subst (λ q. Touches p.grid c q) (sym x.2) touch) in
            let together : AreSiblings x.0.part.place y.0.part.place = subst (λ q. AreSiblings q y.0.part.place) (sym x.2) (subst (λ q. AreSiblings a q) (sym y.2) s) in
            omega (arith, level, level_at i x.0 x.1, level_at j y.0 y.1, (has_asked j i y.0 x.0 y.1 x.1 back).siblings together)
      ]

  pub levels-IsLeast : IsLeast p.grid (mesh_of p) (wishes_of p) (levels_of cells)
  levels-IsLeast =
      record {
        solves = record {
          one_each = length-map cells (λ (c : LeafState). c.level) ∙ length_cells p cells holds.problem holds.parts;
          range = range;
          wish = wish;
          jump = jump;
          lone = lone;
          siblings = siblings;
        };
        least = λ others h i.
            elim ((slice_get_cases cells i).1) [
              | inl there ↦ omega (arith, level_at i there.0 there.2, holds.high others h i there.0 there.2)
              | inr past ↦
                  let none : slice_index (levels_of cells) i ≡ 0 = get_or_past (levels_of cells) i 0 (omega (arith, past.0, length-map cells (λ (c : LeafState). c.level))) in
                  omega (arith, none)
            ];
      }
