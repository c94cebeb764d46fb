-- The refresh of a run's blocks: it begins over their state, and at its end they hold the state and its samples.
use Rattle.std.proofs.Common.{◌≡◌, ℕ, zero, suc, ◌<◌, ◌≤◌, ◌^◌, List, [], ◌∷◌, Some, length, map, refl, sym, ap, ◌∙◌, subst, arith, inl, inr, ℤ}
use Rattle.std.specs.Prelude.{slice_get, slice_index_or, sum, sum_by}
use Rattle.std.proofs.lemmas.Bool.{cases_lt}
use Rattle.std.proofs.lemmas.List.Sums.{sum_by-cons}
use Rattle.std.proofs.lemmas.Option.{none-some, same_Some}
use Rattle.block_index.specs.Places.{Cube}
use Rattle.leaf_set.specs.Tiling.{Tiling}
use Rattle.block_fields.specs.Blocks.{BlockState, amounts_of}
use Rattle.block_fields.specs.BlockStates.{AreBlocksOf, HoldsSamples, IsLeafOf, state_of}
use Rattle.block_fields.specs.Shells.{IsAround}
use Rattle.block_fields.specs.States.{IsState, State, total}
use Rattle.block_fields.proofs.FilledStates.{at-map}
use Rattle.block_fields.proofs.SampleBounds.{sample-most}
use Rattle.block_fields.proofs.SamplesAround.{seen-samples}
use Rattle.block_fields.proofs.StatesOfBlocks.{total-state_by}
use Rattle.initial_fill.specs.RootBlocks.{root_depth}
use Rattle.refresh_phase.specs.Cells.{LeafPart, RefreshProblem, Setting, own_cells, state_in}
use Rattle.refresh_phase.proofs.Beginning.{state-own}
use Rattle.params_check.specs.Parameters.{Parameters}
use Rattle.criteria.specs.Samples.{IsSmall}
use Rattle.run_core.specs.Runs.{AreBlocksFor, blocks_state}
use Rattle.run_core.specs.Works.{HoldAround, setting_of}

-- one element's number is no more than the sum of all
sum-one_of : (f : BlockState → ℕ) (xs : List BlockState) (i : ℕ) (x : BlockState) → slice_get xs i ≡ Some x → f x ≤ sum_by f xs
sum-one_of f [] i x h = absurd (none-some x h)
sum-one_of f (y ∷ ys) zero x h = let e : f y ≡ f x = ap f (same_Some y x h) in omega (arith, e, sum_by-cons f y ys)
sum-one_of f (y ∷ ys) (suc i) x h = let rest = sum-one_of f ys i x h in omega (arith, rest, sum_by-cons f y ys)

-- past the end of a list nothing is summed
sum-past : (xs : List (List ℕ)) (f : ℕ) → length xs ≤ f → sum (slice_index_or xs f []) ≡ 0
sum-past [] f h = refl
sum-past (x ∷ xs) zero h = absurd (omega arith)
sum-past (x ∷ xs) (suc f) h = sum-past xs f (omega arith)

module _ (p : Parameters) (mesh : List Cube) (blocks : List BlockState) (are : AreBlocksFor p mesh blocks)
    (few : (f : ℕ) → f < length p.fields → total (blocks_state p blocks) f ≤ 2 ^ 40) where
  -- no field of a block adds up to more than its total
  pub few-each : (i f : ℕ) (b : BlockState) → slice_get blocks i ≡ Some b → sum (amounts_of b f) ≤ 2 ^ 42
  few-each i f b at =
      elim (cases_lt f (length p.fields)) [
        | inl known ↦
            let most : total (blocks_state p blocks) f ≤ 2 ^ 40 = few f known in
            let one = sum-one_of (λ x. sum (amounts_of x f)) blocks i b at in
            let all = total-state_by (λ (x : BlockState). x.amounts) p.grid p.block (length p.fields) blocks f in
            omega (arith, most, one, all)
        | inr past ↦
            let fields : length b.amounts ≡ length p.fields = (are.each i b at).same_fields in
            let none = sum-past b.amounts f (omega (arith, fields, past)) in
            omega (arith, none)
      ]

  -- where the ghosts hold samples, all that a block sees is small
  pub small-each : IsState (blocks_state p blocks) → HoldAround p blocks → (i : ℕ) (b : BlockState) → slice_get blocks i ≡ Some b → IsSmall b
  small-each is around i b at = λ f x y z hf hx hy hz.
      let one = are.each i b at in
      let s : State = blocks_state p blocks in
      let leaf : IsLeafOf s i b = record {
        same_edge = one.same_edge;
        leaf = at-map (λ (b : BlockState). b.place) blocks i b at;
        held = at-map (λ (b : BlockState). b.amounts) blocks i b at;
      } in
      let known : f < length p.fields = subst (λ n. f < n) one.same_fields hf in
      let deep : 1 ≡ b.depth = sym one.same_depth in
      let wide : (u : ℤ) → IsAround b.edge 1 u → IsAround b.edge b.depth u = λ u h. subst (λ (d : ℕ). IsAround b.edge d u) deep h in
      let seen = seen-samples s is i b leaf (around i b at) f x y z known (wide x hx) (wide y hy) (wide z hz) in
      let most : total s f ≤ 2 ^ 40 = few f known in
      let sampled = sample-most s is f known _ in
      let both = subst (λ (q : ℕ). q ≤ total s f) (sym seen) sampled in
      omega (arith, both, most)

-- the blocks with which a refresh begins
pub state-begun : (p : Parameters) (set : Tiling) (blocks : List BlockState) (problem : RefreshProblem) → set.grid ≡ p.grid
    → state_in problem ≡ state_of set.grid p.block (length p.fields) blocks → state_in problem ≡ blocks_state p blocks
state-begun p set blocks problem same state = state ∙ ap (λ grid. state_of grid p.block (length p.fields) blocks) same

pub setting-begun : (p : Parameters) (set : Tiling) (setting : Setting) → set.grid ≡ p.grid
    → setting ≡ record { grid = set.grid; edge = p.block; fields = length p.fields; depth = root_depth } → setting ≡ setting_of p
setting-begun p set setting same is = is ∙ ap (λ grid. record { grid = grid; edge = p.block; fields = length p.fields; depth = root_depth }) same

-- the blocks at its end
module _ (p : Parameters) (problem : RefreshProblem) (setting : problem.setting ≡ setting_of p) (blocks : List BlockState)
    (amounts : map own_cells blocks ≡ map (λ (k : LeafPart). k.own) problem.parts) where
  pub state-refreshed : state_in problem ≡ blocks_state p blocks
  state-refreshed =
      let own : List BlockState = map (λ (k : LeafPart). k.own) problem.parts in
      ap (λ (s : Setting). state_of s.grid s.edge s.fields own) setting
      ∙ ap (λ (bs : List BlockState). state_of p.grid p.block (length p.fields) bs) (sym amounts)
      ∙ state-own p.grid p.block (length p.fields) blocks

  pub AreBlocksFor-refreshed : AreBlocksOf (state_in problem).leaves problem.setting.edge problem.setting.fields problem.setting.depth blocks
      → AreBlocksFor p (state_in problem).leaves blocks
  AreBlocksFor-refreshed are = subst (λ (s : Setting). AreBlocksOf (state_in problem).leaves s.edge s.fields s.depth blocks) setting are

  pub HoldAround-refreshed : ((i : ℕ) (b : BlockState) → slice_get blocks i ≡ Some b → HoldsSamples (state_in problem) b) → HoldAround p blocks
  HoldAround-refreshed samples = λ i b at. subst (λ (s : State). HoldsSamples s b) state-refreshed (samples i b at)
