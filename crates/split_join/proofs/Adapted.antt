-- The blocks of the next mesh hold the samples of the old state.
use Rattle.std.proofs.Common.{◌≡◌, ℕ, ◌<◌, ◌≤◌, sym, ap, ◌∙◌, subst, arith, List, [], Some, slice_get, slice_index_or, map, sum, sum_by, inl, inr}
use Rattle.std.specs.List.{range_with_len}
use Rattle.std.proofs.lemmas.Bool.{cases_lt}
use Rattle.std.proofs.lemmas.List.{length-map, get_or_past}
use Rattle.std.proofs.lemmas.List.FromFn.{length-map-range_with_len}
use Rattle.std.proofs.lemmas.List.Sums.{get_or-le-sum_by}
use Rattle.std.proofs.lemmas.Option.{slice_get_within, get_or_from_slice_get}
use Rattle.block_index.specs.Places.{Cube, Grid, IsDomain, IsInside, child_of}
use Rattle.block_index.specs.declared.wish.Wish.{Wish}
use Rattle.leaf_set.specs.Meshes.{IsLeaf, IsMesh, IsBalanced}
use Rattle.leaf_set.specs.LevelRules.{IsSolution}
use Rattle.leaf_set.specs.NextMesh.{next_mesh}
use Rattle.leaf_set.proofs.Containment.{Contains, Contains-child_of}
use Rattle.leaf_set.proofs.MeshFacts.{leaf_near, leaves_apart, leaves_distinct}
use Rattle.block_fields.specs.Blocks.{BlockState, amounts_of, zero_block}
use Rattle.block_fields.specs.BlockStates.{AreBlocksOf, IsBlockOf, state_of}
use Rattle.block_fields.specs.Cells.{cells_of}
use Rattle.block_fields.specs.Divisions.{parts_of, sums_of, split_amounts, join_amounts}
use Rattle.block_fields.specs.Samples.{sample, adapted}
use Rattle.block_fields.specs.States.{IsState, total}
use Rattle.block_fields.proofs.Adapting.{total-adapted}
use Rattle.block_fields.proofs.BlockSamples.{samples-kept, samples-split, samples-joined}
use Rattle.block_fields.proofs.FilledStates.{at-map, map-at}
use Rattle.block_fields.proofs.StatesOfBlocks.{HaveCells-amounts, IsState-state_by, filled-state_by, total-state_by}
use Rattle.prolong_restrict.specs.Families.{FieldsFit, most_in_field}
use Rattle.split_join.specs.Applying.{MadeOfZeros}
use Rattle.split_join.proofs.Lists.{element_there, same_element}
use Rattle.split_join.proofs.NewBlocks.{IsBlockOf-child_block, IsBlockOf-joined_block}
use Rattle.split_join.proofs.Walks.{ComesFrom, kept, split, joined}

-- a mesh has a leaf
some_leaf : (grid : Grid) (mesh : List Cube) → IsDomain grid → IsMesh grid mesh → (i : ℕ) × (a : Cube) × (slice_get mesh i ≡ Some a)
some_leaf grid mesh g m =
    let q : Cube = record { level = 0; x = 0; y = 0; z = 0 } in
    let inside : IsInside grid q = record { level = omega arith; x = omega (arith, g.some_x); y = omega (arith, g.some_y); z = omega (arith, g.some_z) } in
    let o = leaf_near grid mesh g m q inside in
    (o.0, o.1, o.3)

module _ (grid : Grid) (mesh : List Cube) (g : IsDomain grid) (m : IsMesh grid mesh) (balanced : IsBalanced grid mesh) (n fields depth : ℕ) (blocks : List BlockState) (each : AreBlocksOf mesh n fields depth blocks) where
  leaf_of : (i : ℕ) (b : BlockState) → slice_get blocks i ≡ Some b → slice_get mesh i ≡ Some b.place
  leaf_of i b e = ap (λ (l : List Cube). slice_get l i) (sym each.places) ∙ at-map (λ (b : BlockState). b.place) blocks i b e

  least : 2 ≤ n
  least =
      let o = some_leaf grid mesh g m in
      let b = map-at (λ (b : BlockState). b.place) blocks o.0 o.1 (ap (λ (l : List Cube). slice_get l o.0) each.places ∙ o.2) in
      let w = each.each o.0 b.0 b.1 in
      omega (arith, w.limits.least, w.same_edge)

  IsState-old : IsState (state_of grid n fields blocks)
  IsState-old =
      IsState-state_by (λ b. b.amounts) grid mesh n fields blocks each.places (HaveCells-amounts mesh n fields depth blocks each) g m balanced least

  -- ---- one block

  sized : (b : BlockState) → ComesFrom mesh blocks b → IsBlockOf n fields depth b
  sized b (kept i e) = each.each i b e
  sized b (split i k a e h v) = subst (IsBlockOf n fields depth) (sym v) (IsBlockOf-child_block n fields depth a k (each.each i a e))
  sized b (joined p family eight members v) =
      let x = element_there family 0 (omega arith) in
      let o = members 0 x.0 x.1 in
      subst (IsBlockOf n fields depth) (sym (v n fields depth each)) (IsBlockOf-joined_block n fields depth x.0 p family (each.each o.1.0 x.0 o.1.1))

  -- its cells hold the samples
  sampled : (b : BlockState) → ComesFrom mesh blocks b → b.amounts ≡ map (λ f. map (sample (state_of grid n fields blocks) f) (cells_of n b.place)) (range_with_len 0 fields)
  sampled b (kept i e) =
      sym (samples-kept (state_of grid n fields blocks) IsState-old i b.place b.amounts (at-map (λ (b : BlockState). b.place) blocks i b e) (at-map (λ (b : BlockState). b.amounts) blocks i b e))
  sampled b (split i k a e h v) =
      let s = state_of grid n fields blocks in
      subst (λ b. b.amounts ≡ map (λ f. map (sample s f) (cells_of n b.place)) (range_with_len 0 fields)) (sym v)
      (ap (λ n. split_amounts n (child_of a.place k) a.amounts) (each.each i a e).same_edge
      ∙ sym (samples-split s IsState-old i k a.place a.amounts (at-map (λ (b : BlockState). b.place) blocks i a e) (at-map (λ (b : BlockState). b.amounts) blocks i a e) h))
  sampled b (joined p family eight members v) =
      let s = state_of grid n fields blocks in
      subst (λ b. b.amounts ≡ map (λ f. map (sample s f) (cells_of n b.place)) (range_with_len 0 fields)) (sym (v n fields depth each))
      (sym
      (samples-joined s IsState-old p (map (λ (b : BlockState). b.amounts) family) (length-map family (λ (b : BlockState). b.amounts) ∙ eight) (λ k amounts t.
      let x = map-at (λ (b : BlockState). b.amounts) family k amounts t in
      let o = members k x.0 x.1 in (
        o.1.0,
        at-map (λ (b : BlockState). b.place) blocks o.1.0 x.0 o.1.1 ∙ ap Some o.0,
        at-map (λ (b : BlockState). b.amounts) blocks o.1.0 x.0 o.1.1 ∙ ap Some (sym x.2),
      ))))

  -- a block whose leaf stays is the old one
  pub same_block : (i : ℕ) (a b : BlockState) → slice_get blocks i ≡ Some a → ComesFrom mesh blocks b → b.place ≡ a.place → b ≡ a
  same_block i a b at (kept j e) here =
      let same : i ≡ j = leaves_distinct grid mesh g m i j a.place (leaf_of i a at) (leaf_of j b e ∙ ap Some here) in
      same_element blocks j i b a e at (sym same)
  same_block i a b at (split j k c e h v) here =
      let place : a.place ≡ child_of c.place k = sym here ∙ ap (λ (b : BlockState). b.place) v in
      let within : Contains 1 c.place a.place = subst (Contains 1 c.place) (sym place) (Contains-child_of c.place k h) in
      let same : j ≡ i = leaves_apart grid mesh g m j i 1 c.place a.place (leaf_of j c e) (leaf_of i a at) within in
      let one : c ≡ a = same_element blocks j i c a e at same in
      let l = ap (λ (c : Cube). c.level) place in
      let u = ap (λ (b : BlockState). b.place.level) one in
      absurd (omega arith)
  same_block i a b at (joined p family eight members v) here =
      let x = element_there family 0 (omega arith) in
      let o = members 0 x.0 x.1 in
      let place : a.place ≡ p = sym here ∙ ap (λ (b : BlockState). b.place) (v n fields depth each) in
      let child : x.0.place ≡ child_of a.place 0 = o.0 ∙ ap (λ p. child_of p 0) (sym place) in
      let within : Contains 1 a.place x.0.place = subst (Contains 1 a.place) (sym child) (Contains-child_of a.place 0 (omega arith)) in
      let same : i ≡ o.1.0 = leaves_apart grid mesh g m i o.1.0 1 a.place x.0.place (leaf_of i a at) (leaf_of o.1.0 x.0 o.1.1) within in
      let one : a ≡ x.0 = same_element blocks i o.1.0 a x.0 at o.1.1 same in
      let l = ap (λ (c : Cube). c.level) child in
      let u = ap (λ (b : BlockState). b.place.level) one in
      absurd (omega arith)

  -- any other is made of zeros
  pub made_of_zeros : (b : BlockState) → ComesFrom mesh blocks b → (IsLeaf mesh b.place → ⊥) → MadeOfZeros b
  made_of_zeros b (kept i e) none = absurd (none (i, leaf_of i b e))
  made_of_zeros b (split i k a e h v) none =
      let place = child_of a.place k in
      let amounts = split_amounts a.edge place a.amounts in
      subst MadeOfZeros (sym v)
      (ap (λ l. record (zero_block place a.edge l a.depth) { amounts = amounts }) (sym (length-map a.amounts (parts_of a.edge place))))
  made_of_zeros b (joined p family eight members v) none =
      let lists = map (λ (b : BlockState). b.amounts) family in
      let amounts = join_amounts n fields p lists in
      subst MadeOfZeros (sym (v n fields depth each))
      (ap (λ l. record (zero_block p n l depth) { amounts = amounts }) (sym (length-map-range_with_len (λ f. sums_of n p (map (λ b. slice_index_or b f []) lists)) 0 fields)))

  -- ---- all blocks

  module _ (new : List Cube) (next : List BlockState) (places : map (λ b. b.place) next ≡ new) (origins : (j : ℕ) (b : BlockState) → slice_get next j ≡ Some b → ComesFrom mesh blocks b) where
    pub AreBlocksOf-next : AreBlocksOf new n fields depth next
    AreBlocksOf-next = record { places = places; each = λ j b e. sized b (origins j b e) }

    pub state-adapted : (levels : List ℕ) → new ≡ next_mesh mesh levels → state_of grid n fields next ≡ adapted (state_of grid n fields blocks) levels
    state-adapted levels e =
        filled-state_by (λ b. b.amounts) grid (next_mesh (map (λ b. b.place) blocks) levels) n fields next (sample (state_of grid n fields blocks)) (places ∙ e ∙ ap (λ l. next_mesh l levels) (sym each.places)) (λ j b t. sampled b (origins j b t))

    pub total-next : (wishes : List Wish) (levels : List ℕ) (f : ℕ) → IsSolution grid mesh wishes levels → new ≡ next_mesh mesh levels → f < fields → total (state_of grid n fields next) f ≡ total (state_of grid n fields blocks) f
    total-next wishes levels f sol e h =
        ap (λ s. total s f) (state-adapted levels e)
        ∙ total-adapted (state_of grid n fields blocks) wishes levels f IsState-old (subst (λ l. IsSolution grid l wishes levels) (sym each.places) sol) h

  -- ---- what each block holds

  pub fields_fit : ((f : ℕ) → f < fields → total (state_of grid n fields blocks) f ≤ most_in_field) → FieldsFit blocks
  fields_fit few i f b e =
      elim (cases_lt f fields) [
        | inl h ↦
            let t = few f h in
            let all = total-state_by (λ b. b.amounts) grid n fields blocks f in
            let own : sum (amounts_of b f) ≤ sum_by (λ b. sum (amounts_of b f)) blocks = subst (λ x. sum (amounts_of x f) ≤ sum_by (λ b. sum (amounts_of b f)) blocks) (get_or_from_slice_get blocks i b b e) (get_or-le-sum_by (λ b. sum (amounts_of b f)) blocks i b (slice_get_within blocks i b e)) in
            omega arith
        | inr past ↦
            let w = each.each i b e in
            let none : amounts_of b f ≡ [] = get_or_past b.amounts f [] (omega (arith, w.same_fields)) in
            subst (λ q. sum q ≤ most_in_field) (sym none) (omega arith)
      ]
