-- What flows out of the domain through the outer sides of one leaf.
use Rattle.std.proofs.Common.{◌≡◌, ℕ, ◌+◌, ◌-◌, ◌*◌, ◌/◌, ◌%◌, ◌^◌, ◌<◌, ◌==◌, ◌&&◌, ◌||◌, Bool, true, false, cond, Some, length, refl, sym, ap, ◌∙◌, arith, inl, inr, sum, sum_by, slice_get, slice_index}
use Rattle.std.proofs.lemmas.Bool.{cases_Bool, cases_eq, cond-false, cond-true}
use Rattle.std.proofs.lemmas.Bool.Decides.{nat_tests}
use Rattle.std.proofs.lemmas.Nat.{mod_below}
use Rattle.block_index.specs.Places.{Cube}
use Rattle.block_fields.specs.Blocks.{BlockState}
use Rattle.block_fields.specs.Cells.{block_of, cells_of}
use Rattle.block_fields.specs.States.{IsState, State}
use Rattle.block_fields.proofs.CellFacts.{cells_of-block}
use Rattle.block_fields.proofs.Sums.{sum-add, sum-same, sum-zero}
use Rattle.grid_fluxes.specs.Axes.{Axis, along_x, along_y, along_z, coordinate, is_outside, next_cell, previous_cell, trees_along}
use Rattle.grid_fluxes.specs.BoundaryFlows.{out_of, outer_after, outer_before}
use Rattle.grid_fluxes.specs.Fluxes.{Fluxes}
use Rattle.grid_fluxes.proofs.Besides.{leaf_cell-inside}
use Rattle.advect.specs.Coordinates.{across_first, across_second, face_number}
use Rattle.advect.specs.FaceFluxes.{FaceFluxState, IsFaceFluxes, high_of, low_of}
use Rattle.advect.proofs.Limits.{high-are, low-are}
use Rattle.advect.proofs.OuterFaces.{outer-after, outer-before}
use Rattle.flux_register.specs.Made.{HasFluxesOf}
use Rattle.flux_register.specs.Lemmas.Outward.{is_outer_side, out_along, out_of_leaf}
use Rattle.flux_register.proofs.OuterSums.{along_in, face_in, in_layer, layer-sum}

-- ---- on one axis, of k blocks of n cells: the next cell of x is outside, or the one before it

-- of an end of an axis, where x is the last or the first cell of its block
abbrev at_end : Bool → ℕ → ℕ → Bool
at_end w p k = cond w false (p + 1 == k)

abbrev at_beginning : Bool → ℕ → Bool
at_beginning w p = cond w false (p == 0)

after-outside : (w : Bool) (u n p k : ℕ) → u < n → cond w false (((u + 1 == 0) && (p == 0)) || ((u + 1 == n) && (p + 1 == k))) ≡ cond (at_end w p k) (u == n - 1) false
after-outside true u n p k h = refl
after-outside false u n p k h =
    elim (cases_eq (p + 1) k) [
      | inl e ↦ elim (cases_eq (u + 1) n) [ inl f ↦ grind (arith, nat_tests) | inr f ↦ grind (arith, nat_tests) ]
      | inr e ↦ grind (arith, nat_tests)
    ]

before-outside : (w : Bool) (u n p k : ℕ) → u < n → cond w false (((u == 0) && (p == 0)) || ((u == n) && (p + 1 == k))) ≡ cond (at_beginning w p) (u == 0) false
before-outside true u n p k h = refl
before-outside false u n p k h =
    elim (cases_eq p 0) [
      | inl e ↦ elim (cases_eq u 0) [ inl f ↦ grind (arith, nat_tests) | inr f ↦ grind (arith, nat_tests) ]
      | inr e ↦ grind (arith, nat_tests)
    ]

-- what counts where a number is another
same : (u v x y : ℕ) → (u ≡ v → x ≡ y) → cond (u == v) x 0 ≡ cond (u == v) y 0
same u v x y e =
    elim (cases_eq u v) [
      | inl here ↦ let is : (u == v) ≡ true = grind (arith, nat_tests) in (λ t. cond (is t) x 0) ∙ e here ∙ (λ t. cond (sym is t) y 0)
      | inr away ↦ let not : (u == v) ≡ false = grind (arith, nat_tests) in (λ t. cond (not t) x 0) ∙ (λ t. cond (sym not t) y 0)
    ]

module _ (s : State) (w : IsState s) (fluxes : Fluxes) (b : BlockState) (faces : FaceFluxState) (at : ℕ) (leaf : slice_get s.leaves at ≡ Some b.place)
    (edge : b.edge ≡ s.edge) (limits : IsFaceFluxes faces) (faces_edge : faces.edge ≡ s.edge) (faces_fields : faces.fields ≡ s.fields) (has : HasFluxesOf s fluxes b faces)
    (f : ℕ) (hf : f < s.fields) where
  some : 0 < s.edge
  some = let e = w.edge in omega (arith, e)

  known : f < faces.fields
  known = omega (arith, hf, faces_fields)

  high-long : (a : Axis) → length (high_of faces f a) ≡ s.edge * s.edge
  high-long a = (high-are faces limits f known a).0 ∙ ap (λ n. n * n) faces_edge

  low-long : (a : Axis) → length (low_of faces f a) ≡ s.edge * s.edge
  low-long a = (low-are faces limits f known a).0 ∙ ap (λ n. n * n) faces_edge

  module _ (c : Cube) (e : block_of s.edge c ≡ b.place) where
    inside : (a : Axis) → coordinate a c < trees_along a s.grid * 2 ^ c.level * s.edge
    inside along_x = leaf_cell-inside along_x s.grid s.edge c some (w.mesh.inside at (block_of s.edge c) (leaf ∙ ap Some (sym e)))
    inside along_y = leaf_cell-inside along_y s.grid s.edge c some (w.mesh.inside at (block_of s.edge c) (leaf ∙ ap Some (sym e)))
    inside along_z = leaf_cell-inside along_z s.grid s.edge c some (w.mesh.inside at (block_of s.edge c) (leaf ∙ ap Some (sym e)))

    -- past the end lies the outside exactly where the leaf's side is an outer one and the cell lies in its last layer
    outside-after : (a : Axis) → is_outside a s.grid s.edge (next_cell a s.grid s.edge c) ≡ cond (is_outer_side s.grid b.place a true) (along_in s.edge a c == s.edge - 1) false
    outside-after a =
        by_axis a
        ∙ ap (λ (p : Cube). cond (is_outer_side s.grid p a true) (along_in s.edge a c == s.edge - 1) false) e
      where
        by_axis : (a : Axis) → is_outside a s.grid s.edge (next_cell a s.grid s.edge c) ≡ cond (is_outer_side s.grid (block_of s.edge c) a true) (along_in s.edge a c == s.edge - 1) false
        by_axis along_x = sym (outer-after (s.grid.trees_x * 2 ^ c.level) s.edge c.x some (inside along_x) s.grid.wraps_x) ∙ after-outside s.grid.wraps_x (c.x % s.edge) s.edge (c.x / s.edge) (s.grid.trees_x * 2 ^ c.level) (mod_below c.x s.edge some)
        by_axis along_y = sym (outer-after (s.grid.trees_y * 2 ^ c.level) s.edge c.y some (inside along_y) s.grid.wraps_y) ∙ after-outside s.grid.wraps_y (c.y % s.edge) s.edge (c.y / s.edge) (s.grid.trees_y * 2 ^ c.level) (mod_below c.y s.edge some)
        by_axis along_z = sym (outer-after (s.grid.trees_z * 2 ^ c.level) s.edge c.z some (inside along_z) s.grid.wraps_z) ∙ after-outside s.grid.wraps_z (c.z % s.edge) s.edge (c.z / s.edge) (s.grid.trees_z * 2 ^ c.level) (mod_below c.z s.edge some)

    outside-before : (a : Axis) → is_outside a s.grid s.edge (previous_cell a s.grid s.edge c) ≡ cond (is_outer_side s.grid b.place a false) (along_in s.edge a c == 0) false
    outside-before a =
        by_axis a
        ∙ ap (λ (p : Cube). cond (is_outer_side s.grid p a false) (along_in s.edge a c == 0) false) e
      where
        by_axis : (a : Axis) → is_outside a s.grid s.edge (previous_cell a s.grid s.edge c) ≡ cond (is_outer_side s.grid (block_of s.edge c) a false) (along_in s.edge a c == 0) false
        by_axis along_x = sym (outer-before (s.grid.trees_x * 2 ^ c.level) s.edge c.x some (inside along_x) s.grid.wraps_x) ∙ before-outside s.grid.wraps_x (c.x % s.edge) s.edge (c.x / s.edge) (s.grid.trees_x * 2 ^ c.level) (mod_below c.x s.edge some)
        by_axis along_y = sym (outer-before (s.grid.trees_y * 2 ^ c.level) s.edge c.y some (inside along_y) s.grid.wraps_y) ∙ before-outside s.grid.wraps_y (c.y % s.edge) s.edge (c.y / s.edge) (s.grid.trees_y * 2 ^ c.level) (mod_below c.y s.edge some)
        by_axis along_z = sym (outer-before (s.grid.trees_z * 2 ^ c.level) s.edge c.z some (inside along_z) s.grid.wraps_z) ∙ before-outside s.grid.wraps_z (c.z % s.edge) s.edge (c.z / s.edge) (s.grid.trees_z * 2 ^ c.level) (mod_below c.z s.edge some)

    -- the fluxes there are those that are noted
    flux-after : (a : Axis) → along_in s.edge a c ≡ s.edge - 1 → fluxes.level_flux f a (next_cell a s.grid s.edge c) ≡ slice_index (high_of faces f a) (face_in s.edge a c)
    flux-after a last =
        let i = across_first a (c.x % s.edge) (c.y % s.edge) (c.z % s.edge) in
        let j = across_second a (c.x % s.edge) (c.y % s.edge) (c.z % s.edge) in
        let u = along_in s.edge a c in
        let no : (u + 1 == 0) ≡ false = grind (arith, nat_tests) in
        let is : (u + 1 == b.edge) ≡ true = (let h = some in grind (arith, nat_tests)) in
        sym (has.after f a c hf e)
        ∙ cond-false (u + 1 == 0) (slice_index (low_of faces f a) (face_number b.edge i j)) _ no
        ∙ cond-true (u + 1 == b.edge) (slice_index (high_of faces f a) (face_number b.edge i j)) _ is
        ∙ ap (λ n. slice_index (high_of faces f a) (face_number n i j)) edge

    flux-before : (a : Axis) → along_in s.edge a c ≡ 0 → fluxes.level_flux f a c ≡ slice_index (low_of faces f a) (face_in s.edge a c)
    flux-before a first =
        let i = across_first a (c.x % s.edge) (c.y % s.edge) (c.z % s.edge) in
        let j = across_second a (c.x % s.edge) (c.y % s.edge) (c.z % s.edge) in
        let is : (along_in s.edge a c == 0) ≡ true = grind (arith, nat_tests) in
        sym (has.before f a c hf e)
        ∙ cond-true (along_in s.edge a c == 0) (slice_index (low_of faces f a) (face_number b.edge i j)) _ is
        ∙ ap (λ n. slice_index (low_of faces f a) (face_number n i j)) edge

  -- along one axis
  sum-after : (a : Axis) → sum_by (outer_after s (fluxes.level_flux f) a) (cells_of s.edge b.place) ≡ cond (is_outer_side s.grid b.place a true) (sum (high_of faces f a)) 0
  sum-after a =
      let n = s.edge in
      let flux = fluxes.level_flux f in
      elim (cases_Bool (is_outer_side s.grid b.place a true)) [
        | inl outer ↦
            sum-same (outer_after s flux a) (in_layer n a (n - 1) (high_of faces f a)) (cells_of n b.place) (λ i c here.
            let e = cells_of-block n some b.place i c here in
            ap (λ (t : Bool). cond t (flux a (next_cell a s.grid n c)) 0) (outside-after c e a ∙ ap (λ (t : Bool). cond t (along_in n a c == n - 1) false) outer)
            ∙ same (along_in n a c) (n - 1) (flux a (next_cell a s.grid n c)) (slice_index (high_of faces f a) (face_in n a c)) (flux-after c e a))
            ∙ layer-sum n some b.place a (n - 1) (let h = some in omega (arith, h)) (high_of faces f a) (high-long a)
            ∙ sym (ap (λ (t : Bool). cond t (sum (high_of faces f a)) 0) outer)
        | inr inner ↦
            sum-zero (outer_after s flux a) (cells_of n b.place) (λ i c here.
            let e = cells_of-block n some b.place i c here in
            ap (λ (t : Bool). cond t (flux a (next_cell a s.grid n c)) 0) (outside-after c e a ∙ ap (λ (t : Bool). cond t (along_in n a c == n - 1) false) inner))
            ∙ sym (ap (λ (t : Bool). cond t (sum (high_of faces f a)) 0) inner)
      ]

  sum-before : (a : Axis) → sum_by (outer_before s (fluxes.level_flux f) a) (cells_of s.edge b.place) ≡ cond (is_outer_side s.grid b.place a false) (sum (low_of faces f a)) 0
  sum-before a =
      let n = s.edge in
      let flux = fluxes.level_flux f in
      elim (cases_Bool (is_outer_side s.grid b.place a false)) [
        | inl outer ↦
            sum-same (outer_before s flux a) (in_layer n a 0 (low_of faces f a)) (cells_of n b.place) (λ i c here.
            let e = cells_of-block n some b.place i c here in
            ap (λ (t : Bool). cond t (flux a c) 0) (outside-before c e a ∙ ap (λ (t : Bool). cond t (along_in n a c == 0) false) outer)
            ∙ same (along_in n a c) 0 (flux a c) (slice_index (low_of faces f a) (face_in n a c)) (flux-before c e a))
            ∙ layer-sum n some b.place a 0 some (low_of faces f a) (low-long a)
            ∙ sym (ap (λ (t : Bool). cond t (sum (low_of faces f a)) 0) outer)
        | inr inner ↦
            sum-zero (outer_before s flux a) (cells_of n b.place) (λ i c here.
            let e = cells_of-block n some b.place i c here in
            ap (λ (t : Bool). cond t (flux a c) 0) (outside-before c e a ∙ ap (λ (t : Bool). cond t (along_in n a c == 0) false) inner))
            ∙ sym (ap (λ (t : Bool). cond t (sum (low_of faces f a)) 0) inner)
      ]

  sum-along : (a : Axis) → sum_by (λ c. cond (fluxes.goes_up a) (outer_after s (fluxes.level_flux f) a c) (outer_before s (fluxes.level_flux f) a c)) (cells_of s.edge b.place) ≡ out_along s.grid b.place faces f a
  sum-along a =
      by_way (fluxes.goes_up a)
      ∙ ap (λ (up : Bool). cond (is_outer_side s.grid b.place a up) (sum (cond up (high_of faces f a) (low_of faces f a))) 0) (sym (has.goes_up a))
    where
      by_way : (up : Bool) → sum_by (λ c. cond up (outer_after s (fluxes.level_flux f) a c) (outer_before s (fluxes.level_flux f) a c)) (cells_of s.edge b.place)
          ≡ cond (is_outer_side s.grid b.place a up) (sum (cond up (high_of faces f a) (low_of faces f a))) 0
      by_way true = sum-after a
      by_way false = sum-before a

  pub sum-leaf : sum_by (out_of s fluxes f) (cells_of s.edge b.place) ≡ out_of_leaf s.grid b.place faces f
  sum-leaf =
      let through : Axis → Cube → ℕ = λ a c. cond (fluxes.goes_up a) (outer_after s (fluxes.level_flux f) a c) (outer_before s (fluxes.level_flux f) a c) in
      let all = cells_of s.edge b.place in
      let two = sum-add (through along_x) (through along_y) all in
      let three = sum-add (λ c. through along_x c + through along_y c) (through along_z) all in
      three
      ∙ (λ t. two t + sum_by (through along_z) all)
      ∙ (λ t. sum-along along_x t + sum-along along_y t + sum-along along_z t)
