-- The samples at a block's own cells are its amounts; with ghosts that hold samples it sees samples everywhere.
use Rattle.std.proofs.Common.{◌≡◌, ℕ, ◌+◌, ◌*◌, ◌^◌, ◌<◌, Bool, true, false, nat_lt, refl, sym, ap, ◌∙◌, subst, arith, Some, slice_index, inl, inr, ℤ, pos, negsuc, ◌+ℤ◌}
use Rattle.std.proofs.lemmas.Nat.{div-mul-add, mod-mul-add, mul-add-lt}
use Rattle.std.proofs.lemmas.Bool.{cases_Bool, cases_eq, cond-false}
use Rattle.std.proofs.lemmas.Bool.Decides.{nat_tests}
use Rattle.std.proofs.Math.Nat.{mul_comm, mod-eq_of_lt}
use Rattle.block_index.specs.Places.{Cube}
use Rattle.leaf_set.proofs.Containment.{same_cube}
use Rattle.block_fields.specs.Blocks.{BlockState, amounts_of, number_at, seen_at}
use Rattle.block_fields.specs.BlockStates.{HoldsSamples, IsLeafOf, sample_around}
use Rattle.block_fields.specs.Cells.{block_of, cell_number}
use Rattle.block_fields.specs.Samples.{cell_near, moved, sample}
use Rattle.block_fields.specs.Shells.{IsAround, direction_of, side_of}
use Rattle.block_fields.specs.States.{State, IsState}
use Rattle.block_fields.proofs.BlockSamples.{held-at}
use Rattle.block_fields.proofs.GhostWrites.{directions-same, side-below}
use Rattle.block_fields.proofs.SampleCases.{sample-here}
use Rattle.block_fields.proofs.Seen.{seen-within}

-- a coordinate inside an axis stays
moved-inside : (wraps : Bool) (n x : ℕ) → x < n → moved wraps n (pos x) ≡ x
moved-inside true n x h = mod-eq_of_lt h
moved-inside false n x h = omega arith

-- on side 1 are the block's own coordinates
own_coordinate : (n : ℕ) (x : ℤ) → side_of n x ≡ 1 → (u : ℕ) × (u < n) × (x ≡ pos u)
own_coordinate n (pos u) e =
    elim (cases_Bool (nat_lt u n)) [
      | inl t ↦ (u, grind (arith, nat_tests), refl)
      | inr t ↦ absurd (let k : side_of n (pos u) ≡ 2 = cond-false (nat_lt u n) 1 2 t in omega arith)
    ]
own_coordinate n (negsuc u) e = absurd (omega arith)

-- along an axis of `places` places of n cells, cell u of place p
module _ (n places p u : ℕ) (hp : p < places) (hu : u < n) where
  axis-below : p * n + u < places * n
  axis-below = subst (λ k. p * n + u < k) (mul_comm n places) (mul-add-lt p n u places hp hu)

module _ (s : State) (w : IsState s) (i : ℕ) (b : BlockState) (k : IsLeafOf s i b) where
  own_cell : ℕ → ℕ → ℕ → Cube
  own_cell x y z = record { level = b.place.level; x = b.place.x * s.edge + x; y = b.place.y * s.edge + y; z = b.place.z * s.edge + z }

  sample-own : (f x y z : ℕ) → x < s.edge → y < s.edge → z < s.edge → sample s f (cell_near s.grid s.edge b.place.level (pos (b.place.x * s.edge + x)) (pos (b.place.y * s.edge + y)) (pos (b.place.z * s.edge + z))) ≡ slice_index (amounts_of b f) (number_at s.edge x y z)
  sample-own f x y z hx hy hz =
      let n = s.edge in
      let p = b.place in
      let c : Cube = record { level = p.level; x = p.x * n + x; y = p.y * n + y; z = p.z * n + z } in
      let inside = w.mesh.inside i p k.leaf in
      let near : cell_near s.grid n p.level (pos (p.x * n + x)) (pos (p.y * n + y)) (pos (p.z * n + z)) ≡ c =
      same_cube (cell_near s.grid n p.level (pos (p.x * n + x)) (pos (p.y * n + y)) (pos (p.z * n + z))) c refl
      (moved-inside s.grid.wraps_x (s.grid.trees_x * 2 ^ p.level * n) (p.x * n + x) (axis-below n (s.grid.trees_x * 2 ^ p.level) p.x x inside.x hx))
      (moved-inside s.grid.wraps_y (s.grid.trees_y * 2 ^ p.level * n) (p.y * n + y) (axis-below n (s.grid.trees_y * 2 ^ p.level) p.y y inside.y hy))
      (moved-inside s.grid.wraps_z (s.grid.trees_z * 2 ^ p.level * n) (p.z * n + z) (axis-below n (s.grid.trees_z * 2 ^ p.level) p.z z inside.z hz)) in
      let block : block_of n c ≡ p = same_cube (block_of n c) p refl (div-mul-add p.x n x hx) (div-mul-add p.y n y hy) (div-mul-add p.z n z hz) in
      let number : cell_number n c ≡ number_at n x y z = λ j. (mod-mul-add p.z n z hz j * n + mod-mul-add p.y n y hy j) * n + mod-mul-add p.x n x hx j in
      ap (sample s f) near
      ∙ sample-here s f c (i, k.leaf ∙ ap Some (sym block))
      ∙ held-at s w f i p c b.amounts k.leaf k.held block
      ∙ ap (slice_index (amounts_of b f)) number

  pub seen-samples : HoldsSamples s b → (f : ℕ) (x y z : ℤ) → f < s.fields → IsAround b.edge b.depth x → IsAround b.edge b.depth y → IsAround b.edge b.depth z → seen_at b f x y z ≡ sample_around s b f x y z
  seen-samples samples f x y z hf hx hy hz =
      elim (cases_eq (direction_of b.edge x y z) 13) [
        | inr other ↦ samples f x y z hf hx hy hz other
        | inl own ↦
            let o = directions-same (side_of b.edge x) (side_of b.edge y) (side_of b.edge z) 1 1 1 (side-below b.edge x) (side-below b.edge y) (side-below b.edge z) (omega arith) (omega arith) (omega arith) own in
            inner (own_coordinate b.edge x o.0) (own_coordinate b.edge y o.1) (own_coordinate b.edge z o.2)
      ]
    where
      inner : ((u : ℕ) × (u < b.edge) × (x ≡ pos u)) → ((u : ℕ) × (u < b.edge) × (y ≡ pos u)) → ((u : ℕ) × (u < b.edge) × (z ≡ pos u)) → seen_at b f x y z ≡ sample_around s b f x y z
      inner (u, hu, eu) (v, hv, ev) (t, ht, et) =
          let e = k.same_edge in
          (λ j. seen_at b f (eu j) (ev j) (et j))
          ∙ seen-within b f u v t hu hv ht
          ∙ ap (λ n. slice_index (amounts_of b f) (number_at n u v t)) e
          ∙ sym (sample-own f u v t (omega arith) (omega arith) (omega arith))
          ∙ (λ j. sample s f (cell_near s.grid s.edge b.place.level (pos (b.place.x * sym e j) +ℤ sym eu j) (pos (b.place.y * sym e j) +ℤ sym ev j) (pos (b.place.z * sym e j) +ℤ sym et j)))
