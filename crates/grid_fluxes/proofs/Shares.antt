-- No cell gives more than it has, where each face carries a share of its upwind cell and the shares are small enough.
use Rattle.std.proofs.Common.{◌≡◌, ℕ, ◌+◌, ◌*◌, ◌^◌, ◌<◌, ◌≤◌, true, false, refl, sym, ap, ◌∙◌, subst, arith, sum_by, inl, inr, mul-le-mul_right}
use Rattle.std.proofs.Math.Nat.{pow-le-pow_right, le_of_mul-le-mul_right}
use Rattle.std.proofs.lemmas.Nat.{mul-le}
use Rattle.std.proofs.lemmas.Bool.{cond-true, cond-false, cond_both, false_from_ne_true, false≢true}
use Rattle.cello_num.specs.Parts.{part}
use Rattle.cello_num.proofs.PartSums.{parts_add}
use Rattle.block_index.specs.Places.{Cube, child_of}
use Rattle.leaf_set.specs.Meshes.{IsLeaf}
use Rattle.block_fields.specs.Cells.{block_of}
use Rattle.block_fields.specs.States.{State, IsState, held}
use Rattle.block_fields.specs.Samples.{sample}
use Rattle.block_fields.proofs.CellFacts.{has_cell-leaf}
use Rattle.block_fields.proofs.SampleCases.{sample-here, sample-child_of}
use Rattle.grid_fluxes.proofs.Outside.{along-child, inside_from, not_inside, leaf_cell-not_outside}
use Rattle.grid_fluxes.proofs.Steps.{next_cell-level, previous_cell-level, previous_cell-next, lower_x_0, lower_x_2, lower_x_4, lower_x_6, lower_y_0, lower_y_1, lower_y_4, lower_y_5, lower_z_0, lower_z_1, lower_z_2, lower_z_3}
use Rattle.grid_fluxes.specs.Axes.{Axis, along_x, along_y, along_z, next_cell, previous_cell, first_children, is_outside}
use Rattle.grid_fluxes.specs.Fluxes.{has_finer, Across, finer_across, none_across, flux_before, flux_after, given, given_along, Fluxes}
use Rattle.grid_fluxes.specs.Bounds.{IsBelowFinest, IsWithinFiner, GivesWithin, CarriesShares, upwind_cell}

-- four shares of amounts that are no more than q together
four : (den q p t : ℕ) (a b c d x y z w : ℕ) → a + b + c + d ≤ q → x * den ≤ a * p * t → y * den ≤ b * p * t → z * den ≤ c * p * t → w * den ≤ d * p * t → (0 + x + y + z + w) * den ≤ q * p * t
four den q p t a b c d x y z w h ha hb hc hd =
    let m : (a + b + c + d) * (p * t) ≤ q * (p * t) = mul-le-mul_right (p * t) h in
    omega arith

module _ (s : State) (w : IsState s) (fluxes : Fluxes) (f : ℕ) (share : Axis → ℕ) (den : ℕ) (carries : CarriesShares s fluxes f share den) where
  module _ (c : Cube) (leaf : IsLeaf s.leaves (block_of s.edge c)) where
    own_inside : (a : Axis) → is_outside a s.grid s.edge c ≡ false
    own_inside = leaf_cell-not_outside s w c leaf

    child_inside : (a : Axis) (k : ℕ) → k < 8 → is_outside a s.grid s.edge (child_of c k) ≡ false
    child_inside a k h = false_from_ne_true (is_outside a s.grid s.edge (child_of c k)) (λ o. not_inside a s.grid s.edge (child_of c k) o (along-child a s.grid s.edge c k h (inside_from a s.grid s.edge c (own_inside a))))

    -- a flux out of c
    own_most : (a : Axis) (v : Cube) → upwind_cell s fluxes.goes_up a v ≡ c → fluxes.level_flux f a v * den ≤ held s f c * share a * 2 ^ v.level
    own_most a v u =
        subst (λ q. fluxes.level_flux f a v * den ≤ q * share a * 2 ^ v.level) (ap (sample s f) u ∙ sample-here s f c leaf)
        (carries.face a v (subst (λ q. is_outside a s.grid s.edge q ≡ false) (sym u) (own_inside a)))

    -- a finer flux out of the child k
    child_most : (a : Axis) (e : Cube) (k : ℕ) → k < 8 → e.level ≡ c.level + 1 → upwind_cell s fluxes.goes_up a e ≡ child_of c k → fluxes.level_flux f a e * den ≤ part (held s f c) k * share a * 2 ^ (c.level + 1)
    child_most a e k h l u =
        subst (λ m. fluxes.level_flux f a e * den ≤ part (held s f c) k * share a * 2 ^ m) l
        (subst (λ q. fluxes.level_flux f a e * den ≤ q * share a * 2 ^ e.level) (ap (sample s f) u ∙ sample-child_of s f c k w h leaf)
        (carries.face a e (subst (λ q. is_outside a s.grid s.edge q ≡ false) (sym u) (child_inside a k h))))

    upper : (a : Axis) → fluxes.goes_up a ≡ true → (v : Cube) → upwind_cell s fluxes.goes_up a v ≡ previous_cell a s.grid s.edge v
    upper a up v = cond-true (fluxes.goes_up a) (previous_cell a s.grid s.edge v) v up

    lower : (a : Axis) → fluxes.goes_up a ≡ false → (v : Cube) → upwind_cell s fluxes.goes_up a v ≡ v
    lower a down v = cond-false (fluxes.goes_up a) (previous_cell a s.grid s.edge v) v down

    finer_above : (a : Axis) → fluxes.goes_up a ≡ true → sum_by (fluxes.level_flux f a) (first_children a (next_cell a s.grid s.edge c)) * den ≤ held s f c * share a * 2 ^ (c.level + 1)
    finer_above along_x up =
        let v = next_cell along_x s.grid s.edge c in
        let q = held s f c in
        let p = parts_add q in
        let x : ℕ → ℕ = λ k. fluxes.level_flux f along_x (child_of v k) in
        four den q (share along_x) (2 ^ (c.level + 1)) (part q 1) (part q 3) (part q 5) (part q 7) (x 0) (x 2) (x 4) (x 6) (omega arith)
        (child_most along_x (child_of v 0) 1 (omega arith) refl (upper along_x up (child_of v 0) ∙ lower_x_0 s.grid s.edge c))
        (child_most along_x (child_of v 2) 3 (omega arith) refl (upper along_x up (child_of v 2) ∙ lower_x_2 s.grid s.edge c))
        (child_most along_x (child_of v 4) 5 (omega arith) refl (upper along_x up (child_of v 4) ∙ lower_x_4 s.grid s.edge c))
        (child_most along_x (child_of v 6) 7 (omega arith) refl (upper along_x up (child_of v 6) ∙ lower_x_6 s.grid s.edge c))
    finer_above along_y up =
        let v = next_cell along_y s.grid s.edge c in
        let q = held s f c in
        let p = parts_add q in
        let x : ℕ → ℕ = λ k. fluxes.level_flux f along_y (child_of v k) in
        four den q (share along_y) (2 ^ (c.level + 1)) (part q 2) (part q 3) (part q 6) (part q 7) (x 0) (x 1) (x 4) (x 5) (omega arith)
        (child_most along_y (child_of v 0) 2 (omega arith) refl (upper along_y up (child_of v 0) ∙ lower_y_0 s.grid s.edge c))
        (child_most along_y (child_of v 1) 3 (omega arith) refl (upper along_y up (child_of v 1) ∙ lower_y_1 s.grid s.edge c))
        (child_most along_y (child_of v 4) 6 (omega arith) refl (upper along_y up (child_of v 4) ∙ lower_y_4 s.grid s.edge c))
        (child_most along_y (child_of v 5) 7 (omega arith) refl (upper along_y up (child_of v 5) ∙ lower_y_5 s.grid s.edge c))
    finer_above along_z up =
        let v = next_cell along_z s.grid s.edge c in
        let q = held s f c in
        let p = parts_add q in
        let x : ℕ → ℕ = λ k. fluxes.level_flux f along_z (child_of v k) in
        four den q (share along_z) (2 ^ (c.level + 1)) (part q 4) (part q 5) (part q 6) (part q 7) (x 0) (x 1) (x 2) (x 3) (omega arith)
        (child_most along_z (child_of v 0) 4 (omega arith) refl (upper along_z up (child_of v 0) ∙ lower_z_0 s.grid s.edge c))
        (child_most along_z (child_of v 1) 5 (omega arith) refl (upper along_z up (child_of v 1) ∙ lower_z_1 s.grid s.edge c))
        (child_most along_z (child_of v 2) 6 (omega arith) refl (upper along_z up (child_of v 2) ∙ lower_z_2 s.grid s.edge c))
        (child_most along_z (child_of v 3) 7 (omega arith) refl (upper along_z up (child_of v 3) ∙ lower_z_3 s.grid s.edge c))

    finer_below : (a : Axis) → fluxes.goes_up a ≡ false → sum_by (fluxes.level_flux f a) (first_children a c) * den ≤ held s f c * share a * 2 ^ (c.level + 1)
    finer_below along_x down =
        let q = held s f c in
        let p = parts_add q in
        let x : ℕ → ℕ = λ k. fluxes.level_flux f along_x (child_of c k) in
        let most : (k : ℕ) → k < 8 → x k * den ≤ part q k * share along_x * 2 ^ (c.level + 1) = λ k h. child_most along_x (child_of c k) k h refl (lower along_x down (child_of c k)) in
        four den q (share along_x) (2 ^ (c.level + 1)) (part q 0) (part q 2) (part q 4) (part q 6) (x 0) (x 2) (x 4) (x 6) (omega arith) (most 0 (omega arith)) (most 2 (omega arith)) (most 4 (omega arith)) (most 6 (omega arith))
    finer_below along_y down =
        let q = held s f c in
        let p = parts_add q in
        let x : ℕ → ℕ = λ k. fluxes.level_flux f along_y (child_of c k) in
        let most : (k : ℕ) → k < 8 → x k * den ≤ part q k * share along_y * 2 ^ (c.level + 1) = λ k h. child_most along_y (child_of c k) k h refl (lower along_y down (child_of c k)) in
        four den q (share along_y) (2 ^ (c.level + 1)) (part q 0) (part q 1) (part q 4) (part q 5) (x 0) (x 1) (x 4) (x 5) (omega arith) (most 0 (omega arith)) (most 1 (omega arith)) (most 4 (omega arith)) (most 5 (omega arith))
    finer_below along_z down =
        let q = held s f c in
        let p = parts_add q in
        let x : ℕ → ℕ = λ k. fluxes.level_flux f along_z (child_of c k) in
        let most : (k : ℕ) → k < 8 → x k * den ≤ part q k * share along_z * 2 ^ (c.level + 1) = λ k h. child_most along_z (child_of c k) k h refl (lower along_z down (child_of c k)) in
        four den q (share along_z) (2 ^ (c.level + 1)) (part q 0) (part q 1) (part q 2) (part q 3) (x 0) (x 1) (x 2) (x 3) (omega arith) (most 0 (omega arith)) (most 1 (omega arith)) (most 2 (omega arith)) (most 3 (omega arith))

    widen : (x q p l m : ℕ) → l ≤ m → x ≤ q * p * 2 ^ l → x ≤ q * p * 2 ^ m
    widen x q p l m h k =
        let e : 2 ^ l ≤ 2 ^ m = pow-le-pow_right (omega arith) h in
        let r : q * p * 2 ^ l ≤ q * p * 2 ^ m = mul-le (q * p) (2 ^ l) (q * p) (2 ^ m) (omega arith) e in
        omega arith

    module _ (across : Across) (below_finest : IsBelowFinest s across) where
      -- what goes out along one axis
      axis_most : (a : Axis) → given_along s across fluxes f c a * den ≤ held s f c * share a * 2 ^ s.grid.finest
      axis_most a =
          let q = held s f c in
          let low : c.level ≤ s.grid.finest = let i = w.mesh.inside leaf.0 (block_of s.edge c) leaf.1 in i.level in
          cond_both (fluxes.goes_up a) (flux_after s across (fluxes.level_flux f) a c) (flux_before across (fluxes.level_flux f) a c) (λ x. x * den ≤ q * share a * 2 ^ s.grid.finest)
          (λ up.
          let v = next_cell a s.grid s.edge c in
          cond_both (across.above a c) (sum_by (fluxes.level_flux f a) (first_children a v)) (fluxes.level_flux f a v) (λ x. x * den ≤ q * share a * 2 ^ s.grid.finest)
          (λ t. widen (sum_by (fluxes.level_flux f a) (first_children a v) * den) q (share a) (c.level + 1) s.grid.finest (below_finest a c (inr t)) (finer_above a up))
          (λ _.
          widen (fluxes.level_flux f a v * den) q (share a) v.level s.grid.finest (subst (λ k. k ≤ s.grid.finest) (sym (next_cell-level a s.grid s.edge c)) low)
          (own_most a v (upper a up v ∙ previous_cell-next a s.grid s.edge c))))
          (λ down.
          cond_both (across.below a c) (sum_by (fluxes.level_flux f a) (first_children a c)) (fluxes.level_flux f a c) (λ x. x * den ≤ q * share a * 2 ^ s.grid.finest)
          (λ t. widen (sum_by (fluxes.level_flux f a) (first_children a c) * den) q (share a) (c.level + 1) s.grid.finest (below_finest a c (inl t)) (finer_below a down))
          (λ _.
          widen (fluxes.level_flux f a c * den) q (share a) c.level s.grid.finest low
          (own_most a c (lower a down c))))

      pub shares_within : given s across fluxes f c ≤ held s f c
      shares_within =
          let q = held s f c in
          let x : Axis → ℕ = λ a. given_along s across fluxes f c a in
          let hx = axis_most along_x in
          let hy = axis_most along_y in
          let hz = axis_most along_z in
          let t : q * ((share along_x + share along_y + share along_z) * 2 ^ s.grid.finest) ≤ q * den = mul-le q ((share along_x + share along_y + share along_z) * 2 ^ s.grid.finest) q den (omega arith) carries.small in
          let all : (x along_x + x along_y + x along_z) * den ≤ q * den = omega arith in
          le_of_mul-le-mul_right all carries.some

pub CarriesShares-GivesWithin : (s : State) (across : Across) (fluxes : Fluxes) (f : ℕ) (share : Axis → ℕ) (den : ℕ) → IsState s → IsBelowFinest s across → CarriesShares s fluxes f share den → GivesWithin s across fluxes f
CarriesShares-GivesWithin s across fluxes f share den w below carries i c at = shares_within s w fluxes f share den carries c (i, at) across below

-- where no face carries a sum, none does below the finest level
pub none_across-IsBelowFinest : (s : State) → IsBelowFinest s none_across
none_across-IsBelowFinest s a c h = elim h [ inl t ↦ absurd (false≢true t) | inr t ↦ absurd (false≢true t) ]

-- where finer leaves lie across, the finest level is finer
pub finer_across-IsBelowFinest : (s : State) → IsState s → IsBelowFinest s (finer_across s)
finer_across-IsBelowFinest s w a c h =
    elim h [
      | inl t ↦ room (previous_cell a s.grid s.edge c) (previous_cell-level a s.grid s.edge c) t
      | inr t ↦ room (next_cell a s.grid s.edge c) (next_cell-level a s.grid s.edge c) t
    ]
  where
    room : (u : Cube) → u.level ≡ c.level → has_finer s.edge s.leaves u ≡ true → c.level + 1 ≤ s.grid.finest
    room u l h =
        let k = has_cell-leaf s.edge s.leaves (child_of u 0) h in
        let i = w.mesh.inside k.0 (block_of s.edge (child_of u 0)) k.1 in
        omega (arith, i.level)

-- where sums are carried only where finer leaves lie across, they are carried below the finest level alone
pub IsWithinFiner-IsBelowFinest : (s : State) (across : Across) → IsState s → IsWithinFiner s across → IsBelowFinest s across
IsWithinFiner-IsBelowFinest s across w only a c h =
    finer_across-IsBelowFinest s w a c (elim h [ inl t ↦ inl (only.below a c t) | inr t ↦ inr (only.above a c t) ])
