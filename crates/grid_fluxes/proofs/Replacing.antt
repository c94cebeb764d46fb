-- Replacing fluxes: from one choice of the faces that carry sums to another.
use Rattle.std.proofs.Common.{◌≡◌, ℕ, ◌+◌, ◌-◌, ◌<◌, ◌≤◌, Bool, true, false, cond, sym, ap, ◌∙◌, arith, sum_by}
use Rattle.std.proofs.lemmas.Bool.{cond-true, cond-false}
use Rattle.block_index.specs.Places.{Cube}
use Rattle.leaf_set.specs.Meshes.{IsLeaf}
use Rattle.block_fields.specs.Cells.{block_of}
use Rattle.block_fields.specs.States.{State, IsState, held}
use Rattle.block_fields.proofs.FilledStates.{held-filled}
use Rattle.grid_fluxes.specs.Axes.{Axis, along_x, along_y, along_z, next_cell, first_children}
use Rattle.grid_fluxes.specs.Fluxes.{Across, Fluxes, face_flux, flux_before, flux_after, given_along, taken_along, over_axes, given, taken, advanced_by}
use Rattle.grid_fluxes.specs.Bounds.{GivesWithin}
use Rattle.grid_fluxes.specs.Replacing.{ReplacesAbove, ReplacesBelow, ReplacesNone}

pub held-advanced_by : (s : State) (across : Across) (fluxes : Fluxes) (f : ℕ) (c : Cube) → IsState s → f < s.fields → IsLeaf s.leaves (block_of s.edge c) → held (advanced_by s across fluxes) f c ≡ held s f c - given s across fluxes f c + taken s across fluxes f c
held-advanced_by s across fluxes f c w h leaf =
    held-filled s.grid s.edge s.fields s.leaves (λ f c. held s f c - given s across fluxes f c + taken s across fluxes f c) w.domain w.mesh w.edge f leaf.0 c h leaf.1

replaced : (a b h g t k u : ℕ) → g ≤ h → k ≤ h → a ≡ h - g + t → b ≡ h - k + u → b + k + t ≡ a + g + u
replaced a b h g t k u l m d e = omega arith

pub held-replaced : (s : State) (one other : Across) (fluxes : Fluxes) (f : ℕ) (c : Cube) → IsState s → f < s.fields → IsLeaf s.leaves (block_of s.edge c) → GivesWithin s one fluxes f → GivesWithin s other fluxes f → held (advanced_by s other fluxes) f c + given s other fluxes f c + taken s one fluxes f c ≡ held (advanced_by s one fluxes) f c + given s one fluxes f c + taken s other fluxes f c
held-replaced s one other fluxes f c w h leaf within_one within_other =
    replaced (held (advanced_by s one fluxes) f c) (held (advanced_by s other fluxes) f c) (held s f c) (given s one fluxes f c) (taken s one fluxes f c) (given s other fluxes f c) (taken s other fluxes f c)
    (within_one leaf.0 c leaf.1)
    (within_other leaf.0 c leaf.1)
    (held-advanced_by s one fluxes f c w h leaf)
    (held-advanced_by s other fluxes f c w h leaf)

-- ---- sums over the axes

same_axes : (x y : Axis → ℕ) → ((b : Axis) → y b ≡ x b) → over_axes y ≡ over_axes x
same_axes x y h = omega (arith, h along_x, h along_y, h along_z)

-- one axis has q in place of p
one_axis : (x y : Axis → ℕ) (p q : ℕ) (a : Axis) → x a ≡ p → y a ≡ q → ((b : Axis) → (b ≡ a → ⊥) → y b ≡ x b) → over_axes y + p ≡ over_axes x + q
one_axis x y p q along_x d e h = let u = h along_y (λ e. cc) in let v = h along_z (λ e. cc) in omega arith
one_axis x y p q along_y d e h = let u = h along_x (λ e. cc) in let v = h along_z (λ e. cc) in omega arith
one_axis x y p q along_z d e h = let u = h along_x (λ e. cc) in let v = h along_y (λ e. cc) in omega arith

-- ---- the faces of a cell

same_face : (p q : Bool) (flux : Cube → ℕ) (a : Axis) (v : Cube) → q ≡ p → face_flux q flux a v ≡ face_flux p flux a v
same_face p q flux a v e = ap (λ b. face_flux b flux a v) e

same_choice : (b : Bool) (p q u v : ℕ) → u ≡ p → v ≡ q → cond b u v ≡ cond b p q
same_choice b p q u v d e = cc

module _ (s : State) (one other : Across) (fluxes : Fluxes) (f : ℕ) (c : Cube) where
  same_before : (b : Axis) → other.below b c ≡ one.below b c → flux_before other (fluxes.level_flux f) b c ≡ flux_before one (fluxes.level_flux f) b c
  same_before b = same_face (one.below b c) (other.below b c) (fluxes.level_flux f b) b c

  same_after : (b : Axis) → other.above b c ≡ one.above b c → flux_after s other (fluxes.level_flux f) b c ≡ flux_after s one (fluxes.level_flux f) b c
  same_after b = same_face (one.above b c) (other.above b c) (fluxes.level_flux f b) b (next_cell b s.grid s.edge c)

  same_given : (b : Axis) → other.below b c ≡ one.below b c → other.above b c ≡ one.above b c → given_along s other fluxes f c b ≡ given_along s one fluxes f c b
  same_given b d e =
      same_choice (fluxes.goes_up b) (flux_after s one (fluxes.level_flux f) b c) (flux_before one (fluxes.level_flux f) b c) (flux_after s other (fluxes.level_flux f) b c) (flux_before other (fluxes.level_flux f) b c) (same_after b e) (same_before b d)

  same_taken : (b : Axis) → other.below b c ≡ one.below b c → other.above b c ≡ one.above b c → taken_along s other fluxes f c b ≡ taken_along s one fluxes f c b
  same_taken b d e =
      same_choice (fluxes.goes_up b) (flux_before one (fluxes.level_flux f) b c) (flux_after s one (fluxes.level_flux f) b c) (flux_before other (fluxes.level_flux f) b c) (flux_after s other (fluxes.level_flux f) b c) (same_before b d) (same_after b e)

  pub held-not_replaced : IsState s → f < s.fields → IsLeaf s.leaves (block_of s.edge c) → ReplacesNone one other c → held (advanced_by s other fluxes) f c ≡ held (advanced_by s one fluxes) f c
  held-not_replaced w h leaf r =
      let g = same_axes (given_along s one fluxes f c) (given_along s other fluxes f c) (λ b. same_given b (r.below b) (r.above b)) in
      let t = same_axes (taken_along s one fluxes f c) (taken_along s other fluxes f c) (λ b. same_taken b (r.below b) (r.above b)) in
      let p = held-advanced_by s other fluxes f c w h leaf in
      let q = held-advanced_by s one fluxes f c w h leaf in
      p ∙ ap (λ k. held s f c - k + taken s other fluxes f c) g ∙ ap (λ k. held s f c - given s one fluxes f c + k) t ∙ sym q

  -- none of the faces along other axes is replaced
  module _ (w : IsState s) (h : f < s.fields) (leaf : IsLeaf s.leaves (block_of s.edge c)) (within_one : GivesWithin s one fluxes f) (within_other : GivesWithin s other fluxes f) (a : Axis) where
    changes : ((b : Axis) → (b ≡ a → ⊥) → (other.below b c ≡ one.below b c) × (other.above b c ≡ one.above b c)) → (p q t u : ℕ) → given_along s one fluxes f c a ≡ p → given_along s other fluxes f c a ≡ q → taken_along s one fluxes f c a ≡ t → taken_along s other fluxes f c a ≡ u → held (advanced_by s other fluxes) f c + q + t ≡ held (advanced_by s one fluxes) f c + p + u
    changes others p q t u gp gq tt tu =
        let g = one_axis (given_along s one fluxes f c) (given_along s other fluxes f c) p q a gp gq (λ b n. let e = others b n in same_given b e.0 e.1) in
        let k = one_axis (taken_along s one fluxes f c) (taken_along s other fluxes f c) t u a tt tu (λ b n. let e = others b n in same_taken b e.0 e.1) in
        let r = held-replaced s one other fluxes f c w h leaf within_one within_other in
        omega arith

    up-given : (k : Across) → fluxes.goes_up a ≡ true → given_along s k fluxes f c a ≡ flux_after s k (fluxes.level_flux f) a c
    up-given k = cond-true (fluxes.goes_up a) (flux_after s k (fluxes.level_flux f) a c) (flux_before k (fluxes.level_flux f) a c)

    up-taken : (k : Across) → fluxes.goes_up a ≡ true → taken_along s k fluxes f c a ≡ flux_before k (fluxes.level_flux f) a c
    up-taken k = cond-true (fluxes.goes_up a) (flux_before k (fluxes.level_flux f) a c) (flux_after s k (fluxes.level_flux f) a c)

    down-given : (k : Across) → fluxes.goes_up a ≡ false → given_along s k fluxes f c a ≡ flux_before k (fluxes.level_flux f) a c
    down-given k = cond-false (fluxes.goes_up a) (flux_after s k (fluxes.level_flux f) a c) (flux_before k (fluxes.level_flux f) a c)

    down-taken : (k : Across) → fluxes.goes_up a ≡ false → taken_along s k fluxes f c a ≡ flux_after s k (fluxes.level_flux f) a c
    down-taken k = cond-false (fluxes.goes_up a) (flux_before k (fluxes.level_flux f) a c) (flux_after s k (fluxes.level_flux f) a c)

    module _ (r : ReplacesAbove one other a c) where
      own_after : flux_after s one (fluxes.level_flux f) a c ≡ fluxes.level_flux f a (next_cell a s.grid s.edge c)
      own_after = let v = next_cell a s.grid s.edge c in cond-false (one.above a c) (sum_by (fluxes.level_flux f a) (first_children a v)) (fluxes.level_flux f a v) r.own

      sum_after : flux_after s other (fluxes.level_flux f) a c ≡ sum_by (fluxes.level_flux f a) (first_children a (next_cell a s.grid s.edge c))
      sum_after = let v = next_cell a s.grid s.edge c in cond-true (other.above a c) (sum_by (fluxes.level_flux f a) (first_children a v)) (fluxes.level_flux f a v) r.sum

      pub above-giving : fluxes.goes_up a ≡ true → held (advanced_by s other fluxes) f c + sum_by (fluxes.level_flux f a) (first_children a (next_cell a s.grid s.edge c)) ≡ held (advanced_by s one fluxes) f c + fluxes.level_flux f a (next_cell a s.grid s.edge c)
      above-giving up =
          let v = next_cell a s.grid s.edge c in
          let t = flux_before one (fluxes.level_flux f) a c in
          let e = changes (λ b n. (r.below b, r.other_axes b n)) (fluxes.level_flux f a v) (sum_by (fluxes.level_flux f a) (first_children a v)) t t
          (up-given one up ∙ own_after)
          (up-given other up ∙ sum_after)
          (up-taken one up)
          (up-taken other up ∙ same_before a (r.below a)) in
          omega arith

      pub above-taking : fluxes.goes_up a ≡ false → held (advanced_by s other fluxes) f c + fluxes.level_flux f a (next_cell a s.grid s.edge c) ≡ held (advanced_by s one fluxes) f c + sum_by (fluxes.level_flux f a) (first_children a (next_cell a s.grid s.edge c))
      above-taking down =
          let v = next_cell a s.grid s.edge c in
          let g = flux_before one (fluxes.level_flux f) a c in
          let e = changes (λ b n. (r.below b, r.other_axes b n)) g g (fluxes.level_flux f a v) (sum_by (fluxes.level_flux f a) (first_children a v))
          (down-given one down)
          (down-given other down ∙ same_before a (r.below a))
          (down-taken one down ∙ own_after)
          (down-taken other down ∙ sum_after) in
          omega arith

    module _ (r : ReplacesBelow one other a c) where
      own_before : flux_before one (fluxes.level_flux f) a c ≡ fluxes.level_flux f a c
      own_before = cond-false (one.below a c) (sum_by (fluxes.level_flux f a) (first_children a c)) (fluxes.level_flux f a c) r.own

      sum_before : flux_before other (fluxes.level_flux f) a c ≡ sum_by (fluxes.level_flux f a) (first_children a c)
      sum_before = cond-true (other.below a c) (sum_by (fluxes.level_flux f a) (first_children a c)) (fluxes.level_flux f a c) r.sum

      pub below-taking : fluxes.goes_up a ≡ true → held (advanced_by s other fluxes) f c + fluxes.level_flux f a c ≡ held (advanced_by s one fluxes) f c + sum_by (fluxes.level_flux f a) (first_children a c)
      below-taking up =
          let g = flux_after s one (fluxes.level_flux f) a c in
          let e = changes (λ b n. (r.other_axes b n, r.above b)) g g (fluxes.level_flux f a c) (sum_by (fluxes.level_flux f a) (first_children a c))
          (up-given one up)
          (up-given other up ∙ same_after a (r.above a))
          (up-taken one up ∙ own_before)
          (up-taken other up ∙ sum_before) in
          omega arith

      pub below-giving : fluxes.goes_up a ≡ false → held (advanced_by s other fluxes) f c + sum_by (fluxes.level_flux f a) (first_children a c) ≡ held (advanced_by s one fluxes) f c + fluxes.level_flux f a c
      below-giving down =
          let t = flux_after s one (fluxes.level_flux f) a c in
          let e = changes (λ b n. (r.other_axes b n, r.above b)) (fluxes.level_flux f a c) (sum_by (fluxes.level_flux f a) (first_children a c)) t t
          (down-given one down ∙ own_before)
          (down-given other down ∙ sum_before)
          (down-taken one down)
          (down-taken other down ∙ same_after a (r.above a)) in
          omega arith
