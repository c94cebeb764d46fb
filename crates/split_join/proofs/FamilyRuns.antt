-- The eight leaves of a family that joins stand one behind another.
use Rattle.std.proofs.Common.{◌≡◌, ℕ, zero, suc, ◌+◌, ◌-◌, ◌<◌, ◌≤◌, List, Some, slice_get, slice_index, sym, ap, ◌∙◌, subst, arith, inl, inr}
use Rattle.std.proofs.lemmas.Bool.{cases_eq, cases_order}
use Rattle.std.proofs.lemmas.Option.{slice_get_within}
use Rattle.block_index.specs.Places.{Cube, Grid, IsDomain, child_of, parent_of, child_number}
use Rattle.block_index.specs.declared.wish.Wish.{Wish}
use Rattle.leaf_set.specs.Meshes.{IsMesh}
use Rattle.leaf_set.specs.LevelRules.{IsSolution}
use Rattle.leaf_set.proofs.Containment.{Contains-parent_of, child_number-child_of, child_of-child_number, child_number_below}
use Rattle.leaf_set.proofs.MeshFacts.{leaves_distinct, leaves_spaced}
use Rattle.leaf_set.proofs.Origins.{siblings_fall}
use Rattle.leaf_set.proofs.Spots.{start-stop, start-child_of, stop-child_of, finest_limit}
use Rattle.split_join.proofs.Lists.{element_there, same_element}

-- the leaf at i, if its level falls, is the first one of its family
abbrev pub Aligned : List Cube → List ℕ → ℕ → Type 0
Aligned mesh levels i = (a : Cube) → slice_get mesh i ≡ Some a → slice_index levels i < a.level → child_number a ≡ 0

module _ (grid : Grid) (mesh : List Cube) (g : IsDomain grid) (m : IsMesh grid mesh) where
  -- nothing stands between a child and the next one
  next_sibling : (p : Cube) (k i j : ℕ) → k + 1 < 8 → slice_get mesh i ≡ Some (child_of p k) → slice_get mesh j ≡ Some (child_of p (k + 1)) → j ≡ i + 1
  next_sibling p k i j h s t =
      let room : p.level + 1 ≤ 6 = finest_limit grid (child_of p k) g (m.inside i (child_of p k) s) in
      let e = stop-child_of p k (omega arith) room in
      let f = start-child_of p (k + 1) h room in
      elim (cases_order i j) [
        | inl same ↦
            let one : child_of p k ≡ child_of p (k + 1) = same_element mesh i j (child_of p k) (child_of p (k + 1)) s t same in
            let n : k ≡ k + 1 = sym (child_number-child_of p k (omega arith)) ∙ ap child_number one ∙ child_number-child_of p (k + 1) h in
            absurd (omega arith)
        | inr r ↦
            elim r [
              | inl less ↦
                  elim (cases_eq j (i + 1)) [
                    | inl q ↦ q
                    | inr other ↦
                        let w = slice_get_within mesh j (child_of p (k + 1)) t in
                        let x = element_there mesh (i + 1) (omega arith) in
                        let before = leaves_spaced grid mesh g m i (i + 1) (child_of p k) x.0 (omega arith) s x.1 in
                        let after = leaves_spaced grid mesh g m (i + 1) j x.0 (child_of p (k + 1)) (omega arith) x.1 t in
                        absurd (omega (arith, start-stop x.0))
                  ]
              | inr more ↦
                  let back = leaves_spaced grid mesh g m j i (child_of p (k + 1)) (child_of p k) more t s in
                  absurd (omega (arith, start-stop (child_of p k), start-stop (child_of p (k + 1))))
            ]
      ]

  module _ (wishes : List Wish) (levels : List ℕ) (s : IsSolution grid mesh wishes levels) where
    -- from the first child of a family that joins, all eight follow
    pub family_run : (i : ℕ) (a : Cube) → slice_get mesh i ≡ Some a → slice_index levels i < a.level → child_number a ≡ 0 → (k : ℕ) → k < 8 → (slice_get mesh (i + k) ≡ Some (child_of (parent_of a) k)) × (slice_index levels (i + k) ≡ a.level - 1)
    family_run i a at falls first zero h =
        let back : child_of (parent_of a) (child_number a) ≡ a = child_of-child_number (parent_of a) a (Contains-parent_of a (omega arith)) in
        let zeroth : slice_get mesh i ≡ Some (child_of (parent_of a) 0) = at ∙ ap Some (sym back ∙ ap (child_of (parent_of a)) first) in
        let o = siblings_fall grid mesh levels s.range s.lone s.siblings i a at falls 0 (omega arith) in
        let same : o.0 ≡ i = leaves_distinct grid mesh g m o.0 i (child_of (parent_of a) 0) o.1 zeroth in
        let here : i ≡ i + 0 = omega arith in
        (ap (slice_get mesh) (sym here) ∙ zeroth, ap (slice_index levels) (sym here ∙ sym same) ∙ o.2)
    family_run i a at falls first (suc k) h =
        let one : suc k ≡ k + 1 = omega arith in
        let before = family_run i a at falls first k (omega arith) in
        let o = siblings_fall grid mesh levels s.range s.lone s.siblings i a at falls (k + 1) (omega arith) in
        let next : o.0 ≡ i + k + 1 = next_sibling (parent_of a) k (i + k) o.0 (omega arith) before.0 o.1 in
        let here : i + suc k ≡ o.0 = omega arith in
        (ap (slice_get mesh) here ∙ o.1 ∙ ap (λ k. Some (child_of (parent_of a) k)) (sym one), ap (slice_index levels) here ∙ o.2)

    -- before another child than the first, the child before it stands, and falls too
    sibling_before : (j : ℕ) (a : Cube) (k : ℕ) → slice_get mesh j ≡ Some a → slice_index levels j < a.level → child_number a ≡ k + 1 → (i : ℕ) × (j ≡ i + 1) × (slice_get mesh i ≡ Some (child_of (parent_of a) k)) × (slice_index levels i ≡ a.level - 1)
    sibling_before j a k at falls n =
        let w = child_number_below a in
        let back : child_of (parent_of a) (child_number a) ≡ a = child_of-child_number (parent_of a) a (Contains-parent_of a (omega arith)) in
        let here : slice_get mesh j ≡ Some (child_of (parent_of a) (k + 1)) = at ∙ ap Some (sym back ∙ ap (child_of (parent_of a)) n) in
        let o = siblings_fall grid mesh levels s.range s.lone s.siblings j a at falls k (omega arith) in
        (o.0, next_sibling (parent_of a) k o.0 j (omega arith) o.1 here, o.1, o.2)

    pub Aligned-first : Aligned mesh levels 0
    Aligned-first a at falls =
        elim (cases_eq (child_number a) 0) [
          | inl e ↦ e
          | inr n ↦
              let o = sibling_before 0 a (child_number a - 1) at falls (omega arith) in
              absurd (omega (arith, o.1))
        ]

    pub Aligned-next : (i : ℕ) (b : Cube) → slice_get mesh i ≡ Some b → b.level ≤ slice_index levels i → Aligned mesh levels (i + 1)
    Aligned-next i b here stays a at falls =
        elim (cases_eq (child_number a) 0) [
          | inl e ↦ e
          | inr n ↦
              let k = child_number a - 1 in
              let o = sibling_before (i + 1) a k at falls (omega arith) in
              let same : o.0 ≡ i = omega (arith, o.1) in
              let one : child_of (parent_of a) k ≡ b = same_element mesh o.0 i (child_of (parent_of a) k) b o.2 here same in
              let level : b.level ≡ a.level - 1 + 1 = ap (λ (c : Cube). c.level) (sym one) in
              let fall : slice_index levels i ≡ a.level - 1 = subst (λ j. slice_index levels j ≡ a.level - 1) same o.3 in
              absurd (omega arith)
        ]

    pub Aligned-family : (i : ℕ) (p : Cube) → slice_get mesh (i + 7) ≡ Some (child_of p 7) → Aligned mesh levels (i + 8)
    Aligned-family i p here a at falls =
        elim (cases_eq (child_number a) 0) [
          | inl e ↦ e
          | inr n ↦
              let k = child_number a - 1 in
              let w = child_number_below a in
              let o = sibling_before (i + 8) a k at falls (omega arith) in
              let same : o.0 ≡ i + 7 = omega (arith, o.1) in
              let one : child_of (parent_of a) k ≡ child_of p 7 = same_element mesh o.0 (i + 7) (child_of (parent_of a) k) (child_of p 7) o.2 here same in
              let seven : k ≡ 7 = sym (child_number-child_of (parent_of a) k (omega arith)) ∙ ap child_number one ∙ child_number-child_of p 7 (omega arith) in
              absurd (omega arith)
        ]
