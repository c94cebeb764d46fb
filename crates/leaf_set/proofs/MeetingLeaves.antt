-- Leaves over a place or in it that meet a leaf beside the place: in a balanced mesh the place is a leaf, or its parent
-- is, or its children that meet the leaf are.
use Rattle.std.proofs.Common.{◌≡◌, ℕ, zero, suc, ◌+◌, ◌<◌, ◌≤◌, ◌⊎◌, inl, inr, sym, ap, ◌∙◌, subst, arith, List, Some, slice_get}
use Rattle.std.proofs.lemmas.Option.{same_Some}
use Rattle.block_index.specs.Places.{Cube, Grid, IsDomain, IsInside, child_of, parent_of, child_number}
use Rattle.block_index.specs.Touching.{Touches}
use Rattle.leaf_set.specs.Meshes.{IsLeaf, IsMesh, IsBalanced}
use Rattle.leaf_set.specs.TouchingLeaves.{IsCoveredBeside}
use Rattle.leaf_set.proofs.Boxes.{BoxesMeet, BoxesMeet-sym, BoxesMeet-Contains, BoxesMeet-child_of, BoxesMeet-Touches, Touches-BoxesMeet}
use Rattle.leaf_set.proofs.Containment.{Contains, Contains-same, Contains-one, Contains-trans, Contains-between, Contains-child_of, Contains-parent_of, IsInside-child_of, child_of-child_number, child_number_below}
use Rattle.leaf_set.proofs.Leaves.{cube_cases}
use Rattle.leaf_set.proofs.MeshFacts.{leaf_near, leaves_apart}
use Rattle.leaf_set.proofs.Spots.{finest_limit}

module _ (grid : Grid) (mesh : List Cube) (g : IsDomain grid) (m : IsMesh grid mesh) where
  -- a leaf that meets b and lies over p or in it
  abbrev Near : Cube → Cube → Type 0
  Near b p = (i : ℕ) × (a : Cube) × (d : ℕ) × (slice_get mesh i ≡ Some a) × BoxesMeet grid a b × (Contains d a p ⊎ ((1 ≤ d) × Contains d p a))

  over : (b p a : Cube) (i d : ℕ) → IsInside grid p → BoxesMeet grid p b → slice_get mesh i ≡ Some a → Contains d a p → Near b p
  over b p a i d w meets s k = (i, a, d, s, BoxesMeet-Contains grid d a p b k (finest_limit grid p g w) meets, inl k)

  from_child : (b p : Cube) (k : ℕ) → k < 8 → Near b (child_of p k) → Near b p
  from_child b p k h (i, a, d, s, meets, sides) =
      elim sides [
        | inl up ↦ above d up
        | inr low ↦ (i, a, d + 1, s, meets, inr (omega arith, Contains-trans 1 d p (child_of p k) a (Contains-child_of p k h) low.1))
      ]
    where
      above : (d : ℕ) → Contains d a (child_of p k) → Near b p
      above zero up = (i, a, 1, s, meets, inr (omega arith, subst (Contains 1 p) (sym (Contains-same a (child_of p k) up)) (Contains-child_of p k h)))
      above (suc e) up =
          (i, a, e, s, meets, inl (Contains-between e 1 a p (child_of p k) (subst (λ n. Contains n a (child_of p k)) (let q : suc e ≡ 1 + e = omega arith in q) up) (Contains-child_of p k h)))

  pub meeting_leaf : (fuel : ℕ) (b p : Cube) → IsInside grid p → grid.finest ≤ p.level + fuel → BoxesMeet grid p b → (i : ℕ) × (a : Cube) × (d : ℕ) × (slice_get mesh i ≡ Some a) × BoxesMeet grid a b × (Contains d a p ⊎ ((1 ≤ d) × Contains d p a))
  meeting_leaf zero b p w f meets =
      let o = leaf_near grid mesh g m p w in
      elim (o.4) [
        | inl up ↦ over b p o.1 o.0 o.2 w meets o.3 up
        | inr low ↦ absurd (let i = m.inside o.0 o.1 o.3 in omega (arith, low.0, low.1.level, i.level))
      ]
  meeting_leaf (suc fuel) b p w f meets =
      let o = leaf_near grid mesh g m p w in
      elim (o.4) [
        | inl up ↦ over b p o.1 o.0 o.2 w meets o.3 up
        | inr low ↦
            let i = m.inside o.0 o.1 o.3 in
            let room : p.level + 1 ≤ grid.finest = omega (arith, low.0, low.1.level, i.level) in
            let q = BoxesMeet-child_of grid p b (omega (arith, g.finest)) meets in
            from_child b p q.0 q.1 (meeting_leaf fuel b (child_of p q.0) (IsInside-child_of grid p q.0 q.1 room w) (omega arith) q.2)
      ]

  module _ (balanced : IsBalanced grid mesh) where
    -- leaves that meet differ by at most one level
    levels_near : (i j : ℕ) (a b : Cube) → slice_get mesh i ≡ Some a → slice_get mesh j ≡ Some b → BoxesMeet grid a b → (a.level ≤ b.level + 1) × (b.level ≤ a.level + 1)
    levels_near i j a b s t meets =
        elim (cube_cases a b) [
          | inl e ↦ let l = ap (λ (c : Cube). c.level) e in (omega arith, omega arith)
          | inr n ↦ (
            balanced i j a b s t (Touches-BoxesMeet grid a b n meets),
            balanced j i b a t s (Touches-BoxesMeet grid b a (λ e. n (sym e)) (BoxesMeet-sym grid a b meets)),
          )
        ]

    abbrev CoveredBeside : Cube → Cube → Type 0
    CoveredBeside q b =
        IsLeaf mesh q
        ⊎ (((0 < q.level) × IsLeaf mesh (parent_of q))
        ⊎ ((q.level + 1 ≤ grid.finest) × ((r : Cube) → Contains 1 q r → BoxesMeet grid r b → IsLeaf mesh r)))

    -- Of a place that meets a leaf of its level: it is a leaf, or its parent is, or each of its children that meets
    -- the leaf is.
    pub covers_beside : (q b : Cube) (j : ℕ) → slice_get mesh j ≡ Some b → q.level ≡ b.level → IsInside grid q → BoxesMeet grid q b → CoveredBeside q b
    covers_beside q b j at level w meets = from (meeting_leaf grid.finest b q w (omega arith) meets)
      where
        finer_leaves : (i : ℕ) (a : Cube) → slice_get mesh i ≡ Some a → Contains 1 q a → (r : Cube) → Contains 1 q r → BoxesMeet grid r b → IsLeaf mesh r
        finer_leaves i a s low r down against =
            let inside = m.inside i a s in
            let room : q.level + 1 ≤ grid.finest = omega (arith, low.level, inside.level) in
            let e : child_of q (child_number r) ≡ r = child_of-child_number q r down in
            let r_inside : IsInside grid r = subst (IsInside grid) e (IsInside-child_of grid q (child_number r) (child_number_below r) room w) in
            let o = meeting_leaf grid.finest b r r_inside (omega arith) against in
            let near = levels_near o.0 j o.1 b o.3 at o.4 in
            elim (o.5) [
              | inl up ↦ leaf_over o.0 o.1 o.2 o.3 up
              | inr deep ↦ absurd (omega (arith, near.0, deep.0, deep.1.level, down.level))
            ]
          where
            leaf_over : (i' : ℕ) (c : Cube) (d : ℕ) → slice_get mesh i' ≡ Some c → Contains d c r → IsLeaf mesh r
            leaf_over i' c zero t up = (i', t ∙ ap Some (Contains-same c r up))
            leaf_over i' c (suc d) t up =
                let high : Contains d c q = Contains-between d 1 c q r (subst (λ k. Contains k c r) (let e : suc d ≡ 1 + d = omega arith in e) up) down in
                let one = leaves_apart grid mesh g m i' i (1 + d) c a t s (Contains-trans d 1 c q a high low) in
                let same : c ≡ a = same_Some c a (sym t ∙ ap (slice_get mesh) one ∙ s) in
                absurd (let k = low.level in let l = high.level in omega (arith, ap (λ (p : Cube). p.level) same))

        from : ((i : ℕ) × (a : Cube) × (d : ℕ) × (slice_get mesh i ≡ Some a) × BoxesMeet grid a b × (Contains d a q ⊎ ((1 ≤ d) × Contains d q a))) → CoveredBeside q b
        from (i, a, d, s, touch, sides) =
            let near = levels_near i j a b s at touch in
            elim sides [
              | inl up ↦ high d up (let l = up.level in omega (arith, near.1))
              | inr deep ↦
                  let one : d ≡ 1 = let l = deep.1.level in omega (arith, near.0, deep.0) in
                  inr (inr (let inside = m.inside i a s in omega (arith, deep.1.level, inside.level), finer_leaves i a s (subst (λ k. Contains k q a) one deep.1)))
            ]
          where
            high : (d : ℕ) → Contains d a q → d ≤ 1 → CoveredBeside q b
            high zero up l = inl (i, s ∙ ap Some (Contains-same a q up))
            high (suc zero) up l =
                let positive : 0 < q.level = let k = up.level in omega arith in
                inr (inl (positive, (i, s ∙ ap Some (Contains-one 1 a (parent_of q) q up (Contains-parent_of q positive)))))
            high (suc (suc d)) up l = absurd (omega arith)

pub touching-IsCoveredBeside : (grid : Grid) (mesh : List Cube) (q b : Cube) → IsDomain grid → IsMesh grid mesh → IsBalanced grid mesh → IsLeaf mesh b → q.level ≡ b.level → IsInside grid q → Touches grid q b → IsCoveredBeside grid mesh q b
touching-IsCoveredBeside grid mesh q b g m balanced leaf level w touch =
    elim (covers_beside grid mesh g m balanced q b leaf.0 leaf.1 level w (BoxesMeet-Touches grid q b touch)) [
      | inl here ↦ inl here
      | inr other ↦
          elim other [
            | inl up ↦ inr (inl up)
            | inr down ↦ inr (inr (down.0, λ k h t. down.1 (child_of q k) (Contains-child_of q k h) (BoxesMeet-Touches grid (child_of q k) b t)))
          ]
    ]
