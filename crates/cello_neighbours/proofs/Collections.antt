-- The list of the finer leaves on one side as it grows, child by child.
use Rattle.std.proofs.Common.{◌≡◌, ℕ, ◌+◌, ◌*◌, ◌<◌, ◌≤◌, inl, inr, true, false, cond, List, [], ◌∷◌, ◌++◌, Some, length, slice_get, sym, ap, ◌∙◌, subst, arith, length-append, mul-le-mul_right}
use Rattle.std.specs.List.{Contains}
use Rattle.std.specs.List.Sorted.{IsStrictlyIncreasing}
use Rattle.std.proofs.lemmas.Bool.{cases_eq, cases_order}
use Rattle.std.proofs.lemmas.List.Elements.{Contains-append_left, Contains-push, Contains-push_cases}
use Rattle.std.proofs.lemmas.Option.{same_Some}
use Rattle.block_index.specs.Places.{Cube, Grid, IsDomain, child_of, child_number}
use Rattle.leaf_set.specs.Meshes.{IsMesh}
use Rattle.leaf_set.proofs.Containment.{child_of-child_number, child_number-child_of, child_number_below}
use Rattle.leaf_set.proofs.MeshFacts.{leaves_distinct, leaves_spaced}
use Rattle.leaf_set.proofs.Spots.{start-child_of, stop-child_of, child_width, child_width-pos}
use Rattle.block_index.specs.Beyond.{Offset}
use Rattle.cello_neighbours.specs.Directions.{IsDirection}
use Rattle.cello_neighbours.specs.Covers.{AreAgainst, is_near}
use Rattle.cello_neighbours.proofs.AscendingLists.{IsStrictlyIncreasing-push}
use Rattle.cello_neighbours.proofs.NearChildren.{is_near_number, is_near-child_of, LiesAgainst-child_of, near_below, near_below-zero, near_below-next, near_below-all, near_below-room}
use Rattle.cello_neighbours.proofs.NearSides.{Contains-LiesAgainst}

-- js are the leaves among the children numbered below k that lie on the near side
pub record Collects (mesh : List Cube) (d : Offset) (q : Cube) (k : ℕ) (js : List ℕ) : Type 0 where
  pub ascending : IsStrictlyIncreasing js
  pub near : (j : ℕ) → Contains js j → (i : ℕ) × (i < k) × (slice_get mesh j ≡ Some (child_of q i)) × (is_near d (child_of q i) ≡ true)
  pub all : (i : ℕ) → i < k → is_near d (child_of q i) ≡ true → (j : ℕ) × (slice_get mesh j ≡ Some (child_of q i)) × Contains js j
  pub count : length js ≡ near_below d k

pub Collects-none : (mesh : List Cube) (d : Offset) (q : Cube) → Collects mesh d q 0 []
Collects-none mesh d q = record {
  ascending = λ k h. absurd (omega arith);
  near = λ j h. absurd (let l = h.1 in omega arith);
  all = λ i h. absurd (omega arith);
  count = omega (arith, near_below-zero d);
}

module _ (mesh : List Cube) (d : Offset) (q : Cube) (k : ℕ) (js : List ℕ) (h : Collects mesh d q k js) (l : k < 8) where
  pub Collects-skip : is_near d (child_of q k) ≡ false → Collects mesh d q (k + 1) js
  Collects-skip e =
      let f : is_near_number d k ≡ false = sym (is_near-child_of d q k l) ∙ e in
      record {
        ascending = h.ascending;
        near = λ j c. let o = h.near j c in (o.0, let m = o.1 in omega arith, o.2, o.3);
        all = λ i m n.
            elim (cases_eq i k) [
              | inl same ↦ absurd (true_false (sym n ∙ subst (λ p. is_near d (child_of q p) ≡ false) (sym same) e))
              | inr other ↦ h.all i (omega arith) n
            ];
        count = omega (arith, h.count, near_below-next d k ∙ ap (λ b. near_below d k + cond b 1 0) f);
      }
    where
      true_false : true ≡ false → ⊥
      true_false t = cc

  pub Collects-room : IsDirection d → is_near d (child_of q k) ≡ true → length js < 4
  Collects-room w e = omega (arith, h.count, near_below-room d k w l (sym (is_near-child_of d q k l) ∙ e))

  module _ (grid : Grid) (g : IsDomain grid) (m : IsMesh grid mesh) (room : q.level + 1 ≤ 6) (j : ℕ) (s : slice_get mesh j ≡ Some (child_of q k)) where
    -- the leaf at a later child stands behind
    pub Collects-later : (i : ℕ) → Contains js i → i < j
    Collects-later i c =
        let o = h.near i c in
        let before : (o.0 + 1) * child_width q.level ≤ k * child_width q.level = mul-le-mul_right (child_width q.level) (let n = o.1 in let e : o.0 + 1 ≤ k = omega arith in e) in
        elim (cases_order i j) [
          | inl same ↦
              let e : child_of q o.0 ≡ child_of q k = same_Some (child_of q o.0) (child_of q k) (sym o.2 ∙ subst (λ n. slice_get mesh n ≡ Some (child_of q k)) (sym same) s) in
              let n = o.1 in
              absurd (omega (arith, child_number-child_of q o.0 (omega arith), child_number-child_of q k l, ap child_number e))
          | inr r ↦
              elim r [
                | inl less ↦ less
                | inr more ↦
                    let n = o.1 in
                    absurd
                    (omega (arith, leaves_spaced grid mesh g m j i (child_of q k) (child_of q o.0) more s o.2, start-child_of q o.0 (omega arith) room, stop-child_of q k l room, before, child_width-pos q.level))
              ]
        ]

    pub Collects-push : is_near d (child_of q k) ≡ true → Collects mesh d q (k + 1) (js ++ j ∷ [])
    Collects-push e =
        let f : is_near_number d k ≡ true = sym (is_near-child_of d q k l) ∙ e in
        record {
          ascending = IsStrictlyIncreasing-push js j h.ascending Collects-later;
          near = λ i c.
              elim (Contains-push_cases js j i c) [
                | inl old ↦ let o = h.near i old in (o.0, let n = o.1 in omega arith, o.2, o.3)
                | inr new ↦ (k, omega arith, subst (λ n. slice_get mesh n ≡ Some (child_of q k)) new s, e)
              ];
          all = λ i n t.
              elim (cases_eq i k) [
                | inl same ↦ (j, subst (λ p. slice_get mesh j ≡ Some (child_of q p)) (sym same) s, Contains-push js j)
                | inr other ↦ let o = h.all i (omega arith) t in (o.0, o.1, Contains-append_left js (j ∷ []) o.0 o.2)
              ];
          count = omega (arith, length-append js (j ∷ []), h.count, near_below-next d k ∙ ap (λ b. near_below d k + cond b 1 0) f);
        }

-- once all eight are looked at
pub AreAgainst-Collects : (grid : Grid) (mesh : List Cube) (d : Offset) (q : Cube) (js : List ℕ) → IsDomain grid → IsMesh grid mesh → IsDirection d → Collects mesh d q 8 js → AreAgainst mesh d q js
AreAgainst-Collects grid mesh d q js g m w h = record {
  ascending = h.ascending;
  against = λ j c. let o = h.near j c in (child_of q o.0, o.2, LiesAgainst-child_of d q o.0 o.1 o.3);
  all = λ j c s k.
      let e : child_of q (child_number c) ≡ c = child_of-child_number q c (Contains-LiesAgainst d q c k) in
      let o = h.all (child_number c) (child_number_below c) (subst (λ p. is_near d p ≡ true) (sym e) k.near) in
      subst (Contains js) (leaves_distinct grid mesh g m o.0 j c (subst (λ p. slice_get mesh o.0 ≡ Some p) e o.1) s) o.2;
  count = h.count ∙ near_below-all d w;
}
