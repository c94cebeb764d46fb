-- Opening levels, leaf by leaf.
use Rattle.std.proofs.Common.{◌≡◌, ℕ, ◌<◌, ◌≤◌, List, [], ◌∷◌, ◌++◌, Some, length, slice_get, slice_index, get_or, sym, ap, ◌∙◌, subst, arith, inl, inr, length-append}
use Rattle.std.proofs.Math.ListN.{get_or-append}
use Rattle.std.proofs.Math.Seq.{get_or-append_seam}
use Rattle.std.proofs.lemmas.List.{get_or_past}
use Rattle.std.proofs.lemmas.Bool.{cases_lt}
use Rattle.std.proofs.lemmas.Option.{same_Some, slice_get_within, slice_get-get_or}
use Rattle.block_index.specs.Places.{Cube, Grid}
use Rattle.block_index.specs.declared.wish.Wish.{Wish}
use Rattle.block_index.specs.declared.wish.Wish.TheVariants.{Stay}
use Rattle.leaf_set.specs.Opening.{IsOpening, KeepsOwnRules}
use Rattle.sibling_rule.specs.Lemmas.OwnLevel.{OpensAt}

-- each of the levels opens its leaf
pub record AreOpening (grid : Grid) (mesh : List Cube) (wishes : List Wish) (levels : List ℕ) : Type 0 where
  pub opens : (i : ℕ) (a : Cube) (w : Wish) → slice_get mesh i ≡ Some a → slice_get wishes i ≡ Some w → i < length levels
      → OpensAt grid mesh a w (slice_index levels i)

pub AreOpening-push : (grid : Grid) (mesh : List Cube) (wishes : List Wish) (levels : List ℕ) (i : ℕ) (a : Cube) (w : Wish) (level : ℕ)
    → length levels ≡ i → AreOpening grid mesh wishes levels → slice_get mesh i ≡ Some a → slice_get wishes i ≡ Some w
    → OpensAt grid mesh a w level → AreOpening grid mesh wishes (levels ++ level ∷ [])
AreOpening-push grid mesh wishes levels i a w level m h s t o = record {
  opens = λ j b v p q l. elim (cases_lt j (length levels)) [
    | inl below ↦ subst (OpensAt grid mesh b v) (sym (get_or-append levels (level ∷ []) 0 j below)) (h.opens j b v p q below)
    | inr above ↦
        let n = length-append levels (level ∷ []) in
        let e : j ≡ i = omega (arith, n, l, above, m) in
        let leaf : a ≡ b = same_Some a b (sym s ∙ subst (λ k. slice_get mesh k ≡ Some b) e p) in
        let wish : w ≡ v = same_Some w v (sym t ∙ subst (λ k. slice_get wishes k ≡ Some v) e q) in
        let here : slice_index (levels ++ level ∷ []) j ≡ level = ap (slice_index (levels ++ level ∷ [])) (e ∙ sym m) ∙ get_or-append_seam levels level [] 0 in
        subst (OpensAt grid mesh b v) (sym here) (subst (λ c. OpensAt grid mesh c v level) leaf (subst (λ u. OpensAt grid mesh a u level) wish o))
  ];
}

module _ (grid : Grid) (mesh : List Cube) (wishes : List Wish) (levels : List ℕ) (m : length levels ≡ length mesh)
    (n : length wishes ≡ length mesh) (h : AreOpening grid mesh wishes levels) where
  opening_at : (i : ℕ) (a : Cube) → slice_get mesh i ≡ Some a
      → (w : Wish) × (slice_get wishes i ≡ Some w) × OpensAt grid mesh a w (slice_index levels i)
  opening_at i a s =
      let within = slice_get_within mesh i a s in
      let w = get_or wishes i Stay in
      let t : slice_get wishes i ≡ Some w = slice_get-get_or wishes i Stay (omega (arith, within, n)) in
      (w, t, h.opens i a w s t (omega (arith, within, m)))

  least_of : (others : List ℕ) → KeepsOwnRules grid mesh wishes others → (i : ℕ) → slice_index levels i ≤ slice_index others i
  least_of others o i = elim (cases_lt i (length mesh)) [
    | inl below ↦
        let a : Cube = get_or mesh i (record { level = 0; x = 0; y = 0; z = 0 }) in
        let s : slice_get mesh i ≡ Some a = slice_get-get_or mesh i (record { level = 0; x = 0; y = 0; z = 0 }) below in
        let at = opening_at i a s in
        at.2.least (slice_index others i) (o.wish i a at.0 s at.1) (λ l. o.lone i l.1.0 a s l.0 l.1.1 l.1.2)
    | inr above ↦
        let none : slice_index levels i ≡ 0 = get_or_past levels i 0 (omega (arith, m, above)) in
        omega (arith, none)
  ]

  -- levels that open each leaf open the phase
  pub IsOpening-AreOpening : IsOpening grid mesh wishes levels
  IsOpening-AreOpening = record {
    one_each = m;
    own = record {
      range = λ i a s. let at = opening_at i a s in (at.2.low, at.2.high);
      wish = λ i a w s t. let within = slice_get_within mesh i a s in (h.opens i a w s t (omega (arith, within, m))).wish;
      lone = λ i k a s root l n. let at = opening_at i a s in at.2.lone (root, (k, l, n));
    };
    least = least_of;
  }
