-- The first element of an ascending list with a property that only its elements have.
use Rattle.std.proofs.Common.{◌≡◌, ℕ, ◌<◌, List, length, get_or, sym, ap, ◌∙◌, subst, arith, inl, inr}
use Rattle.std.specs.Prelude.{Contains}
use Rattle.std.specs.List.Sorted.{IsStrictlyIncreasing}
use Rattle.std.proofs.lemmas.Bool.{cases_eq, cases_lt}
use Rattle.std.proofs.lemmas.List.{get_or_default}
use Rattle.std.proofs.lemmas.List.Kept.{AllPairs-from_increasing}
use Rattle.leaf_set.specs.LeafFaults.{IsFirst}

module _ (P : ℕ → Type 0) (js : List ℕ) (all : (j : ℕ) → P j → Contains js j) where
  pub none-around : ((k : ℕ) → k < length js → P (get_or js k 0) → ⊥) → (j : ℕ) → P j → ⊥
  none-around h j p =
      let m = all j p in
      let e : get_or js m.0 0 ≡ j = get_or_default js m.0 0 j m.1 ∙ m.2 in
      h m.0 m.1 (subst P (sym e) p)

  pub first-around : IsStrictlyIncreasing js → (x : ℕ) → x < length js → ((k : ℕ) → k < x → P (get_or js k 0) → ⊥) → P (get_or js x 0) → IsFirst P (get_or js x 0)
  first-around rises x hx before p = record {
    here = p;
    none_before = λ i hi q.
        let m = all i q in
        let e : get_or js m.0 0 ≡ i = get_or_default js m.0 0 i m.1 ∙ m.2 in
        elim (cases_lt m.0 x) [
          | inl less ↦ before m.0 less (subst P (sym e) q)
          | inr more ↦
              elim (cases_eq m.0 x) [
                | inl same ↦ let here : get_or js m.0 0 ≡ get_or js x 0 = ap (λ k. get_or js k 0) same in omega arith
                | inr other ↦ let later = AllPairs-from_increasing js rises x m.0 0 (omega arith) m.1 in omega (arith, later)
              ]
        ];
  }
