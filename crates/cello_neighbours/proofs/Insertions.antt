-- An insert into ascending numbers, between the lower and the higher ones.
use Rattle.std.proofs.Common.{◌≡◌, ℕ, zero, suc, ◌+◌, ◌-◌, ◌<◌, ◌≤◌, List, length, get_or, ◌⊎◌, inl, inr, ◌↔◌, sym, ap, ◌∙◌, subst, arith}
use Rattle.std.specs.List.{Contains, insert}
use Rattle.std.specs.List.Sorted.{IsStrictlyIncreasing}
use Rattle.std.proofs.lemmas.Bool.{cases_lt, cases_order}
use Rattle.std.proofs.lemmas.List.Edits.{length-insert, get_or-insert_below, get_or-insert_at, get_or-insert_above}
use Rattle.std.proofs.lemmas.List.{get_or_default}

-- all before i are below y, and all from i on above it
pub record Fits (xs : List ℕ) (i y : ℕ) : Type 0 where
  pub within : i ≤ length xs
  pub lower : (k : ℕ) → k < i → get_or xs k 0 < y
  pub higher : (k : ℕ) → i ≤ k → k < length xs → y < get_or xs k 0

rising : (xs : List ℕ) → IsStrictlyIncreasing xs → (d i : ℕ) → i + d < length xs → get_or xs i 0 ≤ get_or xs (i + d) 0
rising xs h zero i l = subst (λ n. get_or xs i 0 ≤ get_or xs n 0) (let e : i ≡ i + 0 = omega arith in e) (omega arith)
rising xs h (suc d) i l =
    let e : i + suc d ≡ i + d + 1 = omega arith in
    omega (arith, rising xs h d i (omega arith), h (i + d) (omega arith), ap (λ n. get_or xs n 0) e)

pub IsStrictlyIncreasing-far : (xs : List ℕ) → IsStrictlyIncreasing xs → (i j : ℕ) → i ≤ j → j < length xs → get_or xs i 0 ≤ get_or xs j 0
IsStrictlyIncreasing-far xs h i j l m =
    let e : i + (j - i) ≡ j = omega arith in
    subst (λ n. get_or xs i 0 ≤ get_or xs n 0) e (rising xs h (j - i) i (omega arith))

module _ (xs : List ℕ) (i y : ℕ) (f : Fits xs i y) where
  below : (k : ℕ) → k < i → get_or (insert xs i y) k 0 ≡ get_or xs k 0
  below k h = get_or-insert_below xs i y 0 k h f.within

  at : get_or (insert xs i y) i 0 ≡ y
  at = get_or-insert_at xs i y 0 f.within

  above : (k : ℕ) → i ≤ k → get_or (insert xs i y) (k + 1) 0 ≡ get_or xs k 0
  above k h = get_or-insert_above xs i y 0 k h f.within

  long : length (insert xs i y) ≡ length xs + 1
  long = length-insert xs i y f.within

  pub IsStrictlyIncreasing-insert : IsStrictlyIncreasing xs → IsStrictlyIncreasing (insert xs i y)
  IsStrictlyIncreasing-insert h k l =
      elim (cases_order (k + 1) i) [
        | inl e ↦
            omega (arith, below k (omega arith), f.lower k (omega arith), at, ap (λ n. get_or (insert xs i y) n 0) e)
        | inr r ↦
            elim r [
              | inl less ↦ omega (arith, below k (omega arith), below (k + 1) (omega arith), h k (omega (arith, f.within)))
              | inr more ↦
                  elim (cases_lt i k) [
                    | inl past ↦
                        let e : k - 1 + 1 ≡ k = omega arith in
                        omega (
                          arith,
                          above k (omega arith),
                          above (k - 1) (omega arith),
                          ap (λ n. get_or (insert xs i y) n 0) e,
                          h (k - 1) (omega (arith, long)),
                          ap (λ n. get_or xs n 0) e,
                        )
                    | inr here ↦
                        let e : k ≡ i = omega arith in
                        omega (arith, at, ap (λ n. get_or (insert xs i y) n 0) e, above k (omega arith), f.higher k (omega arith) (omega (arith, long)))
                  ]
            ]
      ]

  pub Contains-insert : (j : ℕ) → Contains (insert xs i y) j ↔ ((j ≡ y) ⊎ Contains xs j)
  Contains-insert j = (there, back)
    where
      numbered : (zs : List ℕ) (k : ℕ) → k < length zs → get_or zs k 0 ≡ j → Contains zs j
      numbered zs k l e = (k, l, get_or_default zs k j 0 l ∙ e)

      there : Contains (insert xs i y) j → (j ≡ y) ⊎ Contains xs j
      there c =
          let k = c.0 in
          let l : k < length xs + 1 = omega (arith, c.1, long) in
          let e : get_or (insert xs i y) k 0 ≡ j = sym (get_or_default (insert xs i y) k j 0 c.1) ∙ c.2 in
          elim (cases_order k i) [
            | inl same ↦ inl (sym e ∙ ap (λ n. get_or (insert xs i y) n 0) same ∙ at)
            | inr r ↦
                elim r [
                  | inl less ↦ inr (numbered xs k (omega (arith, f.within)) (sym (below k less) ∙ e))
                  | inr more ↦
                      let s : k - 1 + 1 ≡ k = omega arith in
                      inr (numbered xs (k - 1) (omega arith) (sym (above (k - 1) (omega arith)) ∙ ap (λ n. get_or (insert xs i y) n 0) s ∙ e))
                ]
          ]

      back : (j ≡ y) ⊎ Contains xs j → Contains (insert xs i y) j
      back r =
          elim r [
            | inl e ↦ numbered (insert xs i y) i (omega (arith, f.within, long)) (at ∙ sym e)
            | inr c ↦
                let k = c.0 in
                let e : get_or xs k 0 ≡ j = sym (get_or_default xs k j 0 c.1) ∙ c.2 in
                elim (cases_lt k i) [
                  | inl less ↦ numbered (insert xs i y) k (omega (arith, c.1, long)) (below k less ∙ e)
                  | inr more ↦ numbered (insert xs i y) (k + 1) (omega (arith, c.1, long)) (above k more ∙ e)
                ]
          ]
