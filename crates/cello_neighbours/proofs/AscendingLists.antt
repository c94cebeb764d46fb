-- Lists that ascend: with a higher number behind, and known by their elements.
use Rattle.std.proofs.Common.{◌≡◌, ℕ, zero, suc, ◌+◌, ◌<◌, ◌⊎◌, inl, inr, List, [], ◌∷◌, ◌++◌, length, get_or, refl, sym, ap, ◌∙◌, arith, length-append}
use Rattle.std.specs.List.{Contains}
use Rattle.std.specs.List.Sorted.{IsStrictlyIncreasing}
use Rattle.std.proofs.Math.ListN.{get_or-append}
use Rattle.std.proofs.Math.Seq.{get_or-append_seam}
use Rattle.std.proofs.lemmas.Bool.{cases_lt}
use Rattle.std.proofs.lemmas.List.Elements.{Contains-get_or}

pub IsStrictlyIncreasing-push : (xs : List ℕ) (y : ℕ) → IsStrictlyIncreasing xs → ((x : ℕ) → Contains xs x → x < y) → IsStrictlyIncreasing (xs ++ y ∷ [])
IsStrictlyIncreasing-push xs y up below k within =
    let n : length (xs ++ y ∷ []) ≡ length xs + 1 = length-append xs (y ∷ []) in
    let here : get_or (xs ++ y ∷ []) k 0 ≡ get_or xs k 0 = get_or-append xs (y ∷ []) 0 k (omega arith) in
    elim (cases_lt (k + 1) (length xs)) [
      | inl less ↦ omega (arith, here, get_or-append xs (y ∷ []) 0 (k + 1) less, up k less)
      | inr more ↦
          let last : k + 1 ≡ length xs = omega arith in
          omega (arith, here, ap (λ i. get_or (xs ++ y ∷ []) i 0) last, get_or-append_seam xs y [] 0, below (get_or xs k 0) (Contains-get_or xs k 0 (omega arith)))
    ]

pub cons_cases : (x : ℕ) (xs : List ℕ) (j : ℕ) → Contains (x ∷ xs) j → (x ≡ j) ⊎ Contains xs j
cons_cases x xs j (zero, l, e) = inl e
cons_cases x xs j (suc k, l, e) = inr (k, omega arith, e)

pub head_in : (x : ℕ) (xs : List ℕ) → Contains (x ∷ xs) x
head_in x xs = (zero, omega arith, refl)

pub tail_in : (x : ℕ) (xs : List ℕ) (j : ℕ) → Contains xs j → Contains (x ∷ xs) j
tail_in x xs j h = (suc h.0, let l : suc h.0 < length (x ∷ xs) = omega (arith, h.1) in l, h.2)

pub tail_up : (x : ℕ) (xs : List ℕ) → IsStrictlyIncreasing (x ∷ xs) → IsStrictlyIncreasing xs
tail_up x xs up k l =
    let next : suc k + 1 ≡ suc (k + 1) = omega arith in
    omega (arith, up (suc k) (omega arith), ap (λ i. get_or (x ∷ xs) i 0) next)

-- the first is below all others
pub above_head : (x : ℕ) (xs : List ℕ) → IsStrictlyIncreasing (x ∷ xs) → (j : ℕ) → Contains xs j → x < j
above_head x [] up j h = absurd (omega (arith, h.1))
above_head x (y ∷ ys) up j h =
    let first : x < y = up zero (omega arith) in
    elim (cons_cases y ys j h) [
      | inl here ↦ omega (arith, first, here)
      | inr later ↦ omega (arith, first, above_head y ys (tail_up x (y ∷ ys) up) j later)
    ]

-- Lists that ascend and have the same elements are one.
pub same_ascending : (xs ys : List ℕ) → IsStrictlyIncreasing xs → IsStrictlyIncreasing ys → ((j : ℕ) → Contains xs j → Contains ys j) → ((j : ℕ) → Contains ys j → Contains xs j) → xs ≡ ys
same_ascending [] [] up rise there back = refl
same_ascending [] (y ∷ ys) up rise there back = absurd (omega (arith, (back y (head_in y ys)).1))
same_ascending (x ∷ xs) [] up rise there back = absurd (omega (arith, (there x (head_in x xs)).1))
same_ascending (x ∷ xs) (y ∷ ys) up rise there back =
    let front : ℕ → List ℕ = λ z. z ∷ xs in
    let put : List ℕ → List ℕ = λ zs. y ∷ zs in
    ap front first ∙ ap put (same_ascending xs ys (tail_up x xs up) (tail_up y ys rise) down up_again)
  where
    first : x ≡ y
    first =
        elim (cons_cases y ys x (there x (head_in x xs))) [
          | inl is ↦ sym is
          | inr later ↦
              elim (cons_cases x xs y (back y (head_in y ys))) [
                | inl is ↦ is
                | inr after ↦ absurd (omega (arith, above_head y ys rise x later, above_head x xs up y after))
              ]
        ]

    down : (j : ℕ) → Contains xs j → Contains ys j
    down j h =
        elim (cons_cases y ys j (there j (tail_in x xs j h))) [
          | inl is ↦ absurd (omega (arith, first, is, above_head x xs up j h))
          | inr later ↦ later
        ]

    up_again : (j : ℕ) → Contains ys j → Contains xs j
    up_again j h =
        elim (cons_cases x xs j (back j (tail_in y ys j h))) [
          | inl is ↦ absurd (omega (arith, first, is, above_head y ys rise j h))
          | inr later ↦ later
        ]
