-- The first number or pair with a property that can be decided, or that there is none.
use Rattle.std.proofs.Common.{◌≡◌, ℕ, zero, suc, ◌<◌, ◌⊎◌, inl, inr, List, [], ◌∷◌, length, get_or, refl, ap, subst, arith}
use Rattle.std.proofs.lemmas.Bool.{cases_eq, cases_lt}
use Rattle.leaf_set.specs.LeafFaults.{IsFirst, IsFirstPair}

pub first-or-none : (P : ℕ → Type 0) → ((i : ℕ) → P i ⊎ (P i → ⊥)) → (n : ℕ) → ((i : ℕ) × IsFirst P i) ⊎ ((i : ℕ) → i < n → P i → ⊥)
first-or-none P each zero = inr (λ i l p. absurd (omega (arith, l)))
first-or-none P each (suc n) =
    elim (first-or-none P each n) [
      | inl h ↦ inl h
      | inr none ↦
          elim (each n) [
            | inl p ↦ inl (n, record { here = p; none_before = none })
            | inr not ↦ inr (λ i l p.
                elim (cases_lt i n) [
                  | inl less ↦ none i less p
                  | inr more ↦ not (subst P (let e : i ≡ n = omega (arith, l, more) in e) p)
                ])
          ]
    ]

-- whether a number below a limit has a property
pub some-or-none : (P : ℕ → Type 0) → ((i : ℕ) → P i ⊎ (P i → ⊥)) → (n : ℕ) → ((i : ℕ) × (i < n) × P i) ⊎ ((i : ℕ) → i < n → P i → ⊥)
some-or-none P each zero = inr (λ i l p. absurd (omega (arith, l)))
some-or-none P each (suc n) =
    elim (some-or-none P each n) [
      | inl h ↦ inl (h.0, (let l = h.1 in omega (arith, l)), h.2)
      | inr none ↦
          elim (each n) [
            | inl p ↦ inl (n, omega arith, p)
            | inr not ↦ inr (λ i l p.
                elim (cases_lt i n) [
                  | inl less ↦ none i less p
                  | inr more ↦ not (subst P (let e : i ≡ n = omega (arith, l, more) in e) p)
                ])
          ]
    ]

-- the first pair of numbers below a limit
pub first-pair-or-none : (P : ℕ → ℕ → Type 0) (n : ℕ) → ((a b : ℕ) → P a b ⊎ (P a b → ⊥)) → ((a b : ℕ) → P a b → a < n) → ((a b : ℕ) → P a b → b < n)
    → ((a : ℕ) × (b : ℕ) × IsFirstPair P a b) ⊎ ((a b : ℕ) → P a b → ⊥)
first-pair-or-none P n each below_a below_b =
    let Q : ℕ → Type 0 = λ a. (b : ℕ) × IsFirst (P a) b in
    let some : (a b : ℕ) → P a b → Q a = λ a b p.
    elim (first-or-none (P a) (each a) n) [ inl q ↦ q | inr none ↦ absurd (none b (below_b a b p) p) ] in
    let decided : (a : ℕ) → Q a ⊎ (Q a → ⊥) = λ a.
    elim (first-or-none (P a) (each a) n) [ inl q ↦ inl q | inr none ↦ inr (λ q. none q.0 (below_b a q.0 q.1.here) q.1.here) ] in
    elim (first-or-none Q decided n) [
      | inl h ↦ inl (
        h.0,
        h.1.here.0,
        record {
          here = h.1.here.1.here;
          none_of_lesser = λ i j l p. h.1.none_before i l (some i j p);
          none_before = h.1.here.1.none_before;
        },
      )
      | inr none ↦ inr (λ a b p. none a (below_a a b p) (some a b p))
    ]

-- whether two lists of numbers are the same
pub same-or-not : (xs ys : List ℕ) → (xs ≡ ys) ⊎ (xs ≡ ys → ⊥)
same-or-not [] [] = inl refl
same-or-not [] (y ∷ ys) = inr (λ e. let l : length {A = ℕ} [] ≡ length (y ∷ ys) = ap length e in omega (arith, l))
same-or-not (x ∷ xs) [] = inr (λ e. let l : length (x ∷ xs) ≡ length {A = ℕ} [] = ap length e in omega (arith, l))
same-or-not (x ∷ xs) (y ∷ ys) =
    elim (cases_eq x y) [
      | inr not ↦ inr (λ e. not (ap (λ (l : List ℕ). get_or l 0 0) e))
      | inl first ↦
          elim (same-or-not xs ys) [
            | inr not ↦ inr (λ e. not (ap (λ (l : List ℕ). tail l) e))
            | inl rest ↦ inl (λ i. first i ∷ rest i)
          ]
    ]
  where
    tail : List ℕ → List ℕ
    tail [] = []
    tail (z ∷ zs) = zs
