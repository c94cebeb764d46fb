-- Sums of stretches of the words.
use Rattle.std.proofs.Common.{◌≡◌, ℕ, zero, suc, ◌+◌, ◌<◌, ◌≤◌, ◌⊎◌, List, [], ◌∷◌, ◌++◌, length, set, get_or, take, sym, refl, subst, ⊎_elim, inl, inr, arith, lt_of_not-le}
use mathlib.Core.Logic.{dite}
use native.Mathlib.Decide.{dec_le}
use mathlib.Core.Option.{some, some-injective, some-ne-none}
use lib.ListN.{get_elem?}
use Rattle.quiet_table.specs.Words.{adds, span}

pub span_front : (words : List ℕ) (from n : ℕ) → from < length words → span words from (suc n) ≡ get_or words from 0 + span words (suc from) n
span_front [] from n h = absurd (omega arith)
span_front (w ∷ ws) zero n h = refl
span_front (w ∷ ws) (suc from) n h = span_front ws from n (omega arith)

pub span_set_in : (words : List ℕ) (from n k x : ℕ) → from ≤ k → k < from + n → k < length words → span (set words k x) from n + get_or words k 0 ≡ span words from n + x
span_set_in [] from n k x a b c = absurd (omega arith)
span_set_in (w ∷ ws) zero zero k x a b c = absurd (omega arith)
span_set_in (w ∷ ws) zero (suc n) zero x a b c = omega arith
span_set_in (w ∷ ws) zero (suc n) (suc k) x a b c = let r = span_set_in ws zero n k x (omega arith) (omega arith) (omega arith) in omega (arith, r)
span_set_in (w ∷ ws) (suc from) n zero x a b c = absurd (omega arith)
span_set_in (w ∷ ws) (suc from) n (suc k) x a b c = span_set_in ws from n k x (omega arith) (omega arith) (omega arith)

pub span_set_out : (words : List ℕ) (from n k x : ℕ) → (k < from) ⊎ (from + n ≤ k) → span (set words k x) from n ≡ span words from n
span_set_out [] from n k x h = refl
span_set_out (w ∷ ws) zero zero k x h = refl
span_set_out (w ∷ ws) zero (suc n) zero x h = ⊎_elim (λ (t : 0 < 0). absurd (omega arith)) (λ (t : 0 + suc n ≤ 0). absurd (omega arith)) h
span_set_out (w ∷ ws) zero (suc n) (suc k) x h = let r = span_set_out ws zero n k x (⊎_elim (λ (t : suc k < 0). absurd (omega arith)) (λ (t : 0 + suc n ≤ suc k). inr (omega arith)) h) in omega (arith, r)
span_set_out (w ∷ ws) (suc from) n zero x h = refl
span_set_out (w ∷ ws) (suc from) n (suc k) x h = span_set_out ws from n k x (⊎_elim (λ (t : suc k < suc from). inl (omega arith)) (λ (t : suc from + n ≤ suc k). inr (omega arith)) h)

pub span_get : (words : List ℕ) (from n k : ℕ) → from ≤ k → k < from + n → k < length words → get_or words k 0 ≤ span words from n
span_get words from n k a b c = let r = span_set_in words from n k 0 a b c in omega arith

pub less_or : (a b : ℕ) → (a < b) ⊎ (b ≤ a)
less_or a b = dite (dec_le b a) (λ h. inr h) (λ n. inl (lt_of_not-le n))

pub within_of : {A : Type 0} (l : List A) (i : ℕ) (a : A) → get_elem? l i ≡ some a → i < length l
within_of [] i a e = absurd (some-ne-none a (sym e))
within_of (x ∷ xs) zero a e = omega arith
within_of (x ∷ xs) (suc i) a e = let h = within_of xs i a e in omega arith

pub adds_more : (xs : List ℕ) (n : ℕ) → adds (xs ++ n ∷ []) ≡ adds xs + n
adds_more [] n = omega arith
adds_more (x ∷ xs) n = let r = adds_more xs n in omega (arith, r)

pub length_take : (k : ℕ) (xs : List ℕ) → k ≤ length xs → length (take k xs) ≡ k
length_take zero xs h = refl
length_take (suc k) [] h = absurd (omega arith)
length_take (suc k) (x ∷ xs) h = let r = length_take k xs (omega arith) in omega (arith, r)

pub take_get : (k : ℕ) (xs : List ℕ) (i m : ℕ) → get_elem? (take k xs) i ≡ some m → get_elem? xs i ≡ some m
take_get zero xs zero m e = absurd (some-ne-none m (sym e))
take_get zero xs (suc i) m e = absurd (some-ne-none m (sym e))
take_get (suc k) [] i m e = e
take_get (suc k) (x ∷ xs) zero m e = e
take_get (suc k) (x ∷ xs) (suc i) m e = take_get k xs i m e

pub last_or : (l : List ℕ) (a b : ℕ) (j : ℕ) → get_elem? (l ++ a ∷ []) j ≡ some b → (get_elem? l j ≡ some b) ⊎ ((j ≡ length l) × (a ≡ b))
last_or [] a b zero e = inr (refl, some-injective a b e)
last_or [] a b (suc j) e = absurd (some-ne-none b (sym e))
last_or (x ∷ xs) a b zero e = inl e
last_or (x ∷ xs) a b (suc j) e = ⊎_elim (λ (t : get_elem? xs j ≡ some b). inl t) (λ (t : (j ≡ length xs) × (a ≡ b)). let q = t.0 in inr ((omega arith), t.1)) (last_or xs a b j e)

-- one word more
pub span_last : (words : List ℕ) (from n k : ℕ) → k ≡ from + n → k < length words → span words from (suc n) ≡ span words from n + get_or words k 0
span_last [] from n k e h = absurd (omega arith)
span_last (w ∷ ws) zero zero zero e h = omega arith
span_last (w ∷ ws) zero zero (suc k) e h = absurd (omega arith)
span_last (w ∷ ws) zero (suc n) zero e h = absurd (omega arith)
span_last (w ∷ ws) zero (suc n) (suc k) e h = let r = span_last ws zero n k (omega arith) (omega arith) in omega (arith, r)
span_last (w ∷ ws) (suc from) n zero e h = absurd (omega arith)
span_last (w ∷ ws) (suc from) n (suc k) e h = span_last ws from n k (omega arith) (omega arith)

pub no_words : (n : ℕ) → adds (take n []) ≡ 0
no_words zero = refl
no_words (suc n) = refl

pub span_mono : (words : List ℕ) (from n m : ℕ) → n ≤ m → span words from n ≤ span words from m
span_mono [] zero n m h = let a = no_words n in let b = no_words m in omega (arith, a, b)
span_mono (w ∷ ws) zero zero m h = omega arith
span_mono (w ∷ ws) zero (suc n) zero h = absurd (omega arith)
span_mono (w ∷ ws) zero (suc n) (suc m) h = let r = span_mono ws zero n m (omega arith) in omega (arith, r)
span_mono [] (suc from) n m h = let a = no_words n in let b = no_words m in omega (arith, a, b)
span_mono (w ∷ ws) (suc from) n m h = span_mono ws from n m h

-- numbers each at most its word add up to at most the words
pub adds_le : (xs words : List ℕ) (from : ℕ) → from + length xs ≤ length words → ((i m : ℕ) → get_elem? xs i ≡ some m → m ≤ get_or words (from + i) 0) → adds xs ≤ span words from (length xs)
adds_le [] words from h each = omega arith
adds_le (x ∷ xs) words from h each =
    let front = span_front words from (length xs) (omega arith) in
    let first : x ≤ get_or words (from + 0) 0 = each 0 x refl in
    let e0 : from + 0 ≡ from = omega arith in
    let first' : x ≤ get_or words from 0 = subst (λ z. x ≤ get_or words z 0) e0 first in
    let later = adds_le xs words (suc from) (omega arith) (λ i m e. let q : from + suc i ≡ suc from + i = omega arith in subst (λ z. m ≤ get_or words z 0) q (each (suc i) m e)) in
    omega (arith, front, first', later)
