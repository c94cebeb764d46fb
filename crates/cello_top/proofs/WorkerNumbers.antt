-- Words that spell the number of some workers.
use Rattle.std.proofs.Common.{◌≡◌, ℕ, zero, suc, ◌≤◌, List, refl, ap, ◌∙◌, arith, ◌⊎◌, inl, inr}
use Rattle.std.specs.Prelude.{Bool, true, false, ◌||◌, decimal}
use Rattle.std.specs.Str.{bytes_eq}
use Rattle.std.proofs.lemmas.Bool.{cases_lt, false≢true}
use Rattle.std.proofs.lemmas.Slice.Eq.{bytes_eq-Decides}
use Rattle.cello_top.specs.WorkerWords.{spells_up_to}

left-true : (a b : Bool) → a ≡ true → (a || b) ≡ true
left-true true b e = refl
left-true false b e = absurd (false≢true e)

right-true : (a b : Bool) → b ≡ true → (a || b) ≡ true
right-true true b e = refl
right-true false b e = e

both-false : (a b : Bool) → a ≡ false → b ≡ false → (a || b) ≡ false
both-false true b e f = e
both-false false b e f = f

is-false : (a : Bool) → (a ≡ true → ⊥) → a ≡ false
is-false true no-way = absurd (no-way refl)
is-false false no-way = refl

le_or_eq : (n m : ℕ) → n ≤ suc m → (n ≤ m) ⊎ (n ≡ suc m)
le_or_eq n m h = elim (cases_lt m n) [ inl more ↦ inr (omega (arith, h, more)) | inr less ↦ inl less ]

-- the spelling of a number up to this one is found
pub spells-one : (most n : ℕ) (word : List ℕ) → 1 ≤ n → n ≤ most → word ≡ decimal n → spells_up_to most word ≡ true
unfolding spells_up_to
spells-one zero n word some within is = absurd (omega (arith, some, within))
spells-one (suc m) n word some within is = elim (le_or_eq n m within) [
  | inl less ↦ right-true (bytes_eq word (decimal (suc m))) (spells_up_to m word) (spells-one m n word some less is)
  | inr same ↦ left-true (bytes_eq word (decimal (suc m))) (spells_up_to m word) ((bytes_eq-Decides word (decimal (suc m))).1 (is ∙ ap decimal same))
]

-- a word that spells none of them is not found
pub spells-none : (most : ℕ) (word : List ℕ) → ((n : ℕ) → 1 ≤ n → n ≤ most → word ≡ decimal n → ⊥) → spells_up_to most word ≡ false
unfolding spells_up_to
spells-none zero word other = refl
spells-none (suc m) word other =
    both-false (bytes_eq word (decimal (suc m))) (spells_up_to m word)
    (is-false _ (λ e. other (suc m) (omega arith) (omega arith) ((bytes_eq-Decides word (decimal (suc m))).0 e)))
    (spells-none m word (λ n some within. other n some (omega (arith, within))))

-- the last number is spelled, or one before it
by-first : (m : ℕ) (word : List ℕ) (b c : Bool) → bytes_eq word (decimal (suc m)) ≡ b
    → (c ≡ true → (n : ℕ) × (1 ≤ n) × (n ≤ m) × (word ≡ decimal n)) → (b || c) ≡ true
    → (n : ℕ) × (1 ≤ n) × (n ≤ suc m) × (word ≡ decimal n)
by-first m word true c is rest found = (suc m, omega arith, omega arith, (bytes_eq-Decides word (decimal (suc m))).0 is)
by-first m word false c is rest found =
    let one = rest found in let within = one.2 in (one.0, one.1, omega (arith, within), one.3)

-- a word that is found spells one of them
pub spelled-one : (most : ℕ) (word : List ℕ) → spells_up_to most word ≡ true → (n : ℕ) × (1 ≤ n) × (n ≤ most) × (word ≡ decimal n)
unfolding spells_up_to
spelled-one zero word e = absurd (false≢true e)
spelled-one (suc m) word e = by-first m word (bytes_eq word (decimal (suc m))) (spells_up_to m word) refl (spelled-one m word) e
