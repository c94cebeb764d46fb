-- Lists of a number for each of four fields.
use Rattle.std.proofs.Common.{◌≡◌, ℕ, zero, suc, ◌+◌, ◌-◌, ◌<◌, ◌≤◌, cond, nat_lt, [], ◌∷◌, refl, sym, ap, ◌∙◌, arith, inl, inr}
use Rattle.std.specs.Prelude.{slice_index}
use Rattle.std.proofs.lemmas.Bool.{cases_Bool, cond-true, cond-false, lt-ltb, ltb-true}
use Rattle.block_fields.specs.States.{State}
use Rattle.amount_ledger.specs.Ledgers.{differences, fields_kept, for_each}
use Rattle.run_core.specs.Courses.{of_fields}

pub for_each-at : (g : ℕ → ℕ) (f : ℕ) → f < fields_kept → slice_index (for_each g) f ≡ g f
for_each-at g zero h = refl
for_each-at g (suc zero) h = refl
for_each-at g (suc (suc zero)) h = refl
for_each-at g (suc (suc (suc zero))) h = refl
for_each-at g (suc (suc (suc (suc f)))) h = absurd (omega arith)

pub for_each-same : (g h : ℕ → ℕ) → ((f : ℕ) → f < fields_kept → g f ≡ h f) → for_each g ≡ for_each h
for_each-same g h same =
    let a : g 0 ≡ h 0 = same 0 (omega arith) in
    let b : g 1 ≡ h 1 = same 1 (omega arith) in
    let c : g 2 ≡ h 2 = same 2 (omega arith) in
    let d : g 3 ≡ h 3 = same 3 (omega arith) in
    λ i. a i ∷ b i ∷ c i ∷ d i ∷ []

-- the number of a field that there is, and of one that there isn't
abbrev pub within : ℕ → ℕ → ℕ → ℕ
within fields f q = cond (nat_lt f fields) q 0

pub within-same : (m n f q r : ℕ) → m ≡ n → (f < n → q ≡ r) → within m f q ≡ within n f r
within-same m n f q r e same =
    ap (λ k. within k f q) e
    ∙ elim (cases_Bool (nat_lt f n)) [
      | inl t ↦ ap (λ k. within n f k) (same (ltb-true f n t))
      | inr none ↦ cond-false (nat_lt f n) q 0 none ∙ sym (cond-false (nat_lt f n) r 0 none)
    ]

pub within-less : (n f total out left : ℕ) → (f < n → left + out ≡ total) → within n f total - within n f out ≡ within n f left
within-less n f total out left h =
    elim (cases_Bool (nat_lt f n)) [
      | inl t ↦
          let sum = h (ltb-true f n t) in
          let a = cond-true (nat_lt f n) total 0 t in
          let b = cond-true (nat_lt f n) out 0 t in
          let c = cond-true (nat_lt f n) left 0 t in
          omega (arith, sum, a, b, c)
      | inr none ↦
          let a = cond-false (nat_lt f n) total 0 none in
          let b = cond-false (nat_lt f n) out 0 none in
          let c = cond-false (nat_lt f n) left 0 none in
          omega (arith, a, b, c)
    ]

-- the same of each field
pub of_fields-same : (s t : State) (g h : ℕ → ℕ) → s.fields ≡ t.fields → ((f : ℕ) → f < t.fields → g f ≡ h f) → of_fields s g ≡ of_fields t h
of_fields-same s t g h e same =
    for_each-same (λ f. within s.fields f (g f)) (λ f. within t.fields f (h f)) (λ f w. within-same s.fields t.fields f (g f) (h f) e (same f))

pub of_fields-at : (s : State) (g : ℕ → ℕ) (f : ℕ) → f < s.fields → f < fields_kept → slice_index (of_fields s g) f ≡ g f
of_fields-at s g f h w =
    for_each-at (λ f. within s.fields f (g f)) f w ∙ cond-true (nat_lt f s.fields) (g f) 0 (lt-ltb f s.fields h)

-- what is left of totals when this much has gone
pub differences-left : (s t : State) (total out left : ℕ → ℕ) → s.fields ≡ t.fields → ((f : ℕ) → f < t.fields → left f + out f ≡ total f)
    → differences (of_fields s total) (of_fields s out) ≡ of_fields t left
differences-left s t total out left e h =
    ap (λ n. for_each (λ f. slice_index (for_each (λ k. within n k (total k))) f - slice_index (for_each (λ k. within n k (out k))) f)) e
    ∙ for_each-same (λ f. slice_index (for_each (λ k. within t.fields k (total k))) f - slice_index (for_each (λ k. within t.fields k (out k))) f)
    (λ f. within t.fields f (left f))
    (λ f w.
    let a = for_each-at (λ k. within t.fields k (total k)) f w in
    let b = for_each-at (λ k. within t.fields k (out k)) f w in
    let c = within-less t.fields f (total f) (out f) (left f) (h f) in
    omega (arith, a, b, c))

pub within-most : (n f q r : ℕ) → (f < n → q ≤ r) → within n f q ≤ within n f r
within-most n f q r h =
    elim (cases_Bool (nat_lt f n)) [
      | inl t ↦
          let less = h (ltb-true f n t) in
          let a = cond-true (nat_lt f n) q 0 t in
          let b = cond-true (nat_lt f n) r 0 t in
          omega (arith, less, a, b)
      | inr none ↦
          let a = cond-false (nat_lt f n) q 0 none in
          omega (arith, a)
    ]
