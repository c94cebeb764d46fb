-- Elements of lists that are cut or put together.
use Rattle.std.proofs.Common.{◌≡◌, ℕ, zero, suc, ◌+◌, ◌<◌, refl, sym, ap, ◌∙◌, arith, List, [], ◌∷◌, ◌++◌, ◌⊎◌, Some, slice_get, length, drop, inl, inr, length-append}
use Rattle.std.specs.List.{range_with_len}
use Rattle.std.proofs.lemmas.List.{drop_at}
use Rattle.std.proofs.lemmas.List.FromFn.{length-range_with_len, get_or-range_with_len}
use Rattle.std.proofs.lemmas.Option.{none-some, same_Some, slice_get_within, get_or_from_slice_get}

pub nothing_left : {A : Type 0} (xs : List A) → length xs ≡ 0 → xs ≡ []
nothing_left [] h = refl
nothing_left (x ∷ xs) h = absurd (omega arith)

pub element_there : {A : Type 0} (xs : List A) (i : ℕ) → i < length xs → (x : A) × (slice_get xs i ≡ Some x)
element_there [] i h = absurd (omega arith)
element_there (x ∷ xs) zero h = (x, refl)
element_there (x ∷ xs) (suc i) h = element_there xs i (omega arith)

pub same_element : {A : Type 0} (xs : List A) (i j : ℕ) (x y : A) → slice_get xs i ≡ Some x → slice_get xs j ≡ Some y → i ≡ j → x ≡ y
same_element xs i j x y s t e = same_Some x y (sym s ∙ ap (slice_get xs) e ∙ t)

pub slice_get-drop : {A : Type 0} (xs : List A) (n k : ℕ) → slice_get (drop n xs) k ≡ slice_get xs (n + k)
slice_get-drop xs zero k = ap (slice_get xs) (let e : k ≡ 0 + k = omega arith in e)
slice_get-drop [] (suc n) k = refl
slice_get-drop (x ∷ xs) (suc n) k = slice_get-drop xs n k ∙ ap (slice_get (x ∷ xs)) (let e : suc (n + k) ≡ suc n + k = omega arith in e)

drop-nil : {A : Type 0} (n : ℕ) (xs : List A) → length xs ≡ 0 → drop n xs ≡ []
drop-nil zero xs h = nothing_left xs h
drop-nil (suc n) [] h = refl
drop-nil (suc n) (x ∷ xs) h = absurd (omega arith)

-- what stands behind the first ones of what is left
pub drop_past : {A : Type 0} (xs : List A) (n : ℕ) (ys zs : List A) → ys ++ zs ≡ drop n xs → drop (n + length ys) xs ≡ zs
drop_past xs zero ys zs e =
    ap (λ k. drop k xs) (let z : 0 + length ys ≡ length ys = omega arith in z)
    ∙ ap (drop (length ys)) (sym e)
    ∙ drop_at ys zs (length ys) refl
drop_past [] (suc n) ys zs e =
    drop-nil (suc n + length ys) [] refl
    ∙ sym (nothing_left zs (let l = ap length e in let a = length-append ys zs in omega arith))
drop_past (x ∷ xs) (suc n) ys zs e =
    ap (λ k. drop k (x ∷ xs)) (let z : suc n + length ys ≡ suc (n + length ys) = omega arith in z)
    ∙ drop_past xs n ys zs e

pub slice_get-before : {A : Type 0} (xs ys : List A) (k : ℕ) (x : A) → slice_get xs k ≡ Some x → slice_get (xs ++ ys) k ≡ Some x
slice_get-before [] ys k x e = absurd (none-some x e)
slice_get-before (y ∷ xs) ys zero x e = e
slice_get-before (y ∷ xs) ys (suc k) x e = slice_get-before xs ys k x e

pub slice_get-middle : {A : Type 0} (xs ys : List A) (y : A) → slice_get (xs ++ (y ∷ ys)) (length xs) ≡ Some y
slice_get-middle [] ys y = refl
slice_get-middle (x ∷ xs) ys y = slice_get-middle xs ys y

-- an element of two lists put together is one of either
pub slice_get-either : {A : Type 0} (xs ys : List A) (k : ℕ) (x : A) → slice_get (xs ++ ys) k ≡ Some x → ((j : ℕ) × (slice_get xs j ≡ Some x)) ⊎ ((j : ℕ) × (slice_get ys j ≡ Some x))
slice_get-either [] ys k x e = inr (k, e)
slice_get-either (y ∷ xs) ys zero x e = inl (zero, e)
slice_get-either (y ∷ xs) ys (suc k) x e =
    elim (slice_get-either xs ys k x e) [ inl h ↦ inl (suc h.0, h.1) | inr h ↦ inr h ]

pub range-below : (n i k : ℕ) → slice_get (range_with_len 0 n) i ≡ Some k → k < n
range-below n i k e =
    let w = slice_get_within (range_with_len 0 n) i k e in
    let l = length-range_with_len 0 n in
    let v = get_or_from_slice_get (range_with_len 0 n) i k 0 e in
    let r = get_or-range_with_len 0 n i 0 (omega arith) in
    omega arith
