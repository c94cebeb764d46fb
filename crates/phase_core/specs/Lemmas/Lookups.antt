-- Looking up in lists: after a map, after a write, and of what a list contains.
use Rattle.std.proofs.Common.{◌≡◌, ℕ, zero, suc, List, [], ◌∷◌, Some, map, refl, sym, ap, ◌∙◌, subst, ◌⊎◌, inl, inr}
use Rattle.std.specs.Prelude.{Contains, slice_get, slice_set}
use Rattle.std.specs.Option.{option_map}
use Rattle.std.proofs.lemmas.Bool.{cases_eq}
use Rattle.std.proofs.lemmas.Option.{none-some, same_Some, slice_get-map, slice_get-get_or, slice_get_within, get_or_from_slice_get}

pub get-map : {A B : Type 0} (f : A → B) (xs : List A) (i : ℕ) (x : A) → slice_get xs i ≡ Some x → slice_get (map f xs) i ≡ Some (f x)
get-map f xs i x h = slice_get-map f xs i ∙ ap (option_map f) h

pub get-map_back : {A B : Type 0} (f : A → B) (xs : List A) (i : ℕ) (y : B) → slice_get (map f xs) i ≡ Some y → (x : A) × (slice_get xs i ≡ Some x) × (f x ≡ y)
get-map_back f [] i y h = absurd (none-some y h)
get-map_back f (x ∷ xs) zero y h = (x, refl, same_Some (f x) y h)
get-map_back f (x ∷ xs) (suc i) y h = get-map_back f xs i y h

pub get-set_same : {A : Type 0} (xs : List A) (i : ℕ) (x y : A) → slice_get xs i ≡ Some x → slice_get (slice_set xs i y) i ≡ Some y
get-set_same [] i x y h = absurd (none-some x h)
get-set_same (a ∷ xs) zero x y h = refl
get-set_same (a ∷ xs) (suc i) x y h = get-set_same xs i x y h

pub get-set_other : {A : Type 0} (xs : List A) (i j : ℕ) (y : A) → (j ≡ i → ⊥) → slice_get (slice_set xs i y) j ≡ slice_get xs j
get-set_other [] i j y n = refl
get-set_other (a ∷ xs) zero zero y n = absurd (n refl)
get-set_other (a ∷ xs) zero (suc j) y n = refl
get-set_other (a ∷ xs) (suc i) zero y n = refl
get-set_other (a ∷ xs) (suc i) (suc j) y n = get-set_other xs i j y (λ e. n (ap suc e))

-- an element of the written list is the new one, or one that was there
pub get-set_cases : {A : Type 0} (xs : List A) (i j : ℕ) (x y z : A) → slice_get xs i ≡ Some x → slice_get (slice_set xs i y) j ≡ Some z → ((j ≡ i) × (z ≡ y)) ⊎ ((j ≡ i → ⊥) × (slice_get xs j ≡ Some z))
get-set_cases xs i j x y z here there =
    elim (cases_eq j i) [
      | inl e ↦
          let at : slice_get (slice_set xs i y) i ≡ Some z = subst (λ k. slice_get (slice_set xs i y) k ≡ Some z) e there in
          inl (e, same_Some z y (sym at ∙ get-set_same xs i x y here))
      | inr n ↦ inr (n, sym (get-set_other xs i j y n) ∙ there)
    ]

-- a write that keeps an element's image leaves the list of images as it was: what a cell keeps, a phase's problem lists
pub map-slice_set_same : {C K : Type 0} (part : C → K) (cells : List C) (at : ℕ) (cell new : C) → slice_get cells at ≡ Some cell → part new ≡ part cell → map part (slice_set cells at new) ≡ map part cells
map-slice_set_same part [] at cell new here same = refl
map-slice_set_same {C} {K} part (c ∷ cells) zero cell new here same =
    let is : c ≡ cell = cc in
    let put : K → List K = λ k. k ∷ map part cells in
    ap put (same ∙ ap part (sym is))
map-slice_set_same {C} {K} part (c ∷ cells) (suc at) cell new here same =
    let put : List K → List K = λ ks. part c ∷ ks in
    ap put (map-slice_set_same part cells at cell new here same)

pub Contains-get : {A : Type 0} (xs : List A) (x : A) → Contains xs x → (k : ℕ) × (slice_get xs k ≡ Some x)
Contains-get xs x h = (h.0, slice_get-get_or xs h.0 x h.1 ∙ ap Some h.2)

pub Contains-at : {A : Type 0} (xs : List A) (k : ℕ) (x : A) → slice_get xs k ≡ Some x → Contains xs x
Contains-at xs k x h = (k, slice_get_within xs k x h, get_or_from_slice_get xs k x x h)

pub Contains-map : {A B : Type 0} (f : A → B) (xs : List A) (x : A) → Contains xs x → Contains (map f xs) (f x)
Contains-map f xs x h =
    let g = Contains-get xs x h in
    Contains-at (map f xs) g.0 (f x) (get-map f xs g.0 x g.1)

pub Contains-map_back : {A B : Type 0} (f : A → B) (xs : List A) (y : B) → Contains (map f xs) y → (x : A) × Contains xs x × (f x ≡ y)
Contains-map_back f xs y h =
    let g = Contains-get (map f xs) y h in
    let b = get-map_back f xs g.0 y g.1 in
    (b.0, Contains-at xs g.0 b.0 b.1, b.2)

pub Contains-cons_cases : {A : Type 0} (x : A) (xs : List A) (y : A) → Contains (x ∷ xs) y → (x ≡ y) ⊎ Contains xs y
Contains-cons_cases x xs y h = go (Contains-get (x ∷ xs) y h).0 (Contains-get (x ∷ xs) y h).1
  where
    go : (k : ℕ) → slice_get (x ∷ xs) k ≡ Some y → (x ≡ y) ⊎ Contains xs y
    go zero e = inl (same_Some x y e)
    go (suc k) e = inr (Contains-at xs k y e)
