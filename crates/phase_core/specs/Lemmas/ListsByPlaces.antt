-- Lists told by what stands at each place.
use Rattle.std.proofs.Common.{◌≡◌, ℕ, zero, suc, ◌+◌, ◌<◌, List, [], ◌∷◌, ◌++◌, Some, map, take, drop, length, append-nil, refl, sym, ap, ◌∙◌, subst, arith, ◌⊎◌, inl, inr, length-append}
use Rattle.std.specs.Prelude.{slice_get}
use Rattle.std.proofs.lemmas.List.{length-map, drop_all, take_all}
use Rattle.std.proofs.lemmas.Option.{same_Some, none-some}
use Rattle.phase_core.specs.Lemmas.Lookups.{get-map_back}

-- so many elements, with P at each place
pub record Has {A : Type 0} (P : ℕ → A → Type 0) (count : ℕ) (xs : List A) : Type 0 where
  pub many : length xs ≡ count
  pub each : (i : ℕ) (x : A) → slice_get xs i ≡ Some x → P i x

pub Has-map : {A B : Type 0} (P : ℕ → B → Type 0) (f : A → B) (count : ℕ) (xs : List A) → Has (λ i x. P i (f x)) count xs → Has P count (map f xs)
Has-map P f count xs has = record {
  many = length-map xs f ∙ has.many;
  each = λ i y at. let x = get-map_back f xs i y at in subst (P i) x.2 (has.each i x.0 x.1);
}

get-push_cases : {A : Type 0} (xs : List A) (y z : A) (i : ℕ) → slice_get (xs ++ y ∷ []) i ≡ Some z → (slice_get xs i ≡ Some z) ⊎ ((i ≡ length xs) × (y ≡ z))
get-push_cases [] y z zero h = inr (refl, same_Some y z h)
get-push_cases [] y z (suc i) h = absurd (none-some z h)
get-push_cases (x ∷ xs) y z zero h = inl h
get-push_cases (x ∷ xs) y z (suc i) h = elim (get-push_cases xs y z i h) [ inl old ↦ inl old | inr new ↦ inr (ap suc new.0, new.1) ]

-- one more, as a loop appends it
pub Has-push : {A : Type 0} (P : ℕ → A → Type 0) (count : ℕ) (xs zs : List A) (y : A) → Has P count xs → zs ≡ xs ++ y ∷ [] → P count y → Has P (count + 1) zs
Has-push {A} P count xs zs y has is last = record {
  many = omega (arith, ap length is, length-append xs (y ∷ []), has.many);
  each = λ i x at. elim (get-push_cases xs y x i (subst (λ (l : List A). slice_get l i ≡ Some x) is at)) [
    | inl old ↦ has.each i x old
    | inr new ↦ subst (P i) new.1 (subst (λ k. P k y) (sym (new.0 ∙ has.many)) last)
  ];
}

-- where there is an element for each place, there is a list of them
pub list_exists : {A : Type 0} (P : ℕ → A → Type 0) (count : ℕ) → ((i : ℕ) → i < count → (x : A) × P i x) → (xs : List A) × Has P count xs
list_exists P zero one = ([], record { many = refl; each = λ i x at. absurd (none-some x at) })
list_exists {A} P (suc count) one =
    let first = one zero (omega arith) in
    let rest = list_exists (λ i. P (suc i)) count (λ i within. one (suc i) (omega arith)) in
    (first.0 ∷ rest.0, record { many = ap suc rest.1.many; each = all first.0 first.1 rest.0 rest.1.each })
  where
    all : (x : A) → P zero x → (xs : List A) → ((i : ℕ) (y : A) → slice_get xs i ≡ Some y → P (suc i) y) → (i : ℕ) (y : A) → slice_get (x ∷ xs) i ≡ Some y → P i y
    all x here xs later zero y at = subst (P zero) (same_Some x y at) here
    all x here xs later (suc i) y at = later i y at

-- lists of one length that agree at each place are one
pub same_list : {A : Type 0} (xs ys : List A) → length xs ≡ length ys → ((i : ℕ) (x y : A) → slice_get xs i ≡ Some x → slice_get ys i ≡ Some y → x ≡ y) → xs ≡ ys
same_list [] [] long each = refl
same_list [] (y ∷ ys) long each = absurd (omega arith)
same_list (x ∷ xs) [] long each = absurd (omega arith)
same_list {A} (x ∷ xs) (y ∷ ys) long each =
    let front : A → List A = λ z. z ∷ xs in
    let put : List A → List A = λ zs. y ∷ zs in
    ap front (each zero x y refl refl) ∙ ap put (same_list xs ys (omega arith) (λ i a b p q. each (suc i) a b p q))

-- what a map makes, told by its places
pub same_map : {A B : Type 0} (f : A → B) (xs : List A) (ys : List B) → length xs ≡ length ys → ((i : ℕ) (x : A) → slice_get xs i ≡ Some x → slice_get ys i ≡ Some (f x)) → map f xs ≡ ys
same_map {A} {B} f xs ys long each = same_list (map f xs) ys (length-map xs f ∙ long) (λ i y z here there.
    let x = get-map_back f xs i y here in
    sym x.2 ∙ same_Some (f x.0) z (sym (each i x.0 x.1) ∙ there))

-- what a list is after all of it was written to
pub written_back : {A : Type 0} (n : ℕ) (old new : List A) → n ≡ length old → length new ≡ length old → take n (new ++ drop (length new) old) ≡ new
written_back n old new counted long =
    ap (λ l. take n (new ++ l)) (drop_all (length new) old (omega (arith, long))) ∙ (ap (take n) (append-nil new) ∙ take_all n new (omega (arith, counted, long)))
