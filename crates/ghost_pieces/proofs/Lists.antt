-- What stands in lists, and lists in which nothing stands twice.
use Rattle.std.proofs.Common.{◌≡◌, zero, suc, ◌⊎◌, inl, inr, Bool, true, false, cond, refl, sym, ap, ◌∙◌, subst, arith, List, [], ◌∷◌, ◌++◌, Some, map}
use Rattle.std.specs.List.{filter, flat_map}
use Rattle.std.proofs.lemmas.Bool.{cases_Bool}
use Rattle.std.proofs.lemmas.Option.{none-some, same_Some}
use Rattle.ghost_pieces.specs.Regions.{Member, Once}

pub member-first : {A : Type 0} (x : A) (xs : List A) → Member (x ∷ xs) x
member-first x xs = (zero, refl)

pub member-rest : {A : Type 0} (y x : A) (xs : List A) → Member xs x → Member (y ∷ xs) x
member-rest y x xs m = (suc m.0, m.1)

pub member-none : {A : Type 0} (x : A) → Member [] x → ⊥
member-none x m = none-some x m.1

pub member-cons : {A : Type 0} (y x : A) (xs : List A) → Member (y ∷ xs) x → (y ≡ x) ⊎ Member xs x
member-cons y x xs (zero, e) = inl (same_Some y x e)
member-cons y x xs (suc p, e) = inr (p, e)

pub member-left : {A : Type 0} (xs ys : List A) (x : A) → Member xs x → Member (xs ++ ys) x
member-left [] ys x m = absurd (member-none x m)
member-left (y ∷ xs) ys x (zero, e) = (zero, e)
member-left (y ∷ xs) ys x (suc p, e) = member-rest y x (xs ++ ys) (member-left xs ys x (p, e))

pub member-right : {A : Type 0} (xs ys : List A) (x : A) → Member ys x → Member (xs ++ ys) x
member-right [] ys x m = m
member-right (y ∷ xs) ys x m = member-rest y x (xs ++ ys) (member-right xs ys x m)

pub member-split : {A : Type 0} (xs ys : List A) (x : A) → Member (xs ++ ys) x → Member xs x ⊎ Member ys x
member-split [] ys x m = inr m
member-split (y ∷ xs) ys x (zero, e) = inl (zero, e)
member-split (y ∷ xs) ys x (suc p, e) =
    elim (member-split xs ys x (p, e)) [ inl m ↦ inl (member-rest y x xs m) | inr m ↦ inr m ]

pub member-map : {A B : Type 0} (f : A → B) (xs : List A) (x : A) → Member xs x → Member (map f xs) (f x)
member-map f [] x m = absurd (member-none x m)
member-map f (y ∷ xs) x (zero, e) = (zero, ap (λ z. Some (f z)) (same_Some y x e))
member-map f (y ∷ xs) x (suc p, e) = member-rest (f y) (f x) (map f xs) (member-map f xs x (p, e))

pub member-unmap : {A B : Type 0} (f : A → B) (xs : List A) (y : B) → Member (map f xs) y → (x : A) × Member xs x × (y ≡ f x)
member-unmap f [] y m = absurd (member-none y m)
member-unmap f (x ∷ xs) y (zero, e) = (x, member-first x xs, sym (same_Some (f x) y e))
member-unmap f (x ∷ xs) y (suc p, e) = let r = member-unmap f xs y (p, e) in (r.0, member-rest x r.0 xs r.1, r.2)

filter_kept : {A : Type 0} (p : A → Bool) (y : A) (xs : List A) → p y ≡ true → filter p (y ∷ xs) ≡ y ∷ filter p xs
filter_kept p y xs e = ap (λ b. cond b (y ∷ filter p xs) (filter p xs)) e

pub filter_left : {A : Type 0} (p : A → Bool) (y : A) (xs : List A) → p y ≡ false → filter p (y ∷ xs) ≡ filter p xs
filter_left p y xs e = ap (λ b. cond b (y ∷ filter p xs) (filter p xs)) e

pub member-filter : {A : Type 0} (p : A → Bool) (xs : List A) (x : A) → p x ≡ true → Member xs x → Member (filter p xs) x
member-filter p [] x h m = absurd (member-none x m)
member-filter p (y ∷ xs) x h m =
    elim (member-cons y x xs m) [
      | inl e ↦ subst (λ l. Member l x) (sym (filter_kept p y xs (ap p e ∙ h))) (zero, ap Some e)
      | inr r ↦
          let rest = member-filter p xs x h r in
          elim (cases_Bool (p y)) [
            | inl t ↦ subst (λ l. Member l x) (sym (filter_kept p y xs t)) (member-rest y x (filter p xs) rest)
            | inr f ↦ subst (λ l. Member l x) (sym (filter_left p y xs f)) rest
          ]
    ]

pub member-unfilter : {A : Type 0} (p : A → Bool) (xs : List A) (x : A) → Member (filter p xs) x → Member xs x × (p x ≡ true)
member-unfilter p [] x m = absurd (member-none x m)
member-unfilter p (y ∷ xs) x m =
    elim (cases_Bool (p y)) [
      | inl t ↦
          elim (member-cons y x (filter p xs) (subst (λ l. Member l x) (filter_kept p y xs t) m)) [
            | inl e ↦ ((zero, ap Some e), ap p (sym e) ∙ t)
            | inr r ↦ let q = member-unfilter p xs x r in (member-rest y x xs q.0, q.1)
          ]
      | inr f ↦ let q = member-unfilter p xs x (subst (λ l. Member l x) (filter_left p y xs f) m) in (member-rest y x xs q.0, q.1)
    ]

pub member-flat_map : {A B : Type 0} (f : A → List B) (xs : List A) (x : A) (y : B) → Member xs x → Member (f x) y → Member (flat_map f xs) y
member-flat_map f [] x y m n = absurd (member-none x m)
member-flat_map f (z ∷ xs) x y m n =
    elim (member-cons z x xs m) [
      | inl e ↦ member-left (f z) (flat_map f xs) y (subst (λ u. Member (f u) y) (sym e) n)
      | inr r ↦ member-right (f z) (flat_map f xs) y (member-flat_map f xs x y r n)
    ]

pub member-unflat_map : {A B : Type 0} (f : A → List B) (xs : List A) (y : B) → Member (flat_map f xs) y → (x : A) × Member xs x × Member (f x) y
member-unflat_map f [] y m = absurd (member-none y m)
member-unflat_map f (z ∷ xs) y m =
    elim (member-split (f z) (flat_map f xs) y m) [
      | inl n ↦ (z, member-first z xs, n)
      | inr n ↦ let r = member-unflat_map f xs y n in (r.0, member-rest z r.0 xs r.1, r.2)
    ]

-- ---- nothing twice

pub once-none : {A : Type 0} → Once {A = A} []
once-none p q x e f = absurd (none-some x e)

pub once-cons : {A : Type 0} (x : A) (xs : List A) → (Member xs x → ⊥) → Once xs → Once (x ∷ xs)
once-cons x xs n o zero zero y e f = refl
once-cons x xs n o zero (suc q) y e f = absurd (n (q, f ∙ ap Some (sym (same_Some x y e))))
once-cons x xs n o (suc p) zero y e f = absurd (n (p, e ∙ ap Some (sym (same_Some x y f))))
once-cons x xs n o (suc p) (suc q) y e f = ap suc (o p q y e f)

pub once-rest : {A : Type 0} (x : A) (xs : List A) → Once (x ∷ xs) → Once xs
once-rest x xs o p q y e f = let g = o (suc p) (suc q) y e f in omega arith

pub once-first : {A : Type 0} (x : A) (xs : List A) → Once (x ∷ xs) → Member xs x → ⊥
once-first x xs o m = let g = o zero (suc m.0) x refl m.1 in omega arith

pub once-append : {A : Type 0} (xs ys : List A) → Once xs → Once ys → ((x : A) → Member xs x → Member ys x → ⊥) → Once (xs ++ ys)
once-append [] ys o u n = u
once-append (x ∷ xs) ys o u n =
    once-cons x (xs ++ ys)
    (λ m. elim (member-split xs ys x m) [ inl l ↦ once-first x xs o l | inr r ↦ n x (member-first x xs) r ])
    (once-append xs ys (once-rest x xs o) u (λ y l r. n y (member-rest x y xs l) r))

pub once-map : {A B : Type 0} (f : A → B) (xs : List A) → ((x y : A) → f x ≡ f y → x ≡ y) → Once xs → Once (map f xs)
once-map f [] one o = once-none
once-map f (x ∷ xs) one o =
    once-cons (f x) (map f xs)
    (λ m. let r = member-unmap f xs (f x) m in once-first x xs o (subst (Member xs) (sym (one x r.0 r.2)) r.1))
    (once-map f xs one (once-rest x xs o))

pub once-filter : {A : Type 0} (p : A → Bool) (xs : List A) → Once xs → Once (filter p xs)
once-filter p [] o = once-none
once-filter p (x ∷ xs) o =
    let rest = once-filter p xs (once-rest x xs o) in
    elim (cases_Bool (p x)) [
      | inl t ↦ subst Once (sym (filter_kept p x xs t)) (once-cons x (filter p xs) (λ m. once-first x xs o ((member-unfilter p xs x m).0)) rest)
      | inr f ↦ subst Once (sym (filter_left p x xs f)) rest
    ]

pub once-flat_map : {A B : Type 0} (f : A → List B) (xs : List A) → Once xs → ((x : A) → Member xs x → Once (f x)) → ((x z : A) (y : B) → Member (f x) y → Member (f z) y → x ≡ z) → Once (flat_map f xs)
once-flat_map f [] o each one = once-none
once-flat_map f (x ∷ xs) o each one =
    once-append (f x) (flat_map f xs) (each x (member-first x xs)) (once-flat_map f xs (once-rest x xs o) (λ z m. each z (member-rest x z xs m)) one) (λ y l r.
    let q = member-unflat_map f xs y r in
    once-first x xs o (subst (Member xs) (sym (one x q.0 y l q.2)) q.1))
