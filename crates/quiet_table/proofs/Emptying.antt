-- Lists that are taken apart and put together one by one.
use Rattle.std.proofs.Common.{◌≡◌, ◌≢◌, ℕ, zero, suc, ◌+◌, ◌<◌, List, [], ◌∷◌, ◌++◌, map, length, get_or, take, drop, sym, refl, ap, ◌∙◌, subst, arith, Some}
use Rattle.std.specs.Prelude.{slice_get}
use mathlib.Core.Option.{some, some-injective, some-ne-none}
use lib.ListN.{get_elem?}
use Rattle.quiet_table.specs.Views.{either_seen}

pub at_or : {X : Type 0} (xs : List X) (i : ℕ) (x d : X) → get_elem? xs i ≡ some x → get_or xs i d ≡ x
at_or [] i x d e = absurd (some-ne-none x (sym e))
at_or (y ∷ ys) zero x d e = some-injective y x e
at_or (y ∷ ys) (suc i) x d e = at_or ys i x d e

pub take_more : {X : Type 0} (xs : List X) (k : ℕ) (x : X) → get_elem? xs k ≡ some x → take (k + 1) xs ≡ take k xs ++ x ∷ []
take_more [] k x e = absurd (some-ne-none x (sym e))
take_more (y ∷ ys) zero x e = ap (λ z. z ∷ []) (some-injective y x e)
take_more (y ∷ ys) (suc k) x e = let q : suc k + 1 ≡ suc (k + 1) = omega arith in rw q (ap (λ l. y ∷ l) (take_more ys k x e))

pub map_more : {X Y : Type 0} (f : X → Y) (xs : List X) (x : X) → map f (xs ++ x ∷ []) ≡ map f xs ++ f x ∷ []
map_more f [] x = refl
map_more f (y ∷ ys) x = ap (λ l. f y ∷ l) (map_more f ys x)

pub at_drop : {X : Type 0} (xs : List X) (n k : ℕ) → get_elem? (drop n xs) k ≡ get_elem? xs (n + k)
at_drop xs zero k = let q : 0 + k ≡ k = omega arith in rw q refl
at_drop [] (suc n) k = refl
at_drop (x ∷ xs) (suc n) k = let q : suc n + k ≡ suc (n + k) = omega arith in rw q (at_drop xs n k)

pub seen_left : (m n : ℕ) → m ≢ 0 → either_seen m n ≢ 0
seen_left zero n h = absurd (h refl)
seen_left (suc m) n h = h

pub seen_kept : (m n : ℕ) → m ≢ 0 → either_seen m n ≡ m
seen_kept zero n h = absurd (h refl)
seen_kept (suc m) n h = refl

pub seen_right : (m n : ℕ) → n ≢ 0 → either_seen m n ≢ 0
seen_right zero n h = h
seen_right (suc m) n h = λ e. absurd (omega arith)

pub each_last : {X : Type 0} (P : X → Type 0) (ys : List X) (x : X) → ((i : ℕ) (s : X) → slice_get ys i ≡ Some s → P s) → P x → (i : ℕ) (s : X) → slice_get (ys ++ x ∷ []) i ≡ Some s → P s
each_last P [] x old last zero s e = let q : x ≡ s = cc in subst P q last
each_last P [] x old last (suc i) s e = absurd cc
each_last P (y ∷ ys) x old last zero s e = old 0 s e
each_last P (y ∷ ys) x old last (suc i) s e = each_last P ys x (λ j z f. old (suc j) z f) last i s e

pub at_end : {X : Type 0} (xs ys : List X) (x : X) (zs : List X) → xs ≡ ys ++ x ∷ zs → slice_get xs (length ys) ≡ Some x
at_end xs ys x zs e = ap (λ l. slice_get l (length ys)) e ∙ there ys x zs
  where
    there : {X : Type 0} (ys : List X) (x : X) (zs : List X) → slice_get (ys ++ x ∷ zs) (length ys) ≡ Some x
    there [] x zs = refl
    there (y ∷ ys) x zs = there ys x zs

pub nil_of : {X : Type 0} (xs : List X) → length xs ≡ 0 → xs ≡ []
nil_of [] e = refl
nil_of (x ∷ xs) e = absurd (omega arith)

pub head_tail : {X : Type 0} (xs : List X) (x : X) (ys : List X) → 0 < length xs → x ≡ get_or xs 0 x → ys ≡ drop 1 xs → xs ≡ x ∷ ys
head_tail [] x ys h e f = absurd (omega arith)
head_tail (z ∷ zs) x ys h e f = ap (λ w. w ∷ zs) (sym e) ∙ ap (λ l. x ∷ l) (sym f)

pub each_first : {X : Type 0} (P : X → Type 0) (xs : List X) (x : X) (ys : List X) → xs ≡ x ∷ ys → P x → ((i : ℕ) (s : X) → slice_get ys i ≡ Some s → P s) → (i : ℕ) (s : X) → slice_get xs i ≡ Some s → P s
each_first P [] x ys e first later i s at = absurd cc
each_first P (z ∷ zs) x ys e first later zero s at = let q : x ≡ s = cc in subst P q first
each_first P (z ∷ zs) x ys e first later (suc i) s at = let q : zs ≡ ys = cc in later i s (ap (λ l. slice_get l i) (sym q) ∙ at)
