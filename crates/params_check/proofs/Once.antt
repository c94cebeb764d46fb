-- Names that each stand once among known ones: what elements of such names weigh together is at most what all known
-- names may weigh.
use Rattle.std.proofs.Common.{◌≡◌, ℕ, ◌+◌, ◌*◌, ◌≤◌, Bool, true, false, ◌||◌, cond, List, [], ◌∷◌, ◌++◌, length, arith, refl, ◌∙◌, subst, sum_by, All, inl, inr}
use Rattle.std.specs.List.{list_any}
use Rattle.std.specs.Cmp.Lexicographic.{bytes_decides}
use Rattle.std.proofs.lemmas.Bool.{cases_Bool, cond-true, cond-false}
use Rattle.std.proofs.lemmas.List.Elements.{All-head, All-tail}
use Rattle.std.proofs.lemmas.List.Folds.{list_any-append}
use Rattle.std.proofs.lemmas.List.Sums.{sum_by-cons}
use Rattle.params_syntax.specs.Trees.{Each}
use Rattle.params_check.specs.Values.{same}
use Rattle.params_check.specs.Keys.{is_among}
use Rattle.params_check.proofs.Turns.{InTurn}

pub same-true : (a b : List ℕ) → same a b ≡ true → a ≡ b
same-true a b e = (bytes_decides a b).0 e

pub same-itself : (a : List ℕ) → same a a ≡ true
same-itself a = (bytes_decides a a).1 refl

pub or_other : (a b : Bool) → a ≡ false → (a || b) ≡ true → b ≡ true
or_other true b f t = absurd cc
or_other false b f t = t

-- what holds of each word holds of one among them
pub among-each : (P : List ℕ → Type 0) (words : List (List ℕ)) (n : List ℕ) → is_among words n ≡ true → Each P words → P n
among-each P [] n h all = absurd cc
among-each P (w ∷ words) n h all =
    elim (cases_Bool (same w n)) [
      | inl t ↦ subst P (same-true w n t) all.0
      | inr f ↦ among-each P words n (or_other (same w n) _ f h) all.1
    ]

-- what is added to a test can only take away
less_left : (a b : Bool) (n : ℕ) → cond (a || b) 0 n ≤ cond a 0 n
less_left true b n = omega arith
less_left false true n = omega arith
less_left false false n = omega arith

module _ {X K : Type 0} (name : X → List ℕ) (key : K → List ℕ) where
  -- an element has this name
  abbrev pub has_name : List X → List ℕ → Bool
  has_name xs n = list_any (λ x. same (name x) n) xs

  -- The element's name is known, and none before has it.
  pub record StandsOnce (keys : List K) (before : List X) (x : X) : Type 0 where
    pub known : list_any (λ k. same (key k) (name x)) keys ≡ true
    pub first : has_name before (name x) ≡ false

  -- what may still be added: the weight of each known name that no element has
  abbrev pub weight_left : (K → ℕ) → List X → List K → ℕ
  weight_left weight before [] = 0
  weight_left weight before (k ∷ keys) = cond (has_name before (key k)) 0 (weight k) + weight_left weight before keys

  module _ (weight : K → ℕ) (before : List X) (x : X) where
    one_less : (k : K) → cond (has_name (before ++ x ∷ []) (key k)) 0 (weight k) ≤ cond (has_name before (key k)) 0 (weight k)
    one_less k =
        rw (list_any-append (λ y. same (name y) (key k)) before (x ∷ []))
        (less_left (has_name before (key k)) (has_name (x ∷ []) (key k)) (weight k))

    weight_left-less : (keys : List K) → weight_left weight (before ++ x ∷ []) keys ≤ weight_left weight before keys
    weight_left-less [] = omega arith
    weight_left-less (k ∷ keys) = omega (arith, one_less k, weight_left-less keys)

    one_taken : (k : K) → has_name before (name x) ≡ false → same (key k) (name x) ≡ true
        → weight k + cond (has_name (before ++ x ∷ []) (key k)) 0 (weight k) ≤ cond (has_name before (key k)) 0 (weight k)
    one_taken k first is =
        let e : key k ≡ name x = same-true (key k) (name x) is in
        let free : has_name before (key k) ≡ false = rw e first in
        let own : has_name (x ∷ []) (key k) ≡ true = rw (e, same-itself (name x)) refl in
        let now : has_name (before ++ x ∷ []) (key k) ≡ true =
        list_any-append (λ y. same (name y) (key k)) before (x ∷ []) ∙ ap₂_or free own in
        omega (arith, cond-false {A = ℕ} _ 0 (weight k) free, cond-true {A = ℕ} _ 0 (weight k) now)
      where
        ap₂_or : {a b : Bool} → a ≡ false → b ≡ true → (a || b) ≡ true
        ap₂_or {a} {b} f t = rw (f, t) refl

    weight_left-taken : (w : ℕ) → has_name before (name x) ≡ false → ((k : K) → same (key k) (name x) ≡ true → w ≤ weight k) → (keys : List K)
        → list_any (λ k. same (key k) (name x)) keys ≡ true → w + weight_left weight (before ++ x ∷ []) keys ≤ weight_left weight before keys
    weight_left-taken w first bound [] known = absurd cc
    weight_left-taken w first bound (k ∷ keys) known =
        elim (cases_Bool (same (key k) (name x))) [
          | inl t ↦ omega (arith, bound k t, one_taken k first t, weight_left-less keys)
          | inr f ↦ omega (arith, one_less k, weight_left-taken w first bound keys (or_other (same (key k) (name x)) _ f known))
        ]

  -- the weight of an element is at most that of its name
  abbrev pub WeighsAtMost : (K → ℕ) → (X → ℕ) → X → Type 0
  WeighsAtMost weight f x = (k : K) → same (key k) (name x) ≡ true → f x ≤ weight k

  pub sum-once : (weight : K → ℕ) (f : X → ℕ) (keys : List K) (before xs : List X) → InTurn (StandsOnce keys) before xs
      → All (WeighsAtMost weight f) xs → sum_by f xs ≤ weight_left weight before keys
  sum-once weight f keys before [] once bounds = omega arith
  sum-once weight f keys before (x ∷ xs) once bounds =
      omega (
        arith,
        sum_by-cons f x xs,
        weight_left-taken weight before x (f x) once.0.first (All-head (WeighsAtMost weight f) x xs bounds) keys once.0.known,
        sum-once weight f keys (before ++ x ∷ []) xs once.1 (All-tail (WeighsAtMost weight f) x xs bounds),
      )

  pub weight_left-even : (w : ℕ) (before : List X) (keys : List K) → weight_left (λ k. w) before keys ≤ length keys * w
  weight_left-even w before [] = omega arith
  weight_left-even w before (k ∷ keys) = omega (arith, at_most (has_name before (key k)), weight_left-even w before keys)
    where
      at_most : (b : Bool) → cond b 0 w ≤ w
      at_most true = omega arith
      at_most false = omega arith
