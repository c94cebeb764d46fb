-- A small load for tests. A cell has credits, a number; each envelope that is handled where a credit is left is sent on
-- and takes that credit with it, and else it is gone.
use Rattle.std.specs.Prelude.{◌≡◌, ℕ, zero, suc, ◌+◌, ◌^◌, ◌<◌, ◌≤◌, List, [], ◌∷◌, ◌++◌, length, slice_get, slice_set, Some, IsPermutation}
use Rattle.std.proofs.Common.{refl, arith, length-append}
use Rattle.std.proofs.lemmas.List.Sorted.{length_permutation}

abbrev pub credits : List ℕ → ℕ
credits [] = 0
credits (x ∷ xs) = x + credits xs

-- credits, envelopes and what was handled are few together
abbrev pub PursesLegal : List ℕ → List ℕ → ℕ → Type 0
PursesLegal rests es total = total + length es + credits rests ≤ 1000

-- what was sent took as many credits, and no more was sent than handled
abbrev pub PurseTurn : ℕ → List ℕ → ℕ → ℕ → ℕ → List ℕ → Type 0
PurseTurn r es sent handled r' es' = (length es + sent ≡ length es' + handled) × (r' + sent ≡ r) × (handled ≤ length es) × (sent ≤ handled)

abbrev pub slot_count : List ℕ → ℕ
slot_count rests = length rests

length_set : (xs : List ℕ) (k x : ℕ) → length (slice_set xs k x) ≡ length xs
length_set [] k x = refl
length_set (y ∷ ys) zero x = refl
length_set (y ∷ ys) (suc k) x = let r = length_set ys k x in omega (arith, r)

credits_set : (xs : List ℕ) (k x y : ℕ) → slice_get xs k ≡ Some x → credits (slice_set xs k y) + x ≡ credits xs + y
credits_set [] k x y e = absurd cc
credits_set (z ∷ zs) zero x y e = let q : z ≡ x = cc in omega (arith, q)
credits_set (z ∷ zs) (suc k) x y e = let r = credits_set zs k x y e in omega (arith, r)

pub balanced : (r : ℕ) (es : List ℕ) (sent handled r' : ℕ) (es' : List ℕ) → PurseTurn r es sent handled r' es' → length es + sent ≡ length es' + handled
balanced r es sent handled r' es' t = t.0

pub idle : (r sent handled r' : ℕ) (es' : List ℕ) → PurseTurn r [] sent handled r' es' → handled ≡ 0
idle r sent handled r' es' t = let a = t.2 in omega arith

pub sends_after : (r : ℕ) (es : List ℕ) (sent handled r' : ℕ) (es' : List ℕ) → PurseTurn r es sent handled r' es' → 0 < sent → 0 < handled
sends_after r es sent handled r' es' t some = let a = t.3 in omega arith

pub keeps : (rests : List ℕ) (k r : ℕ) (es others : List ℕ) (sent handled r' : ℕ) (es' : List ℕ) (total : ℕ) → PursesLegal rests (es ++ others) total → slice_get rests k ≡ Some r → PurseTurn r es sent handled r' es' → PursesLegal (slice_set rests k r') (es' ++ others) (total + handled)
keeps rests k r es others sent handled r' es' total l at t =
    let a = length-append es others in let b = length-append es' others in let c = credits_set rests k r r' at in let d = t.0 in let e = t.1 in omega (arith, a, b, c, d, e, l)

pub any_order : (rests es es' : List ℕ) (total : ℕ) → IsPermutation es es' → PursesLegal rests es total → PursesLegal rests es' total
any_order rests es es' total same l = let a = length_permutation es es' same in omega (arith, a, l)

pub bounded : (rests es : List ℕ) (total : ℕ) → PursesLegal rests es total → total + length es < 2 ^ 62
bounded rests es total l = omega (arith, l)

pub same_origin : (rests : List ℕ) (k r : ℕ) (es : List ℕ) (sent handled r' : ℕ) (es' : List ℕ) → slice_get rests k ≡ Some r → PurseTurn r es sent handled r' es' → slot_count (slice_set rests k r') ≡ slot_count rests
same_origin rests k r es sent handled r' es' at t = length_set rests k r'
