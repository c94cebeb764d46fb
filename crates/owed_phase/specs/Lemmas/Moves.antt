-- Rearrangements, and what a cell that sends a part of what it owed does to what all owe.
use Rattle.std.proofs.Common.{◌≡◌, ℕ, zero, suc, ◌+◌, ◌<◌, List, [], ◌∷◌, Some, ◌++◌, length, refl, sym, subst, arith, append_assoc}
use Rattle.std.specs.Prelude.{Contains, IsPermutation, slice_get, slice_set}
use Rattle.std.proofs.lemmas.Option.{none-some, same_Some}
use Rattle.std.proofs.lemmas.List.Sorted.{IsPermutation-cons, IsPermutation-append_left, IsPermutation-append_right, IsPermutation-append_comm, IsPermutation-middle, IsPermutation-trans}
use Rattle.phase_core.specs.declared.envelope.Envelope.{Envelope}
use Rattle.phase_core.specs.Lemmas.Lookups.{Contains-get, Contains-at}
use Rattle.owed_phase.specs.Plans.{owed_from}

pub get-some : {A : Type 0} (xs : List A) (i : ℕ) → i < length xs → (x : A) × (slice_get xs i ≡ Some x)
get-some [] i h = absurd (omega arith)
get-some (a ∷ xs) zero h = (a, refl)
get-some (a ∷ xs) (suc i) h = get-some xs i (omega arith)

pub Contains-cons_more : {A : Type 0} (x : A) (xs : List A) (y : A) → Contains xs y → Contains (x ∷ xs) y
Contains-cons_more x xs y h = let g = Contains-get xs y h in Contains-at (x ∷ xs) (suc g.0) y g.1

-- a is equal, then moved
pub same_moved : {X : Type 0} (xs ys zs : List X) → xs ≡ ys → IsPermutation ys zs → IsPermutation xs zs
same_moved xs ys zs e h = subst (λ (l : List _). IsPermutation l zs) (sym e) h

pub moved_same : {X : Type 0} (xs ys zs : List X) → IsPermutation xs ys → ys ≡ zs → IsPermutation xs zs
moved_same xs ys zs h e = subst (λ (l : List _). IsPermutation xs l) e h

-- of what the first owed, the sent part goes behind the rest
pub past_rest : {X : Type 0} (was now sent rest : List X) → IsPermutation was (now ++ sent) → IsPermutation (was ++ rest) ((now ++ rest) ++ sent)
past_rest was now sent rest h =
    IsPermutation-trans (was ++ rest) ((now ++ sent) ++ rest) ((now ++ rest) ++ sent)
    (IsPermutation-append_left rest was (now ++ sent) h)
    (same_moved ((now ++ sent) ++ rest) (now ++ (sent ++ rest)) ((now ++ rest) ++ sent) (append_assoc now sent rest)
    (moved_same (now ++ (sent ++ rest)) (now ++ (rest ++ sent)) ((now ++ rest) ++ sent)
    (IsPermutation-append_right now (sent ++ rest) (rest ++ sent) (IsPermutation-append_comm sent rest))
    (sym (append_assoc now rest sent))))

pub to_front : {X : Type 0} (a b c : List X) (x : X) → IsPermutation (a ++ (b ++ (x ∷ c))) (x ∷ ((a ++ b) ++ c))
to_front a b c x = same_moved (a ++ (b ++ (x ∷ c))) ((a ++ b) ++ (x ∷ c)) (x ∷ ((a ++ b) ++ c)) (sym (append_assoc a b (x ∷ c))) (IsPermutation-middle (a ++ b) x c)

-- an envelope leaves the flight for what was handled, and what was owed and is sent joins the flight
pub one_handled : {X : Type 0} (handled was now sent rest : List X) (e : X) → IsPermutation was (now ++ sent) → IsPermutation (handled ++ (was ++ (e ∷ rest))) ((e ∷ handled) ++ (now ++ (rest ++ sent)))
one_handled handled was now sent rest e h =
    IsPermutation-trans (handled ++ (was ++ (e ∷ rest))) (e ∷ ((handled ++ was) ++ rest)) (e ∷ (handled ++ (now ++ (rest ++ sent))))
    (to_front handled was rest e)
    (IsPermutation-cons e ((handled ++ was) ++ rest) (handled ++ (now ++ (rest ++ sent)))
    (same_moved ((handled ++ was) ++ rest) (handled ++ (was ++ rest)) (handled ++ (now ++ (rest ++ sent))) (append_assoc handled was rest)
    (IsPermutation-append_right handled (was ++ rest) (now ++ (rest ++ sent))
    (moved_same (was ++ rest) ((now ++ rest) ++ sent) (now ++ (rest ++ sent)) (past_rest was now sent rest h) (append_assoc now rest sent)))))

-- the cell at a position sends a part of what it owed
pub owed-set : {C M : Type 0} (owed : ℕ → C → List (Envelope M)) (k : ℕ) (cells : List C) (i j : ℕ) (c new : C) (sent : List (Envelope M)) → i ≡ k + j → slice_get cells j ≡ Some c → IsPermutation (owed i c) (owed i new ++ sent) → IsPermutation (owed_from owed k cells) (owed_from owed k (slice_set cells j new) ++ sent)
owed-set owed k [] i j c new sent at here h = absurd (none-some c here)
owed-set {C} owed k (a ∷ cells) i zero c new sent at here h =
    let first : i ≡ k = omega arith in
    let is : c ≡ a = sym (same_Some a c here) in
    let there : IsPermutation (owed k c) (owed k new ++ sent) = subst (λ (n : ℕ). IsPermutation (owed n c) (owed n new ++ sent)) first h in
    let so : IsPermutation (owed k a) (owed k new ++ sent) = subst (λ (x : C). IsPermutation (owed k x) (owed k new ++ sent)) is there in
    past_rest (owed k a) (owed k new) sent (owed_from owed (suc k) cells) so
owed-set owed k (a ∷ cells) i (suc j) c new sent at here h =
    let rest = owed_from owed (suc k) cells in
    let less = owed_from owed (suc k) (slice_set cells j new) in
    moved_same (owed k a ++ rest) (owed k a ++ (less ++ sent)) ((owed k a ++ less) ++ sent)
    (IsPermutation-append_right (owed k a) rest (less ++ sent) (owed-set owed (suc k) cells i j c new sent (omega arith) here h))
    (sym (append_assoc (owed k a) less sent))
