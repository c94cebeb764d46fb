-- What all cells owe, by the cells.
use Rattle.std.proofs.Common.{◌≡◌, ℕ, zero, suc, ◌+◌, List, [], ◌∷◌, Some, refl, sym, subst, arith, inl, inr}
use Rattle.std.specs.Prelude.{Contains, slice_get}
use Rattle.std.proofs.lemmas.Option.{none-some, same_Some}
use Rattle.std.proofs.lemmas.List.Elements.{Contains-append_left, Contains-append_right, Contains-append_cases}
use Rattle.phase_core.specs.declared.envelope.Envelope.{Envelope}
use Rattle.owed_phase.specs.Plans.{owed_from}

-- what all owe some cell owes
pub owed_from-get : {C M : Type 0} (owed : ℕ → C → List (Envelope M)) (k : ℕ) (cells : List C) (e : Envelope M) → Contains (owed_from owed k cells) e → (i : ℕ) × (j : ℕ) × (c : C) × (i ≡ k + j) × (slice_get cells j ≡ Some c) × Contains (owed i c) e
owed_from-get owed k [] e h = absurd (omega (arith, h.1))
owed_from-get {C} {M} owed k (c ∷ cells) e h = elim (Contains-append_cases (owed k c) (owed_from owed (suc k) cells) e h) [
  | inl here ↦ (k, 0, c, omega arith, refl, here)
  | inr later ↦ let f = owed_from-get owed (suc k) cells e later in (f.0, suc f.1, f.2, omega (arith, f.3), f.4, f.5)
]

-- what a cell owes is among what all owe
pub owed_from-has : {C M : Type 0} (owed : ℕ → C → List (Envelope M)) (k : ℕ) (cells : List C) (i j : ℕ) (c : C) (e : Envelope M) → i ≡ k + j → slice_get cells j ≡ Some c → Contains (owed i c) e → Contains (owed_from owed k cells) e
owed_from-has owed k [] i j c e at here h = absurd (none-some c here)
owed_from-has {C} owed k (a ∷ cells) i zero c e at here h =
    let first : i ≡ k = omega arith in
    let there : Contains (owed k c) e = subst (λ (n : ℕ). Contains (owed n c) e) first h in
    let so : Contains (owed k a) e = subst (λ (x : C). Contains (owed k x) e) (sym (same_Some a c here)) there in
    Contains-append_left (owed k a) (owed_from owed (suc k) cells) e so
owed_from-has owed k (a ∷ cells) i (suc j) c e at here h =
    Contains-append_right (owed k a) (owed_from owed (suc k) cells) e (owed_from-has owed (suc k) cells i j c e (omega arith) here h)
