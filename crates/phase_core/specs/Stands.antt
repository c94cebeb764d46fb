-- Where a phase's `handle` may be called.
use Rattle.std.specs.Prelude.{◌≡◌, ℕ, List, Some, Contains, slice_get}
use Rattle.phase_core.specs.declared.envelope.Envelope.{Envelope}

-- this cell stands at position `at` of the cells, an envelope of this message to it is in flight, and the invariant
-- of the problem that phase and cells make holds
pub record Stands {Q C M : Type 0} (holds : Q → List C → List (Envelope M) → Type 0) (problem : List C → Q) (at : ℕ) (cell : C) (msg : M) (cells : List C) (flight : List (Envelope M)) : Type 0 where
  pub here : slice_get cells at ≡ Some cell
  pub waits : Contains flight (record { to = at; msg = msg })
  pub valid : holds (problem cells) cells flight

-- there are cells and a flight for which all this is so
abbrev pub CanHandle : {Q C M : Type 0} → (Q → List C → List (Envelope M) → Type 0) → (List C → Q) → ℕ → C → M → Type 0
CanHandle {Q} {C} {M} holds problem at cell msg = (cells : List C) × (flight : List (Envelope M)) × Stands holds problem at cell msg cells flight
