-- What each phase proves, at one problem: of its start, of one handling, and of every list of cells and flight for
-- which its invariant holds. What follows for runs of many events stands in src/laws.rt.
use Rattle.std.specs.Prelude.{◌≡◌, ℕ, ◌<◌, ◌^◌, List, ◌∷◌, ◌++◌, Some, All, IsPermutation, length, slice_get, slice_set}
use Rattle.phase_core.specs.declared.envelope.Envelope.{Envelope}
use Rattle.phase_core.specs.Machine.{Reaction, start_flight}

-- first cells, with a start message to each of them in flight, meet the invariant
abbrev pub StartHolds : {C M : Type 0} → (ℕ → M) → (List C → Type 0) → (List C → List (Envelope M) → Type 0) → Type 0
StartHolds {C} start begins holds = (cells : List C) → begins cells → holds cells (start_flight start (length cells))

-- and have this weight
abbrev pub StartWeighs : {C M : Type 0} → (ℕ → M) → (List C → Type 0) → (List C → List (Envelope M) → ℕ) → ℕ → Type 0
StartWeighs {C} start begins weight top = (cells : List C) → begins cells → weight cells (start_flight start (length cells)) ≡ top

-- handling the first envelope of the flight keeps the invariant
abbrev pub Keeps : {C M : Type 0} → (ℕ → C → M → Reaction C M) → (List C → List (Envelope M) → Type 0) → Type 0
Keeps {C} {M} react holds =
    (cells : List C) (e : Envelope M) (rest : List (Envelope M)) (cell : C)
    → holds cells (e ∷ rest) → slice_get cells e.to ≡ Some cell
    → holds (slice_set cells e.to (react e.to cell e.msg).cell) (rest ++ (react e.to cell e.msg).sent)

-- and lowers the weight
abbrev pub Lowers : {C M : Type 0} → (ℕ → C → M → Reaction C M) → (List C → List (Envelope M) → Type 0) → (List C → List (Envelope M) → ℕ) → Type 0
Lowers {C} {M} react holds weight =
    (cells : List C) (e : Envelope M) (rest : List (Envelope M)) (cell : C)
    → holds cells (e ∷ rest) → slice_get cells e.to ≡ Some cell
    → weight (slice_set cells e.to (react e.to cell e.msg).cell) (rest ++ (react e.to cell e.msg).sent) < weight cells (e ∷ rest)

-- a cell keeps its part of the problem, whatever it handles
abbrev pub KeepsParts : {Q C M : Type 0} → (ℕ → C → M → Reaction C M) → (List C → Q) → Type 0
KeepsParts {Q} {C} {M} react problem =
    (cells : List C) (at : ℕ) (cell : C) (msg : M) → slice_get cells at ≡ Some cell
    → problem (slice_set cells at (react at cell msg).cell) ≡ problem cells

-- the order of the flight does not matter
abbrev pub HoldsInAnyOrder : {C M : Type 0} → (List C → List (Envelope M) → Type 0) → Type 0
HoldsInAnyOrder {C} {M} holds =
    (cells : List C) (flight other : List (Envelope M)) → IsPermutation flight other → holds cells flight → holds cells other

abbrev pub WeighsInAnyOrder : {C M : Type 0} → (List C → List (Envelope M) → ℕ) → Type 0
WeighsInAnyOrder {C} {M} weight =
    (cells : List C) (flight other : List (Envelope M)) → IsPermutation flight other → weight cells other ≡ weight cells flight

-- where the invariant holds, cells are few enough for 32 bits,
abbrev pub HasFewCells : {C M : Type 0} → (List C → List (Envelope M) → Type 0) → Type 0
HasFewCells {C} {M} holds = (cells : List C) (flight : List (Envelope M)) → holds cells flight → length cells < 2 ^ 32

-- each envelope is addressed to one of them,
abbrev pub IsAddressed : {C M : Type 0} → (List C → List (Envelope M) → Type 0) → Type 0
IsAddressed {C} {M} holds = (cells : List C) (flight : List (Envelope M)) → holds cells flight → All (λ e. e.to < length cells) flight

-- and the weight at the start is far below what 64 bits hold
abbrev pub StartWeightFits : {C M : Type 0} → (List C → List (Envelope M) → Type 0) → ℕ → Type 0
StartWeightFits {C} {M} holds top = (cells : List C) (flight : List (Envelope M)) → holds cells flight → top < 2 ^ 62
