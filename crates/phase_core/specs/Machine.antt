-- The core machine: a list of cells, and a flight of envelopes that wait to be handled.
-- One event handles one envelope at the one cell that it is addressed to.
use Rattle.std.specs.Prelude.{◌≡◌, ℕ, List, [], ◌∷◌, ◌++◌, Some, map, length, replicate, remove, slice_get, slice_set}
use Rattle.std.specs.List.{range_with_len}
use Rattle.phase_core.specs.declared.envelope.Envelope.{Envelope}

-- what handling a message does: the cell becomes this one, and these envelopes are sent, in this order
pub record Reaction (C M : Type 0) : Type 0 where
  pub cell : C
  pub sent : List (Envelope M)

-- the cells, and the envelopes in flight in the order in which they were sent
pub record CoreState (C M : Type 0) : Type 0 where
  pub cells : List C
  pub flight : List (Envelope M)

-- nothing is in flight
abbrev pub IsQuiet : {C M : Type 0} → CoreState C M → Type 0
IsQuiet s = s.flight ≡ []

-- one start message for each of the first `count` cells, in their order
abbrev pub start_flight : {M : Type 0} → (ℕ → M) → ℕ → List (Envelope M)
start_flight start count = map (λ to. record { to = to; msg = start to }) (range_with_len 0 count)

-- the cells before anything was handled, with a start message to each of them in flight
abbrev pub start_state : {C M : Type 0} → (ℕ → M) → List C → CoreState C M
start_state start cells = record { cells = cells; flight = start_flight start (length cells) }

-- Handle i: the envelope at place i of the flight is handled
pub data Event : Type 0 where
  Handle : ℕ → Event

-- handling the envelope at place i leads from s to t: the envelope leaves the flight, the cell that it is
-- addressed to becomes the reaction's, and what the reaction sends joins the flight behind the rest
pub record Handles {C M : Type 0} (react : ℕ → C → M → Reaction C M) (s : CoreState C M) (i : ℕ) (t : CoreState C M) : Type 0 where
  pub envelope : Envelope M
  pub cell : C
  pub taken : slice_get s.flight i ≡ Some envelope
  pub stands : slice_get s.cells envelope.to ≡ Some cell
  pub cells : t.cells ≡ slice_set s.cells envelope.to (react envelope.to cell envelope.msg).cell
  pub flight : t.flight ≡ remove s.flight i ++ (react envelope.to cell envelope.msg).sent

-- the events lead from s to t, one after another
abbrev pub Delivers : {C M : Type 0} → (ℕ → C → M → Reaction C M) → CoreState C M → List Event → CoreState C M → Type 0
Delivers react s [] t = s ≡ t
Delivers {C} {M} react s (Handle i ∷ events) t = (next : CoreState C M) × (Handles react s i next) × Delivers react next events t

-- the run that always handles the first envelope leads from s to the quiet state t, in this many events
pub record RunsPlainly {C M : Type 0} (react : ℕ → C → M → Reaction C M) (s : CoreState C M) (count : ℕ) (t : CoreState C M) : Type 0 where
  pub runs : Delivers react s (replicate count (Handle 0)) t
  pub quiet : IsQuiet t
