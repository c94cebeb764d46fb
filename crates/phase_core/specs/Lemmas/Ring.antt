-- A small phase for the tests: each cell passes a token to the next cell, which answers.
use Rattle.std.specs.Prelude.{◌≡◌, ℕ, ◌*◌, ◌<◌, ◌^◌, List, [], ◌∷◌, ◌++◌, All, length, map, sum_by}
use Rattle.phase_core.specs.declared.envelope.Envelope.{Envelope}
use Rattle.phase_core.specs.Machine.{Reaction}

-- a cell: who comes next, whose tokens passed here, and who answered
pub record RingPlace : Type 0 where
  pub next : ℕ
  pub passed : List ℕ
  pub answered : List ℕ

pub data RingNote : Type 0 where
  Begin : RingNote
  Token : ℕ → RingNote
  Answer : ℕ → RingNote

pub record RingProblem : Type 0 where
  pub places : ℕ
  pub nexts : List ℕ

-- of a phase of so many places, and its cells
abbrev pub ring_problem : ℕ → List RingPlace → RingProblem
ring_problem places cells = record { places = places; nexts = map (λ c. c.next) cells }

abbrev pub ring_react : RingProblem → ℕ → RingPlace → RingNote → Reaction RingPlace RingNote
ring_react p at cell Begin = record { cell = cell; sent = (record { to = cell.next; msg = Token at }) ∷ [] }
ring_react p at cell (Token from) = record { cell = record { next = cell.next; passed = cell.passed ++ from ∷ []; answered = cell.answered }; sent = (record { to = from; msg = Answer at }) ∷ [] }
ring_react p at cell (Answer from) = record { cell = record { next = cell.next; passed = cell.passed; answered = cell.answered ++ from ∷ [] }; sent = [] }

-- how many messages this one and those that follow from it are
abbrev pub ring_weigh : RingNote → ℕ
ring_weigh Begin = 3
ring_weigh (Token from) = 2
ring_weigh (Answer from) = 1

abbrev pub ring_weight : RingProblem → List RingPlace → List (Envelope RingNote) → ℕ
ring_weight p cells flight = sum_by (λ e. ring_weigh e.msg) flight

-- a message names one of the places, if any
abbrev pub IsFromBelow : ℕ → RingNote → Type 0
IsFromBelow n Begin = Unit {0}
IsFromBelow n (Token from) = from < n
IsFromBelow n (Answer from) = from < n

abbrev pub IsWithin : ℕ → Envelope RingNote → Type 0
IsWithin n e = (e.to < n) × IsFromBelow n e.msg

-- the cells are as many as the places, and each next one is among them
pub record IsRing (p : RingProblem) (cells : List RingPlace) : Type 0 where
  pub few : p.places < 2 ^ 32
  pub many : length cells ≡ p.places
  pub nexts : All (λ c. c.next < p.places) cells

abbrev pub RingHolds : RingProblem → List RingPlace → List (Envelope RingNote) → Type 0
RingHolds p cells flight = IsRing p cells × All (IsWithin p.places) flight

abbrev pub ring_start : ℕ → RingNote
ring_start to = Begin

abbrev pub ring_start_weight : RingProblem → ℕ
ring_start_weight p = 3 * p.places
