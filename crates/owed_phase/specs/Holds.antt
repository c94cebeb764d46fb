-- What stands in every state of a phase whose cells owe messages, and its weight.
use Rattle.std.specs.Prelude.{◌≡◌, ℕ, ◌+◌, ◌<◌, ◌^◌, cond, List, ◌++◌, Some, All, IsPermutation, length, map, sum_by, slice_get}
use Rattle.phase_core.specs.declared.envelope.Envelope.{Envelope}
use Rattle.owed_phase.specs.Plans.{Plan, owed_from, inbox, after, all_of}

-- the problem is small, and each message is addressed to a cell
pub record Fits {K C M : Type 0} (plan : Plan K C M) (parts : List K) : Type 0 where
  pub few : length parts < 2 ^ 32
  pub addressed : All (λ e. e.to < length parts) (all_of plan parts)
  pub short : length (all_of plan parts) < 2 ^ 62

-- Each message is handled, or owed by a cell, or in flight, and is so once; and each cell is what a fresh cell of its
-- part became by the messages that it handled.
pub record Owing {K C M : Type 0} (plan : Plan K C M) (parts : List K) (cells : List C) (flight : List (Envelope M)) : Type 0 where
  pub fits : Fits plan parts
  pub handled : List (Envelope M)
  pub once : IsPermutation (all_of plan parts) (handled ++ (owed_from plan.owed 0 cells ++ flight))
  pub many : length cells ≡ length parts
  pub each : (i : ℕ) (k : K) → slice_get parts i ≡ Some k →
      (c : C) × plan.Fresh c × (plan.part c ≡ k) × (slice_get cells i ≡ Some (after plan.react i c (inbox i handled)))

-- the invariant, of a valid problem
pub record OwingHolds {K C M : Type 0} (valid : Type 0) (plan : Plan K C M) (parts : List K) (cells : List C) (flight : List (Envelope M)) : Type 0 where
  pub problem : valid
  pub owing : Owing plan parts cells flight

-- the first cells of a valid problem
pub record OwingBegins {K C M : Type 0} (valid : Type 0) (plan : Plan K C M) (parts : List K) (cells : List C) : Type 0 where
  pub problem : valid
  pub fits : Fits plan parts
  pub made : map plan.part cells ≡ parts
  pub fresh : All plan.Fresh cells

-- one for a cell that hasn't started
abbrev pub waiting : {K C M : Type 0} → Plan K C M → C → ℕ
waiting plan c = cond (plan.started c) 0 1

-- one for a message that is no start
abbrev pub piece : {K C M : Type 0} → Plan K C M → Envelope M → ℕ
piece plan e = cond (plan.is_start e.msg) 0 1

-- The weight: the cells that haven't started, and what is owed; and the messages in flight that are no starts.
abbrev pub owing_weight : {K C M : Type 0} → Plan K C M → List C → List (Envelope M) → ℕ
owing_weight plan cells flight = (sum_by (waiting plan) cells + length (owed_from plan.owed 0 cells)) + sum_by (piece plan) flight

-- at the start: one for each message that there will be
abbrev pub owing_start_weight : {K C M : Type 0} → Plan K C M → List K → ℕ
owing_start_weight plan parts = length (all_of plan parts)
