-- What the invariant says of single messages: how many starts to a position are in flight, and that each message is
-- in one of three states.
use Rattle.std.specs.Prelude.{◌≡◌, ℕ, ◌+◌, ◌==◌, cond, List, Some, sum_by, slice_get}
use Rattle.phase_core.specs.declared.envelope.Envelope.{Envelope}
use Rattle.owed_phase.specs.Plans.{Plan, owed_from, all_of}
use Rattle.owed_phase.specs.Holds.{waiting}

-- one for a start to position i
abbrev pub start_to : {K C M : Type 0} → Plan K C M → ℕ → Envelope M → ℕ
start_to plan i e = cond (e.to == i) (cond (plan.is_start e.msg) 1 0) 0

-- exactly one start is in flight to a cell that hasn't started, and none to one that has
abbrev pub StartsInFlight : {K C M : Type 0} → Plan K C M → List C → List (Envelope M) → Type 0
StartsInFlight {K} {C} {M} plan cells flight = (i : ℕ) (c : C) → slice_get cells i ≡ Some c → sum_by (start_to plan i) flight ≡ waiting plan c

-- what is counted in all messages is counted once: handled, or owed by a cell, or in flight
abbrev pub InThreeStates : {K C M : Type 0} → Plan K C M → List K → List C → List (Envelope M) → List (Envelope M) → Type 0
InThreeStates {K} {C} {M} plan parts cells flight handled =
    (count : Envelope M → ℕ) → sum_by count handled + sum_by count (owed_from plan.owed 0 cells) + sum_by count flight ≡ sum_by count (all_of plan parts)
