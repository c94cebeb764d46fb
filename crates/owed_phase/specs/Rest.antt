-- What a cell has handled, among all the messages to it, and what stands when nothing is in flight.
use Rattle.std.specs.Prelude.{◌≡◌, ℕ, ◌≤◌, true, List, Some, Contains, sum_by, slice_get}
use Rattle.owed_phase.specs.Plans.{Plan, inbox, after, all_of}

-- each of these messages is one of all, and none is there more often
pub record IsAmong {M : Type 0} (done all : List M) : Type 0 where
  pub one_of : (m : M) → Contains done m → Contains all m
  pub sums : (f : M → ℕ) → sum_by f done ≤ sum_by f all

-- a cell at position i after some of the messages to it, the last first
pub record HasHandled {K C M : Type 0} (plan : Plan K C M) (parts : List K) (i : ℕ) (c : C) (done : List M) : Type 0 where
  pub part : K
  pub first : C
  pub here : slice_get parts i ≡ Some part
  pub fresh : plan.Fresh first
  pub of_part : plan.part first ≡ part
  pub is : c ≡ after plan.react i first done
  pub among : IsAmong done (inbox i (all_of plan parts))

-- a cell at position i that has started and has handled all messages to it
pub record IsDone {K C M : Type 0} (plan : Plan K C M) (parts : List K) (i : ℕ) (c : C) : Type 0 where
  pub done : List M
  pub handled : HasHandled plan parts i c done
  pub started : plan.started c ≡ true
  pub every : IsAmong (inbox i (all_of plan parts)) done

-- at rest: each cell is done
abbrev pub AreDone : {K C M : Type 0} → Plan K C M → List K → List C → Type 0
AreDone {K} {C} {M} plan parts cells = (i : ℕ) (c : C) → slice_get cells i ≡ Some c → IsDone plan parts i c
