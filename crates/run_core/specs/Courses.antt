-- What is told of a run, where it stands, and where it begins and ends.
use Rattle.std.specs.Prelude.{ℕ, ◌+◌, ◌-◌, ◌%◌, ◌==◌, ◌&&◌, Bool, cond, nat_lt, List, [], ◌∷◌, Option, None, Some}
use Rattle.block_fields.specs.States.{State, total}
use Rattle.amount_ledger.specs.Ledgers.{LedgerState, first_ledger, for_each, restored_ledger}
use Rattle.grid_fluxes.specs.BoundaryFlows.{out}
use Rattle.grid_fluxes.specs.Upwind.{upwind}
use Rattle.advect.specs.Flows.{flow_of}
use Rattle.initial_fill.specs.RootBlocks.{initial_state}
use Rattle.params_check.specs.Parameters.{Parameters}

-- What is told of a run: that the phase of this number has led to so many leaves; or that this cycle has ended in this
-- state, with this ledger.
pub data Told : Type 0 where
  phase_ended : (phase leaves : ℕ) → Told
  cycle_ended : (cycle : ℕ) (state : State) (ledger : LedgerState) → Told

-- Where a run stands: the state of its mesh and amounts, its ledger, and all that is told of it so far, in order.
pub record RunState : Type 0 where
  pub state : State
  pub ledger : LedgerState
  pub told : List Told

abbrev pub run_state : State → LedgerState → List Told → RunState
run_state state ledger told = record { state = state; ledger = ledger; told = told }

-- for each field of a state, of which there are four at most, a number; 0 for the others
abbrev pub of_fields : State → (ℕ → ℕ) → List ℕ
of_fields s g = for_each (λ f. cond (nat_lt f s.fields) (g f) 0)

-- the totals of a state
abbrev pub totals_of : State → List ℕ
totals_of s = of_fields s (total s)

-- what leaves the domain in an advance of a state by the flow of parameters
abbrev pub outflow : Parameters → State → List ℕ
outflow p s = of_fields s (out s (upwind s (flow_of p)))

-- cycle 0 ends with the initial rounds, and each later one with a phase more
abbrev pub cycle_after : Parameters → ℕ → ℕ
cycle_after p phases = phases - p.rounds

-- the run of parameters before its first phase; where there are no initial rounds, cycle 0 has ended
abbrev pub run_start : Parameters → RunState
run_start p =
    let s = initial_state p in let ledger = first_ledger (totals_of s) in
    run_state s ledger (cond (p.rounds == 0) (cycle_ended 0 s ledger ∷ []) [])

-- A run to be done: by which parameters, how many phases ended before it, where it stands then, and with which cycle
-- it ends.
pub record Course : Type 0 where
  pub parameters : Parameters
  pub ended : ℕ
  pub start : RunState
  pub last : ℕ

-- the whole run of parameters
abbrev pub whole : Parameters → Course
whole p = record { parameters = p; ended = 0; start = run_start p; last = p.cycles }

-- the run of parameters after so many phases, up to a cycle, from where it stands then: from its beginning, or from
-- another state
abbrev pub start_of : Parameters → Option RunState → RunState
start_of p None = run_start p
start_of p (Some start) = start

abbrev pub course_of : Parameters → ℕ → ℕ → Option RunState → Course
course_of p ended last start = record { parameters = p; ended = ended; start = start_of p start; last = last }

-- The run that goes on up to cycle `until` from a state, in which a cycle has ended and so much is gone. What was told of
-- that state isn't told again.
abbrev pub going_on : Parameters → ℕ → State → List ℕ → ℕ → Course
going_on p cycle s gone until = record {
  parameters = p;
  ended = p.rounds + cycle;
  start = run_state s (restored_ledger (totals_of s) gone) [];
  last = until;
}

-- how many phases the run has: none where its last cycle has ended before it
abbrev pub phases_of : Course → ℕ
phases_of c = c.parameters.rounds + c.last - c.ended

-- a file is due after a cycle: how often is above 0, and divides the cycle
abbrev pub is_due : ℕ → ℕ → Bool
is_due every cycle = nat_lt 0 every && (cycle % every == 0)
