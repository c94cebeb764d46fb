-- The run that goes on from a saved state.
use Rattle.std.specs.Prelude.{ℕ, ◌^◌, List, slice_index, take}
use Rattle.std.specs.declared.result.Result.{Result}
use Rattle.amount_ledger.specs.Ledgers.{for_each}
use Rattle.checkpoint.specs.declared.fault.CheckFault.{CheckFault}
use Rattle.checkpoint.specs.Reading.{ReadsAs, state_in}
use Rattle.checkpoint.specs.SavedStates.{SavedState}
use Rattle.run_core.specs.Courses.{Course, going_on}

-- what has left the domain by a saved state, a number for each of four fields; 0 for those that it doesn't have
abbrev pub gone_by : SavedState → List ℕ
gone_by s = for_each (λ f. slice_index s.gone f)

-- the run that goes on from it up to a cycle
abbrev pub resumed : SavedState → ℕ → Course
resumed s until = going_on s.params s.cycle (state_in s) (gone_by s) until

-- how many bytes of a file are fetched at most
abbrev pub fetch_limit : ℕ
fetch_limit = 2 ^ 30

-- what a file stands for, by as much of it as is fetched
abbrev pub StandsFor : List ℕ → Result SavedState CheckFault → Type 0
StandsFor file r = ReadsAs (take fetch_limit file) r
