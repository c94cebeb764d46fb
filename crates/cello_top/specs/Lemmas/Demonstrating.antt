-- A run of which nothing is written, and how the demonstration ends.
use Rattle.std.specs.Prelude.{◌≡◌, ◌⊎◌, ℕ, ◌+◌, List, [], ◌∷◌, ◌++◌, Option, Some, None, length, slice_index}
use Rattle.adapt_core.specs.Cells.{AdaptProblem}
use Rattle.amount_ledger.specs.Ledgers.{LedgerState}
use Rattle.demo_params.specs.DemoTexts.{demo_text}
use Rattle.mesh_output.specs.Lines.{end_line}
use Rattle.params_check.specs.Parameters.{Parameters}
use Rattle.roomy_runs.specs.Summaries.{IsSummary, amounts_line, demo_line, leaves_line}
use Rattle.run_core.specs.declared.fault.RunFault.{RunFault}
use Rattle.run_core.specs.declared.fault.RunFault.TheVariants as faults
use Rattle.run_core.specs.declared.step.Step.TheVariants as step
use Rattle.run_core.specs.Courses.{Course, RunState, Told, totals_of, whole}
use Rattle.run_core.specs.Runs.{RunEnds, Runs}
use Rattle.run_core.specs.Works.{IsTold, Standing}
use Rattle.run_report.specs.Actions.{piece}
use Rattle.run_report.specs.Outputs.{Output, StandsWithin, with_actions}
use Rattle.cello_top.specs.declared.fault.Fault.{Fault}
use Rattle.cello_top.specs.declared.fault.Fault.TheVariants.{Memory, WriteFault}
use Rattle.cello_top.specs.Counts.{HandlesBy, IsCountedBy}
use Rattle.cello_top.specs.Texts.{HasParameters}

-- the ledger of a run is that of the defined one after so many phases, with the totals of its state
pub record ShowsTotals (s : Standing) : Type 0 where
  pub run : RunState
  pub runs : Runs s.course s.phase run
  pub ledger : run.ledger ≡ s.ledger
  pub totals : s.ledger.total ≡ totals_of run.state
  pub fields : run.state.fields ≡ length s.course.parameters.fields

-- The adapt phases so far handled so many messages. Where no work is left, a cycle has ended just before.
pub record Keeps (counts : AdaptProblem → ℕ → Type 0) (s : Standing) (handled : ℕ) : Type 0 where
  pub told : List Told
  pub is : IsTold s told
  pub counted : IsCountedBy counts s handled
  pub shown : s.step ≡ step.Ended → ShowsTotals s

-- the run ends where it stands, and its ledger and its leaves are those of the end
pub record EndsShown (s : Standing) : Type 0 where
  pub run : RunState
  pub ends : RunEnds s.course run None
  pub ledger : run.ledger ≡ s.ledger
  pub totals : s.ledger.total ≡ totals_of run.state
  pub fields : run.state.fields ≡ length s.course.parameters.fields
  pub leaves : run.state.leaves ≡ s.set.places

-- it ends so, and handled so many messages
pub record EndsCounted (counts : AdaptProblem → ℕ → Type 0) (s : Standing) (handled : ℕ) : Type 0 where
  pub shown : EndsShown s
  pub counted : HandlesBy counts s.course handled

-- what a work came to
abbrev pub KeepsOn : (AdaptProblem → ℕ → Type 0) → Standing → ℕ → Option ℕ → Type 0
KeepsOn counts s handled (Some count) = Keeps counts s (handled + count)
KeepsOn counts s handled None = EndsCounted counts s handled

-- memory was refused, or a limit ends the run
abbrev pub IsCutBy : Course → RunFault → Type 0
IsCutBy c fault = (fault ≡ faults.Memory) ⊎ ((s : RunState) × RunEnds c s (Some fault))

-- a line for each of the fields by the ledger alone, numbered from `k` on
abbrev pub ledger_lines : LedgerState → ℕ → List (List ℕ) → List ℕ
ledger_lines ledger k [] = []
ledger_lines ledger k (name ∷ names) = amounts_line name (slice_index ledger.total k) (slice_index ledger.gone k) ++ ledger_lines ledger (k + 1) names

-- a summary by the parameters, the leaves and the ledger alone
abbrev pub ledger_summary : ℕ → ℕ → Parameters → ℕ → LedgerState → List ℕ
ledger_summary seed size p leaves ledger =
    demo_line seed size ++ (leaves_line leaves p.cycles ++ (ledger_lines ledger 0 p.fields ++ end_line))

-- the summary was written, and so many messages were handled
pub record DemoDone (counts : AdaptProblem → ℕ → Type 0) (seed size : ℕ) (before after : Output) (handled : ℕ) : Type 0 where
  pub bytes : List ℕ
  pub is : IsSummary seed size bytes
  pub acted : after ≡ with_actions before (piece bytes ∷ [])
  pub parameters : Parameters
  pub has : HasParameters (demo_text seed size) parameters
  pub counted : HandlesBy counts (whole parameters) handled

-- why the demonstration ends otherwise than well
pub data DemoEnds (seed size : ℕ) (before after : Output) (fault : Fault) : Type 0 where
  demo_memory : fault ≡ Memory → after ≡ before → DemoEnds seed size before after fault
  demo_failed : (bytes : List ℕ) → fault ≡ WriteFault → IsSummary seed size bytes → StandsWithin (piece bytes ∷ []) before after →
      DemoEnds seed size before after fault
