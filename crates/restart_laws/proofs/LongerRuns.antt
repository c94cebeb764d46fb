-- Of two runs that go on from one state the one with fewer cycles tells a beginning of what the other tells.
use Rattle.std.proofs.Common.{ℕ, zero, suc, ◌+◌, ◌-◌, ◌<◌, ◌≤◌, List, Option, ap, ◌∙◌, arith}
use Rattle.block_fields.specs.States.{State}
use Rattle.params_check.specs.Parameters.{Parameters}
use Rattle.run_core.specs.declared.fault.RunFault.{RunFault}
use Rattle.run_core.specs.Courses.{RunState, going_on}
use Rattle.run_core.specs.Runs.{RunEnds, Runs, after_all, at_limit}
use Rattle.run_core.proofs.RunPrefixes.{GrewFrom, RunEnds-grew}
use Rattle.run_report.specs.Actions.{report_actions}
use Rattle.run_report.proofs.RunActions.{report_actions-append}
use Rattle.restart_laws.specs.ResumedRuns.{WritesBeginning}

module _ (p : Parameters) (cycle : ℕ) (s : State) (gone : List ℕ) (until last : ℕ) where
  -- the first phases don't depend on the last cycle
  same-phases : (phases : ℕ) (t : RunState) → Runs (going_on p cycle s gone until) phases t → Runs (going_on p cycle s gone last) phases t
  same-phases zero t runs = runs
  same-phases (suc phases) t runs = (runs.0, same-phases phases runs.0 runs.1, runs.2)

  grows : (phases : ℕ) (part rest : RunState) (limit : Option RunFault) → phases ≤ p.rounds + until - (p.rounds + cycle) → until ≤ last
      → Runs (going_on p cycle s gone until) phases part → RunEnds (going_on p cycle s gone last) rest limit → WritesBeginning p part rest
  grows phases part rest limit within more runs ends =
      let below : phases ≤ p.rounds + last - (p.rounds + cycle) = omega (arith, within, more) in
      let grew : GrewFrom part.told rest.told = RunEnds-grew (going_on p cycle s gone last) phases part rest limit below (same-phases phases part runs) ends in
      record {
        more = report_actions p grew.more;
        is = ap (report_actions p) grew.is ∙ report_actions-append p part.told grew.more;
      }

  pub writes-beginning : (part rest : RunState) (stop limit : Option RunFault) → until ≤ last → RunEnds (going_on p cycle s gone until) part stop
      → RunEnds (going_on p cycle s gone last) rest limit → WritesBeginning p part rest
  writes-beginning part rest stop limit more (after_all runs is) ends =
      grows (p.rounds + until - (p.rounds + cycle)) part rest limit (omega arith) more runs ends
  writes-beginning part rest stop limit more (at_limit phases fault below runs passes is) ends =
      let under : phases < p.rounds + until - (p.rounds + cycle) = below in
      grows phases part rest limit (omega (arith, under)) more runs ends
