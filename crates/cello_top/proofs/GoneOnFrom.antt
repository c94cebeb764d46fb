-- The answer to `resume` of a checkpoint that the whole run writes.
use Rattle.std.proofs.Common.{◌≡◌, ℕ, List, ◌++◌, Option, Some, Result, length, refl, ap, subst, ◌∙◌}
use Rattle.cello_io.specs.Files.{PastFiles}
use Rattle.checkpoint.specs.Reading.{ReadsAs}
use Rattle.checkpoint.specs.SavedStates.{SavedState}
use Rattle.checkpoint.specs.declared.fault.CheckFault.{CheckFault}
use Rattle.params_check.specs.Parameters.{Parameters}
use Rattle.restart_laws.specs.ResumedRuns.{GoesOnFrom}
use Rattle.restart_laws.specs.Resumes.{resumed}
use Rattle.roomy_runs.specs.Summaries.{IsSummary}
use Rattle.run_core.specs.declared.fault.RunFault.{RunFault}
use Rattle.run_core.specs.Courses.{RunState}
use Rattle.run_core.specs.Runs.{RunEnds}
use Rattle.run_report.specs.Actions.{Action, restart_pieces}
use Rattle.cello_top.specs.Answers.{Answer, IsAnswer, gone_on, resumed_answer}
use Rattle.cello_top.specs.GoneOn.{GoesOnAs}
use Rattle.cello_top.specs.Words.{IsResume}
use Rattle.cello_top.proofs.OneAnswer.{IsAnswer-one}

pub goes_on : ((bytes : List ℕ) (r q : Result SavedState CheckFault) → ReadsAs bytes r → ReadsAs bytes q → r ≡ q)
    → ((seed size : ℕ) (bytes others : List ℕ) → IsSummary seed size bytes → IsSummary seed size others → bytes ≡ others)
    → (p : Parameters) (cycle : ℕ) (file : List ℕ) (all : RunState) (limit : Option RunFault) (later : List Action)
    → GoesOnFrom p cycle file all limit later
    → (words : List (List ℕ)) (name bytes : List ℕ) (past : PastFiles) (answer : Answer) → IsResume words name p.cycles
    → past name ≡ Some file → IsAnswer words bytes past answer → GoesOnAs cycle limit later answer
goes_on one sums p cycle file all limit later from words name bytes past answer is at answers =
    let s = from.saved in
    let run = from.resumed_run in
    let last : s.params.cycles ≡ p.cycles = ap (λ (q : Parameters). q.cycles) from.params in
    let ends : RunEnds (resumed s p.cycles) run.rest limit = subst (λ (until : ℕ). RunEnds (resumed s until) run.rest limit) last run.ends in
    let other : IsAnswer words bytes past (resumed_answer s run.rest limit) = gone_on name p.cycles file s run.rest limit is at from.reads ends refl in
    let same : answer ≡ resumed_answer s run.rest limit = IsAnswer-one one sums words bytes past answer (resumed_answer s run.rest limit) answers other in
    record {
      fault = ap (λ (a : Answer). a.fault) same;
      leaves = length s.places;
      acted = ap (λ (a : Answer). a.actions) same ∙ run.writes ∙ ap (λ (c : ℕ). restart_pieces c (length s.places) ++ later) from.at;
    }
