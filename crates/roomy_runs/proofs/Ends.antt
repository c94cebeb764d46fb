-- A demonstration has one summary.
use Rattle.std.proofs.Common.{◌≡◌, ℕ, List, Option, None, sym, ap, ◌∙◌, subst}
use Rattle.demo_params.specs.DemoTexts.{demo_text}
use Rattle.params_check.specs.Parameters.{Parameters}
use Rattle.run_core.specs.declared.fault.RunFault.{RunFault}
use Rattle.run_core.specs.Courses.{Course, RunState, whole}
use Rattle.run_core.specs.Runs.{RunEnds}
use Rattle.roomy_runs.specs.Summaries.{IsSummary, summary}
use Rattle.roomy_runs.proofs.Accepted.{OneReading, parameters-one}

-- a run ends in one state
abbrev pub OneEnd : Type 0
OneEnd = (c : Course) (s t : RunState) (a b : Option RunFault) → RunEnds c s a → RunEnds c t b → s ≡ t

pub IsSummary-one : OneReading → OneEnd → (seed size : ℕ) (bytes others : List ℕ) → IsSummary seed size bytes → IsSummary seed size others → bytes ≡ others
IsSummary-one reading end seed size bytes others a b =
    let p : Parameters = a.parameters in
    let same : b.parameters ≡ p =
    parameters-one reading (demo_text seed size) b.groups a.groups b.parameters p b.spells a.spells b.accepted a.accepted in
    let ends : RunEnds (whole p) b.run None = subst (λ (q : Parameters). RunEnds (whole q) b.run None) same b.ends in
    let run : a.run ≡ b.run = end (whole p) a.run b.run None None a.ends ends in
    let here : summary seed size p a.run ≡ summary seed size p b.run = ap (summary seed size p) run in
    let there : summary seed size b.parameters b.run ≡ summary seed size p b.run = ap (λ (q : Parameters). summary seed size q b.run) same in
    a.is ∙ (here ∙ sym (b.is ∙ there))
