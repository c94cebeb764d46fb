-- What is there and what is gone.
use Rattle.std.proofs.Common.{◌≡◌, ℕ, ◌+◌, ◌^◌, ◌<◌, ◌≤◌, length, subst}
use Rattle.std.specs.Prelude.{slice_index}
use Rattle.block_fields.specs.States.{total}
use Rattle.initial_fill.specs.RootBlocks.{initial_state}
use Rattle.run_core.specs.Courses.{course_of}
use Rattle.run_core.specs.Works.{Standing}
use Rattle.run_core.proofs.RunTotals.{initial-most}
use Rattle.run_core.proofs.Shown.{ledger-together}
use Rattle.run_core.proofs.run.Run.ledger.Goals as goal

pub returns-clause-initial : goal.returns-clause-initial
returns-clause-initial g c =
    let run = c.self.inside in
    let inv = c.self.invariant in
    subst (λ (s : Standing). (f : ℕ) → f < length s.course.parameters.fields
    → slice_index s.ledger.total f + slice_index s.ledger.gone f ≡ total (initial_state s.course.parameters) f) c.self.view_is
    (ledger-together (course_of run.params run.ended run.last g.S.Start.start) inv.limits run.phase run.ledger inv.has_ledger)

pub returns-clause-few : goal.returns-clause-few
returns-clause-few g c =
    let run = c.self.inside in
    let inv = c.self.invariant in
    subst (λ (s : Standing). (f : ℕ) → f < length s.course.parameters.fields → total (initial_state s.course.parameters) f ≤ 2 ^ 40) c.self.view_is
    (initial-most run.params inv.limits.limits)
