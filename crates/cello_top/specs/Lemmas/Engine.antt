-- How far a run is told, and how the engine goes on.
use Rattle.std.specs.Prelude.{◌≡◌, ℕ, ◌+◌, List, [], Option, Some, None}
use Rattle.adapt_core.specs.Cells.{AdaptProblem}
use Rattle.run_core.specs.Courses.{Told}
use Rattle.run_core.specs.Works.{IsTold, Standing, StandsAt}
use Rattle.run_report.specs.Actions.{report_actions}
use Rattle.run_report.specs.Outputs.{Output, with_actions}
use Rattle.cello_top.specs.Counts.{IsCountedBy}
use Rattle.cello_top.specs.Lemmas.CommandSteps.{RanWhole}

-- the mesh of a run is the defined one
abbrev pub Stands : Standing → Type 0
Stands s = StandsAt s.step s.course s.phase s.set.places

-- The adapt phases of a run so far handled so many messages, and all that is told of it by now was written, and nothing else.
pub record Tells (counts : AdaptProblem → ℕ → Type 0) (s : Standing) (handled : ℕ) (before after : Output) : Type 0 where
  pub told : List Told
  pub is : IsTold s told
  pub counted : IsCountedBy counts s handled
  pub acted : after ≡ with_actions before (report_actions s.course.parameters told)

-- What a work came to: more messages were handled, and what is told by then was written; or it was the last one, and
-- all was written.
abbrev pub Goes : (AdaptProblem → ℕ → Type 0) → Standing → ℕ → Output → Output → Option ℕ → Type 0
Goes counts s handled before after (Some count) = Tells counts s (handled + count) before after
Goes counts s handled before after None = RanWhole counts [] s.course handled before after
