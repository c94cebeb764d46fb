-- How many messages the adapt phases of a run handle, by what is known of the messages of each phase.
use Rattle.std.specs.Prelude.{◌≡◌, ℕ, zero, suc, ◌+◌, List}
use Rattle.adapt_core.specs.Cells.{LeafState, AdaptProblem}
use Rattle.adapt_core.specs.Problem.{mesh_of, wishes_of, AdaptBegins}
use Rattle.run_core.specs.Courses.{Course, RunState, phases_of}
use Rattle.run_core.specs.Runs.{Runs, phase_wishes}
use Rattle.run_core.specs.Steps.{adapts_at}
use Rattle.run_core.specs.Works.{Standing}
use Rattle.crew.specs.Counts.{CountsWithin}

-- After the run's first phases, which are this many, the adapt phase of the next one handles `after` less `before`
-- messages, and that many it can handle. Its problem is that of the state's mesh and wishes.
pub record CountsPhaseBy (counts : AdaptProblem → ℕ → Type 0) (c : Course) (phases before after : ℕ) : Type 0 where
  pub state : RunState
  pub runs : Runs c phases state
  pub problem : AdaptProblem
  pub cells : List LeafState
  pub begins : AdaptBegins problem cells
  pub same_grid : problem.grid ≡ c.parameters.grid
  pub same_mesh : mesh_of problem ≡ state.state.leaves
  pub same_wishes : wishes_of problem ≡ phase_wishes c.parameters (c.ended + suc phases) state.state
  pub count : ℕ
  pub counted : counts problem count
  pub together : after ≡ before + count

-- the run's first adapt phases, which are this many, handle so many messages together
abbrev pub CountsPhasesBy : (AdaptProblem → ℕ → Type 0) → Course → ℕ → ℕ → Type 0
CountsPhasesBy counts c zero handled = handled ≡ 0
CountsPhasesBy counts c (suc phases) handled = (before : ℕ) × CountsPhasesBy counts c phases before × CountsPhaseBy counts c phases before handled

-- those that have ended where a run stands
abbrev pub IsCountedBy : (AdaptProblem → ℕ → Type 0) → Standing → ℕ → Type 0
IsCountedBy counts s handled = CountsPhasesBy counts s.course (adapts_at s.step s.phase) handled

-- all adapt phases of the run
abbrev pub HandlesBy : (AdaptProblem → ℕ → Type 0) → Course → ℕ → Type 0
HandlesBy counts c handled = CountsPhasesBy counts c (phases_of c) handled

-- All adapt phases of the run handle so many messages together: at least one for each leaf, and at most one for each
-- leaf and three for each ordered pair of leaves that touch, summed over the phases.
abbrev pub HandlesWithin : Course → ℕ → Type 0
HandlesWithin c handled = HandlesBy CountsWithin c handled
