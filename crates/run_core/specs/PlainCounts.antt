-- How many messages the phases of a run handle, where each phase delivers them first in, first out.
use Rattle.std.specs.Prelude.{◌≡◌, ℕ, zero, suc, ◌+◌, List}
use Rattle.block_index.specs.Places.{Cube, Grid}
use Rattle.block_index.specs.declared.wish.Wish.{Wish}
use Rattle.phase_core.specs.Machine.{CoreState, RunsPlainly, start_state}
use Rattle.adapt_core.specs.declared.adapt_msg.AdaptMsg.{AdaptMsg}
use Rattle.adapt_core.specs.Cells.{LeafState, AdaptProblem}
use Rattle.adapt_core.specs.Problem.{mesh_of, wishes_of, AdaptBegins}
use Rattle.adapt_core.specs.React.{adapt_react, adapt_start}
use Rattle.run_core.specs.Courses.{Course, RunState, phases_of}
use Rattle.run_core.specs.Runs.{Runs, phase_wishes}

-- How many messages the adapt phase of a mesh and these wishes handles where they are delivered first in, first out,
-- its start messages in the order of the leaves.
pub record IsPlainCount (grid : Grid) (mesh : List Cube) (wishes : List Wish) (count : ℕ) : Type 0 where
  pub problem : AdaptProblem
  pub cells : List LeafState
  pub quiet : CoreState LeafState AdaptMsg
  pub begins : AdaptBegins problem cells
  pub same_grid : problem.grid ≡ grid
  pub same_mesh : mesh_of problem ≡ mesh
  pub same_wishes : wishes_of problem ≡ wishes
  pub runs : RunsPlainly (adapt_react problem) (start_state adapt_start cells) count quiet

-- after the run's first phases, which are this many, the adapt phase of the next one handles `after` less `before` messages
pub record CountsPhase (c : Course) (phases before after : ℕ) : Type 0 where
  pub state : RunState
  pub runs : Runs c phases state
  pub count : ℕ
  pub plain : IsPlainCount c.parameters.grid state.state.leaves (phase_wishes c.parameters (c.ended + suc phases) state.state) count
  pub together : after ≡ before + count

-- the run's first adapt phases, which are this many, handle so many messages together
abbrev pub CountsPhases : Course → ℕ → ℕ → Type 0
CountsPhases c zero handled = handled ≡ 0
CountsPhases c (suc phases) handled = (before : ℕ) × CountsPhases c phases before × CountsPhase c phases before handled

-- all adapt phases of the run handle so many messages together
abbrev pub HandlesPlainly : Course → ℕ → Type 0
HandlesPlainly c handled = CountsPhases c (phases_of c) handled
