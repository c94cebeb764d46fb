-- The phases of a run handle one number of messages together, and there is such a number.
use Rattle.std.proofs.Common.{◌≡◌, ℕ, zero, suc, ◌+◌, List, None, map, length, refl, sym, ap, ◌∙◌, subst}
use Rattle.std.proofs.lemmas.List.{length-map}
use Rattle.std.proofs.lemmas.Option.{none-some}
use Rattle.block_index.specs.Places.{Cube, Grid, IsDomain}
use Rattle.block_index.specs.declared.wish.Wish.{Wish}
use Rattle.leaf_set.specs.Meshes.{IsMesh, IsBalanced}
use Rattle.phase_core.specs.Machine.{RunsPlainly, start_state}
use Rattle.phase_core.proofs.Deliveries.{RunsPlainly-once}
use Rattle.adapt_core.specs.Cells.{LeafState, AdaptProblem}
use Rattle.adapt_core.specs.Problem.{unopened}
use Rattle.adapt_core.specs.React.{adapt_react, adapt_start}
use Rattle.adapt_core.proofs.OneProblem.{same_problem, same_cells}
use Rattle.adapt_core.proofs.FirstProblems.{problem_exists, begins_exists, plain_run_exists}
use Rattle.params_check.specs.Parameters.{Parameters}
use Rattle.criteria.specs.Wishes.{wish_of}
use Rattle.run_core.specs.Courses.{Course, RunState, phases_of}
use Rattle.run_core.specs.Runs.{Runs, RunEnds, phase_wishes, after_all, at_limit}
use Rattle.run_core.specs.PlainCounts.{IsPlainCount, CountsPhase, CountsPhases, HandlesPlainly}
use Rattle.run_core.proofs.OneRun.{Runs-one}
use Rattle.run_core.proofs.PhaseMeshes.{Runs-Tiles, Tiles}

pub IsPlainCount-one : (grid : Grid) (mesh : List Cube) (wishes : List Wish) (m n : ℕ) → IsPlainCount grid mesh wishes m → IsPlainCount grid mesh wishes n → m ≡ n
IsPlainCount-one grid mesh wishes m n a b =
    let p = a.problem in
    let q = b.problem in
    let same : p ≡ q = same_problem p q a.begins.problem b.begins.problem (a.same_grid ∙ sym b.same_grid) (a.same_mesh ∙ sym b.same_mesh) (a.same_wishes ∙ sym b.same_wishes) in
    let cells : a.cells ≡ b.cells = same_cells p q a.cells b.cells a.begins b.begins same in
    let moved : RunsPlainly (adapt_react p) (start_state adapt_start a.cells) n b.quiet =
    subst (λ (x : AdaptProblem). RunsPlainly (adapt_react x) (start_state adapt_start a.cells) n b.quiet) (sym same)
    (subst (λ (x : List LeafState). RunsPlainly (adapt_react q) (start_state adapt_start x) n b.quiet) (sym cells) b.runs) in
    (RunsPlainly-once m n (start_state adapt_start a.cells) a.quiet b.quiet a.runs moved).0

plain_count_exists : (grid : Grid) (mesh : List Cube) (wishes : List Wish) → IsDomain grid → IsMesh grid mesh → IsBalanced grid mesh → length wishes ≡ length mesh → (count : ℕ) × IsPlainCount grid mesh wishes count
plain_count_exists grid mesh wishes g m balanced long =
    let h = problem_exists grid mesh wishes g m balanced long in
    let cells = map unopened h.problem.parts in
    let begins = begins_exists h.problem h.is in
    let plain = plain_run_exists h.problem cells begins in (
      plain.0,
      record {
        problem = h.problem;
        cells = cells;
        quiet = plain.1;
        begins = begins;
        same_grid = h.same_grid;
        same_mesh = h.same_mesh;
        same_wishes = h.same_wishes;
        runs = plain.2;
      },
    )

module _ (c : Course) where
  abbrev p : Parameters
  p = c.parameters

  CountsPhases-one : (phases m n : ℕ) → CountsPhases c phases m → CountsPhases c phases n → m ≡ n
  CountsPhases-one zero m n a b = a ∙ sym b
  CountsPhases-one (suc phases) m n a b =
      let x = a.2 in
      let y = b.2 in
      let before : a.0 ≡ b.0 = CountsPhases-one phases a.0 b.0 a.1 b.1 in
      let same : x.state ≡ y.state = Runs-one c phases x.state y.state x.runs y.runs in
      let phase : ℕ = c.ended + suc phases in
      let moved : IsPlainCount p.grid y.state.state.leaves (phase_wishes p phase y.state.state) x.count =
      subst (λ (s : RunState). IsPlainCount p.grid s.state.leaves (phase_wishes p phase s.state) x.count) same x.plain in
      let counts : x.count ≡ y.count = IsPlainCount-one p.grid y.state.state.leaves (phase_wishes p phase y.state.state) x.count y.count moved y.plain in
      x.together ∙ (ap (λ k. a.0 + k) counts ∙ ap (λ k. k + y.count) before) ∙ sym y.together

  CountsPhases-exists : (phases : ℕ) (s : RunState) → Tiles p c.start.state.leaves → Runs c phases s → (n : ℕ) × CountsPhases c phases n
  CountsPhases-exists zero s start runs = (0, refl)
  CountsPhases-exists (suc phases) s start runs =
      let state : RunState = runs.0 in
      let tiles = Runs-Tiles c phases state start runs.1 in
      let mesh : List Cube = state.state.leaves in
      let phase : ℕ = c.ended + suc phases in
      let wishes : List Wish = phase_wishes p phase state.state in
      let plain = plain_count_exists p.grid mesh wishes start.domain tiles.mesh tiles.balanced (length-map mesh (wish_of phase p.criteria state.state)) in
      let before = CountsPhases-exists phases state start runs.1 in
      let more : CountsPhase c phases before.0 (before.0 + plain.0) = record {
        state = state;
        runs = runs.1;
        count = plain.0;
        plain = plain.1;
        together = refl;
      } in
      (before.0 + plain.0, (before.0, before.1, more))

  pub HandlesPlainly-one : (m n : ℕ) → HandlesPlainly c m → HandlesPlainly c n → m ≡ n
  HandlesPlainly-one m n a b = CountsPhases-one (phases_of c) m n a b

  pub HandlesPlainly-exists : (s : RunState) → Tiles p c.start.state.leaves → RunEnds c s None → (n : ℕ) × HandlesPlainly c n
  HandlesPlainly-exists s start (after_all runs none) = CountsPhases-exists (phases_of c) s start runs
  HandlesPlainly-exists s start (at_limit phases f below runs passes is) = absurd (none-some f is)
