-- The meshes of a run.
use Rattle.std.proofs.Common.{◌≡◌, ℕ, zero, suc, ◌+◌, nat_lt, List, sym, ap, ◌∙◌, subst, inl, inr}
use Rattle.std.proofs.lemmas.Bool.{cases_Bool, cond-true, cond-false}
use Rattle.block_index.specs.Places.{Cube, IsDomain}
use Rattle.leaf_set.specs.LevelChanges.{Overlap, DifferByAtMostOne}
use Rattle.leaf_set.specs.Meshes.{IsBalanced, IsLeaf, IsMesh}
use Rattle.leaf_set.specs.NextMesh.{next_mesh}
use Rattle.leaf_set.specs.Tiling.{IsTiling}
use Rattle.leaf_set.proofs.Balance.{next_mesh-IsBalanced}
use Rattle.leaf_set.proofs.LevelChanges.{Overlap-DifferByAtMostOne}
use Rattle.leaf_set.proofs.NextMeshes.{next_mesh-IsMesh}
use Rattle.leaf_set.proofs.Origins.{Origin-next_mesh}
use Rattle.leaf_set.proofs.RootMeshes.{root_mesh-IsMesh, root_mesh-IsBalanced}
use Rattle.block_fields.specs.States.{State}
use Rattle.params_check.specs.Parameters.{Parameters}
use Rattle.run_core.specs.Courses.{Course, RunState, whole}
use Rattle.run_core.specs.CourseLimits.{IsCourse}
use Rattle.run_core.specs.Runs.{Adapts, Runs, after_cycle, after_round, after_step}

abbrev pub Tiles : Parameters → List Cube → Type 0
Tiles p mesh = IsTiling (record { grid = p.grid; places = mesh })

pub adapted-Tiles : (p : Parameters) (phase : ℕ) (before after : State) → Tiles p before.leaves → Adapts p phase before after → Tiles p after.leaves
adapted-Tiles p phase before after tiles adapts =
    let grid = p.grid in
    let levels = adapts.levels in
    let s = adapts.decides.least.solves in
    let next : Tiles p (next_mesh before.leaves levels) = record {
      domain = tiles.domain;
      mesh = next_mesh-IsMesh grid before.leaves levels tiles.domain tiles.mesh s.one_each s.range s.lone s.siblings;
      balanced = next_mesh-IsBalanced grid before.leaves levels tiles.domain tiles.mesh s.range s.jump s.lone s.siblings;
    } in
    subst (λ (t : State). Tiles p t.leaves) (sym adapts.next) next

-- the state after a phase stands on the mesh that its adapt phase led to
pub after_step-leaves : (p : Parameters) (phase : ℕ) (s : RunState) (between : State) → (after_step p phase s between).state.leaves ≡ between.leaves
after_step-leaves p phase s between =
    elim (cases_Bool (nat_lt p.rounds phase)) [
      | inl t ↦ ap (λ (r : RunState). r.state.leaves) (cond-true (nat_lt p.rounds phase) (after_cycle p phase s between) (after_round p phase s between) t)
      | inr f ↦ ap (λ (r : RunState). r.state.leaves) (cond-false (nat_lt p.rounds phase) (after_cycle p phase s between) (after_round p phase s between) f)
    ]

pub Runs-Tiles : (c : Course) (phases : ℕ) (run : RunState) → Tiles c.parameters c.start.state.leaves → Runs c phases run → Tiles c.parameters run.state.leaves
Runs-Tiles c zero run start runs = subst (λ (t : RunState). Tiles c.parameters t.state.leaves) (sym runs) start
Runs-Tiles c (suc phases) run start runs =
    let phase = c.ended + suc phases in
    let step = runs.2 in
    let between : Tiles c.parameters step.between.leaves =
    adapted-Tiles c.parameters phase runs.0.state step.between (Runs-Tiles c phases runs.0 start runs.1) step.adapts in
    let same : run.state.leaves ≡ step.between.leaves =
    ap (λ (t : RunState). t.state.leaves) step.goes_on ∙ after_step-leaves c.parameters phase runs.0 step.between in
    subst (λ (mesh : List Cube). Tiles c.parameters mesh) (sym same) between

-- the run of parameters begins on the roots
pub whole-Tiles : (p : Parameters) → IsDomain p.grid → Tiles p (whole p).start.state.leaves
whole-Tiles p is = record { domain = is; mesh = root_mesh-IsMesh p.grid is; balanced = root_mesh-IsBalanced p.grid }

-- so does each course within its limits
pub course-Tiles : (c : Course) → IsCourse c → Tiles c.parameters c.start.state.leaves
course-Tiles c w = record {
  domain = w.limits.domain;
  mesh = subst (λ grid. IsMesh grid c.start.state.leaves) w.start.grid w.start.state.mesh;
  balanced = subst (λ grid. IsBalanced grid c.start.state.leaves) w.start.grid w.start.state.balanced;
}

pub Adapts-levels : (p : Parameters) (phase : ℕ) (before after : State) (a c : Cube) → IsDomain p.grid → Tiles p before.leaves
    → Adapts p phase before after → IsLeaf before.leaves a → IsLeaf after.leaves c → Overlap a c → DifferByAtMostOne a c
Adapts-levels p phase before after a c is tiles adapts old new over =
    let grid = p.grid in
    let levels = adapts.levels in
    let s = adapts.decides.least.solves in
    let mesh = before.leaves in
    let next : IsLeaf (next_mesh mesh levels) c = subst (λ (t : State). IsLeaf t.leaves c) adapts.next new in
    Overlap-DifferByAtMostOne grid mesh levels tiles.domain tiles.mesh old.0 a c old.1
    (Origin-next_mesh grid mesh levels s.range s.lone s.siblings c next) over
