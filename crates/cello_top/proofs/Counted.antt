-- Messages that the adapt phases of a run handled, work by work.
use Rattle.std.proofs.Common.{◌≡◌, ℕ, zero, suc, ◌+◌, ◌==◌, Bool, true, false, cond, nat_lt, List, refl, sym, ap, ◌∙◌, subst, add-one, inl, inr}
use Rattle.block_index.specs.Places.{Cube, Grid}
use Rattle.block_index.specs.declared.wish.Wish.{Wish}
use Rattle.leaf_set.specs.Tiling.{Tiling}
use Rattle.block_fields.specs.States.{State}
use Rattle.amount_ledger.specs.Ledgers.{LedgerState}
use Rattle.adapt_core.specs.Cells.{LeafState, AdaptProblem}
use Rattle.adapt_core.specs.Problem.{mesh_of, wishes_of, problem_of}
use Rattle.run_core.specs.declared.step.Stage.TheVariants.{Next}
use Rattle.run_core.specs.declared.step.Step.{Step}
use Rattle.run_core.specs.declared.step.Step.TheVariants as step
use Rattle.run_core.specs.Courses.{Course, RunState, phases_of}
use Rattle.run_core.specs.PlainCounts.{CountsPhase, CountsPhases, HandlesPlainly, IsPlainCount}
use Rattle.run_core.specs.Runs.{phase_wishes}
use Rattle.run_core.specs.Steps.{adapts_at, after_cycle_told, after_round, phases_after, step_after}
use Rattle.run_core.specs.Works.{IsAdapt, IsEnd, IsRefreshStep, IsStateAt, Standing}
use Rattle.run_core.proofs.OneRun.{Runs-one}
use Rattle.run_core.proofs.RunPrefixes.{next_number}
use Rattle.crew.specs.Counts.{CountsPlainly}
use Rattle.cello_top.specs.Counts.{CountsPhaseBy, CountsPhasesBy, HandlesBy, IsCountedBy}
use Rattle.cello_top.specs.Lemmas.Engine.{Stands}

-- ---- first in, first out

phase-plainly : (c : Course) (phases before after : ℕ) → CountsPhaseBy CountsPlainly c phases before after → CountsPhase c phases before after
phase-plainly c phases before after h =
    let number : ℕ = c.ended + suc phases in
    let on_grid : IsPlainCount c.parameters.grid (mesh_of h.problem) (wishes_of h.problem) h.count =
    subst (λ (g : Grid). IsPlainCount g (mesh_of h.problem) (wishes_of h.problem) h.count) h.same_grid h.counted in
    let on_mesh : IsPlainCount c.parameters.grid h.state.state.leaves (wishes_of h.problem) h.count =
    subst (λ (mesh : List Cube). IsPlainCount c.parameters.grid mesh (wishes_of h.problem) h.count) h.same_mesh on_grid in
    record {
      state = h.state;
      runs = h.runs;
      count = h.count;
      plain = subst (λ (ws : List Wish). IsPlainCount c.parameters.grid h.state.state.leaves ws h.count) h.same_wishes on_mesh;
      together = h.together;
    }

phases-plainly : (c : Course) (phases handled : ℕ) → CountsPhasesBy CountsPlainly c phases handled → CountsPhases c phases handled
phases-plainly c zero handled h = h
phases-plainly c (suc phases) handled h = (h.0, phases-plainly c phases h.0 h.1, phase-plainly c phases h.0 handled h.2)

pub handles-plainly : (c : Course) (handled : ℕ) → HandlesBy CountsPlainly c handled → HandlesPlainly c handled
handles-plainly c handled h = phases-plainly c (phases_of c) handled h

-- ---- how many adapt phases have ended

none-round : (rounds : ℕ) → adapts_at (after_round rounds 0) 0 ≡ 0
none-round rounds = by-Bool (0 == rounds)
  where
    by-Bool : (b : Bool) → adapts_at (cond b step.Emit step.Refresh) 0 ≡ 0
    by-Bool true = refl
    by-Bool false = refl

cycle-ended : (phases all : ℕ) → adapts_at (after_cycle_told phases all) phases ≡ phases
cycle-ended phases all = by-Bool (nat_lt phases all)
  where
    by-Bool : (b : Bool) → adapts_at (cond b step.Refresh step.Ended) phases ≡ phases
    by-Bool true = refl
    by-Bool false = refl

pub none-first : (s : Standing) (rounds : ℕ) → s.step ≡ after_round rounds 0 → s.phase ≡ 0 → adapts_at s.step s.phase ≡ 0
none-first s rounds is phase =
    ap (λ (k : Step). adapts_at k s.phase) is ∙ ap (λ n. adapts_at (after_round rounds 0) n) phase ∙ none-round rounds

pub none-told : (s : Standing) (all : ℕ) → s.step ≡ after_cycle_told 0 all → s.phase ≡ 0 → adapts_at s.step s.phase ≡ 0
none-told s all is phase =
    ap (λ (k : Step). adapts_at k s.phase) is ∙ ap (λ n. adapts_at (after_cycle_told 0 all) n) phase ∙ cycle-ended 0 all

adapt-ended : (c : Course) (phases : ℕ) → adapts_at (step_after c phases step.Adapt) (phases_after c phases step.Adapt) ≡ phases + 1
adapt-ended c phases = by-Bools (nat_lt c.parameters.rounds (c.ended + phases + 1)) (c.ended + phases + 1 == c.parameters.rounds)
  where
    by-Bools : (b d : Bool) → adapts_at (cond b step.RefreshAgain (cond d step.Emit step.Refresh)) (cond b phases (phases + 1)) ≡ phases + 1
    by-Bools true d = refl
    by-Bools false true = refl
    by-Bools false false = refl

refresh-ended : (c : Course) (phases : ℕ) (kind : Step) → IsRefreshStep kind → adapts_at (step_after c phases kind) phases ≡ adapts_at kind phases
refresh-ended c phases kind (inl e) = subst (λ (k : Step). adapts_at (step_after c phases k) phases ≡ adapts_at k phases) (sym e) refl
refresh-ended c phases kind (inr e) = subst (λ (k : Step). adapts_at (step_after c phases k) phases ≡ adapts_at k phases) (sym e) refl

-- ---- what is counted then

module _ (counts : AdaptProblem → ℕ → Type 0) (s : Standing) where
  -- nothing yet
  pub counted-none : adapts_at s.step s.phase ≡ 0 → IsCountedBy counts s 0
  counted-none none =
      let nothing : CountsPhasesBy counts s.course 0 0 = refl in
      subst (λ k. CountsPhasesBy counts s.course k 0) (sym none) nothing

  -- all
  pub counted-all : IsEnd s → (n : ℕ) → IsCountedBy counts s n → HandlesBy counts s.course n
  counted-all end n h =
      subst (λ k. CountsPhasesBy counts s.course k n) (ap (λ (k : Step). adapts_at k s.phase) end.step ∙ end.all) h

  -- no adapt phase has ended
  module _ (u : Standing) where
    counted-same : u.course ≡ s.course → adapts_at u.step u.phase ≡ adapts_at s.step s.phase → (n : ℕ) → IsCountedBy counts s n → IsCountedBy counts u n
    counted-same same ended n h =
        subst (λ (c : Course). CountsPhasesBy counts c (adapts_at u.step u.phase) n) (sym same)
        (subst (λ k. CountsPhasesBy counts s.course k n) (sym ended) h)

    pub counted-refresh : IsRefreshStep s.step → u ≡ record s { step = step_after s.course s.phase s.step; stage = Next } → (n : ℕ) → IsCountedBy counts s n
        → IsCountedBy counts u n
    counted-refresh kind e =
        counted-same (ap (λ (x : Standing). x.course) e) (ap (λ (x : Standing). adapts_at x.step x.phase) e ∙ refresh-ended s.course s.phase s.step kind)

    pub counted-wishes : s.step ≡ step.Wishes → u ≡ record s { step = step.Adapt; stage = Next } → (n : ℕ) → IsCountedBy counts s n → IsCountedBy counts u n
    counted-wishes is e =
        counted-same (ap (λ (x : Standing). x.course) e)
        (ap (λ (x : Standing). adapts_at x.step x.phase) e ∙ sym (ap (λ (k : Step). adapts_at k s.phase) is))

    pub counted-advance : s.step ≡ step.Advance → u ≡ record s { step = step.Flux; stage = Next } → (n : ℕ) → IsCountedBy counts s n → IsCountedBy counts u n
    counted-advance is e =
        counted-same (ap (λ (x : Standing). x.course) e)
        (ap (λ (x : Standing). adapts_at x.step x.phase) e ∙ sym (ap (λ (k : Step). adapts_at k s.phase) is))

    pub counted-flux : (l : LedgerState) → s.step ≡ step.Flux → u ≡ record s { ledger = l; phase = s.phase + 1; step = step.Emit; stage = Next } → (n : ℕ)
        → IsCountedBy counts s n → IsCountedBy counts u n
    counted-flux l is e =
        counted-same (ap (λ (x : Standing). x.course) e)
        (ap (λ (x : Standing). adapts_at x.step x.phase) e ∙ sym (ap (λ (k : Step). adapts_at k s.phase) is))

    pub counted-emit : s.step ≡ step.Emit → u ≡ record s { step = step_after s.course s.phase step.Emit; stage = Next } → (n : ℕ) → IsCountedBy counts s n
        → IsCountedBy counts u n
    counted-emit is e =
        counted-same (ap (λ (x : Standing). x.course) e)
        (ap (λ (x : Standing). adapts_at x.step x.phase) e ∙ cycle-ended s.phase (phases_of s.course) ∙ sym (ap (λ (k : Step). adapts_at k s.phase) is))

    -- one has
    module _ (grid : Grid) (cells : List LeafState) (work : IsAdapt s grid cells) where
      asked-mesh : Stands s → s.set.places ≡ work.problem.wishes.run.state.leaves
      asked-mesh stands =
          let ends = subst (λ (k : Step). IsStateAt k s.course s.phase stands.state) work.step stands.stands in
          sym stands.ends_on
          ∙ ap (λ (x : State). x.leaves) (sym ends.is)
          ∙ ap (λ (r : RunState). r.state.leaves) (Runs-one s.course s.phase ends.run work.problem.wishes.run ends.runs work.problem.wishes.runs)

      pub counted-adapt : (set : Tiling) → s.set.grid ≡ s.course.parameters.grid → Stands s
          → u ≡ record s { set = set; phase = phases_after s.course s.phase step.Adapt; step = step_after s.course s.phase step.Adapt; stage = Next }
          → (n count shown : ℕ) → counts (problem_of grid cells) count → shown ≡ count → IsCountedBy counts s n → IsCountedBy counts u (n + shown)
      counted-adapt set on_grid stands e n count shown can is h =
          let asked = work.problem.wishes in
          let one : CountsPhaseBy counts s.course s.phase n (n + count) = record {
            state = asked.run;
            runs = asked.runs;
            problem = problem_of grid cells;
            cells = cells;
            begins = work.begins;
            same_grid = work.problem.grid ∙ on_grid;
            same_mesh = work.problem.places ∙ asked-mesh stands;
            same_wishes = asked.are ∙ ap (λ k. phase_wishes s.course.parameters k asked.run.state) (next_number s.course.ended s.phase);
            count = count;
            counted = can;
            together = refl;
          } in
          let before : CountsPhasesBy counts s.course s.phase n =
          subst (λ k. CountsPhasesBy counts s.course k n) (ap (λ (k : Step). adapts_at k s.phase) work.step) h in
          let all : CountsPhasesBy counts s.course (suc s.phase) (n + count) = (n, before, one) in
          let ended : adapts_at u.step u.phase ≡ suc s.phase = ap (λ (x : Standing). adapts_at x.step x.phase) e ∙ adapt-ended s.course s.phase ∙ add-one s.phase in
          subst (λ k. IsCountedBy counts u (n + k)) (sym is)
          (subst (λ (c : Course). CountsPhasesBy counts c (adapts_at u.step u.phase) (n + count)) (sym (ap (λ (x : Standing). x.course) e))
          (subst (λ k. CountsPhasesBy counts s.course k (n + count)) (sym ended) all))
