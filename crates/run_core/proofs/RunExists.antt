-- There is a run of each course whose start is a state on a mesh of its domain.
use Rattle.std.proofs.Common.{◌≡◌, ℕ, zero, suc, ◌+◌, ◌<◌, Bool, true, false, List, [], ◌∷◌, Option, Some, None, length, refl, sym, subst, arith, ◌⊎◌, inl, inr}
use Rattle.std.specs.Prelude.{slice_get}
use Rattle.std.proofs.lemmas.Bool.{cases_lt, cases_eq}
use Rattle.std.proofs.lemmas.Option.{same_Some}
use Rattle.block_index.specs.Places.{Cube, Grid, IsDomain}
use Rattle.block_index.specs.declared.wish.Wish.{Wish}
use Rattle.block_index.specs.declared.wish.Wish.TheVariants.{Coarsen, Stay, Refine}
use Rattle.leaf_set.specs.Meshes.{IsMesh, IsBalanced}
use Rattle.leaf_set.specs.NextMesh.{next_mesh}
use Rattle.leaf_set.proofs.LeastLevels.{least_exists}
use Rattle.leaf_set.proofs.NextMeshes.{next_mesh-IsMesh}
use Rattle.leaf_set.proofs.Balance.{next_mesh-IsBalanced}
use Rattle.block_fields.specs.Samples.{adapted}
use Rattle.block_fields.specs.States.{State}
use Rattle.params_check.specs.Parameters.{Parameters}
use Rattle.run_core.specs.declared.fault.RunFault.{RunFault}
use Rattle.run_core.specs.declared.fault.RunFault.TheVariants.{LevelLimit, BlockLimit}
use Rattle.run_core.specs.Courses.{Course, RunState, phases_of}
use Rattle.run_core.specs.Runs.{KeepsLevelLimit, Decides, Adapts, PassesLimit, PhasePasses, phase_wishes, of_level, of_blocks, RunSteps, Runs, RunEnds, after_all, after_step, at_limit}
use Rattle.run_core.proofs.PhaseMeshes.{Tiles, after_step-leaves}

true_cases : (b : Bool) → (b ≡ true) ⊎ (b ≡ true → ⊥)
true_cases true = inl refl
true_cases false = inr (λ e. cc)

refine_cases : (w : Option Wish) → (w ≡ Some Refine) ⊎ (w ≡ Some Refine → ⊥)
refine_cases None = inr (λ e. cc)
refine_cases (Some Coarsen) = inr (λ e. cc)
refine_cases (Some Stay) = inr (λ e. cc)
refine_cases (Some Refine) = inl refl

-- the first element of a list with a property of it and its position that can be decided
record FirstWith (Q : ℕ → Cube → Type 0) (mesh : List Cube) : Type 0 where
  i : ℕ
  place : Cube
  is : slice_get mesh i ≡ Some place
  has : Q i place
  none_before : (j : ℕ) (c : Cube) → j < i → slice_get mesh j ≡ Some c → Q j c → ⊥

find : (mesh : List Cube) (Q : ℕ → Cube → Type 0) → ((i : ℕ) (c : Cube) → Q i c ⊎ (Q i c → ⊥))
    → FirstWith Q mesh ⊎ ((j : ℕ) (c : Cube) → slice_get mesh j ≡ Some c → Q j c → ⊥)
find [] Q cases = inr (λ j c at has. cc)
find (a ∷ mesh) Q cases =
    elim (cases 0 a) [
      | inl has ↦ inl (record { i = 0; place = a; is = refl; has = has; none_before = λ j c below at q. absurd (omega arith) })
      | inr hasnt ↦
          elim (find mesh (λ i c. Q (suc i) c) (λ i c. cases (suc i) c)) [
            | inl h ↦
                inl (record {
                  i = suc h.i;
                  place = h.place;
                  is = h.is;
                  has = h.has;
                  none_before = λ j c below at q. before h hasnt j c below at q;
                })
            | inr none ↦ inr (λ j c at q. after hasnt none j c at q)
          ]
    ]
  where
    before : (h : FirstWith (λ i c. Q (suc i) c) mesh) → (Q 0 a → ⊥) → (j : ℕ) (c : Cube) → j < suc h.i → slice_get (a ∷ mesh) j ≡ Some c → Q j c → ⊥
    before h hasnt zero c below at q = hasnt (subst (Q 0) (sym (same_Some a c at)) q)
    before h hasnt (suc j) c below at q = h.none_before j c (omega arith) at q

    after : (Q 0 a → ⊥) → ((j : ℕ) (c : Cube) → slice_get mesh j ≡ Some c → Q (suc j) c → ⊥)
        → (j : ℕ) (c : Cube) → slice_get (a ∷ mesh) j ≡ Some c → Q j c → ⊥
    after hasnt none zero c at q = hasnt (subst (Q 0) (sym (same_Some a c at)) q)
    after hasnt none (suc j) c at q = none j c at q

module _ (p : Parameters) (g : IsDomain p.grid) where
  abbrev TooFine : List Wish → ℕ → Cube → Type 0
  TooFine wishes i c = (c.level ≡ p.grid.finest) × (slice_get wishes i ≡ Some Refine)

  too_fine_cases : (wishes : List Wish) (i : ℕ) (c : Cube) → TooFine wishes i c ⊎ (TooFine wishes i c → ⊥)
  too_fine_cases wishes i c =
      elim (cases_eq c.level p.grid.finest) [
        | inr n ↦ inr (λ h. n h.0)
        | inl finest ↦ elim (refine_cases (slice_get wishes i)) [ inr n ↦ inr (λ h. n h.1) | inl refine ↦ inl (finest, refine) ]
      ]

  level_limit_cases : (phase : ℕ) (mesh : List Cube) (wishes : List Wish)
      → KeepsLevelLimit p mesh wishes ⊎ ((fault : RunFault) × PassesLimit p phase mesh wishes fault)
  level_limit_cases phase mesh wishes =
      elim (true_cases p.strict) [
        | inr loose ↦ inl (λ strict i place a. loose strict)
        | inl strict ↦
            elim (find mesh (TooFine wishes) (too_fine_cases wishes)) [
              | inl h ↦
                  inr (
                    LevelLimit phase h.place,
                    of_level h.i h.place strict (record { leaf = h.is; finest = h.has.0; refine = h.has.1 })
                        (λ j c below a. h.none_before j c below a.leaf (a.finest, a.refine)) refl,
                  )
              | inr none ↦ inl (λ strict i place a. none i place a.leaf (a.finest, a.refine))
            ]
      ]

  record OneMore (before : List Cube) (wishes : List Wish) : Type 0 where
    levels : List ℕ
    decides : Decides p before wishes levels
    mesh : IsMesh p.grid (next_mesh before levels)
    balanced : IsBalanced p.grid (next_mesh before levels)

  one_more : (phase : ℕ) (before : List Cube) (wishes : List Wish) → IsMesh p.grid before → IsBalanced p.grid before
      → OneMore before wishes ⊎ ((fault : RunFault) × PassesLimit p phase before wishes fault)
  one_more phase before wishes m balanced =
      elim (level_limit_cases phase before wishes) [
        | inr passes ↦ inr passes
        | inl keeps ↦
            let grid : Grid = p.grid in
            let least = least_exists grid before wishes g m balanced in
            let levels : List ℕ = least.0 in
            let s = least.1.solves in
            elim (cases_lt p.max_blocks (length (next_mesh before levels))) [
              | inl many ↦
                  inr (
                    BlockLimit phase (length (next_mesh before levels)) p.max_blocks,
                    of_blocks levels keeps least.1 many refl,
                  )
              | inr fits ↦
                  inl (record {
                    levels = levels;
                    decides = record { level_limit = keeps; least = least.1; block_limit = fits };
                    mesh = next_mesh-IsMesh grid before levels g m s.one_each s.range s.lone s.siblings;
                    balanced = next_mesh-IsBalanced grid before levels g m s.range s.jump s.lone s.siblings;
                  })
            ]
      ]

module _ (c : Course) (start : Tiles c.parameters c.start.state.leaves) where
  record Ran (phases : ℕ) : Type 0 where
    run : RunState
    runs : Runs c phases run
    mesh : IsMesh c.parameters.grid run.state.leaves
    balanced : IsBalanced c.parameters.grid run.state.leaves

  record Stopped (bound : ℕ) : Type 0 where
    phases : ℕ
    run : RunState
    fault : RunFault
    below : phases < bound
    runs : Runs c phases run
    passes : PhasePasses c.parameters (c.ended + suc phases) run.state fault

  reached : (phases : ℕ) → Ran phases ⊎ Stopped phases
  reached zero = inl (record { run = c.start; runs = refl; mesh = start.mesh; balanced = start.balanced })
  reached (suc phases) =
      elim (reached phases) [
        | inr stopped ↦
            inr (record {
              phases = stopped.phases;
              run = stopped.run;
              fault = stopped.fault;
              below = omega (arith, stopped.below);
              runs = stopped.runs;
              passes = stopped.passes;
            })
        | inl before ↦
            let p : Parameters = c.parameters in
            let phase : ℕ = c.ended + suc phases in
            let s : RunState = before.run in
            elim (one_more p start.domain phase s.state.leaves (phase_wishes p phase s.state) before.mesh before.balanced) [
              | inr h ↦ inr (record { phases = phases; run = s; fault = h.0; below = omega arith; runs = before.runs; passes = h.1 })
              | inl more ↦
                  let after : State = adapted s.state more.levels in
                  let t : RunState = after_step p phase s after in
                  let adapts : Adapts p phase s.state after = record { levels = more.levels; decides = more.decides; next = refl } in
                  let step : RunSteps p phase s t = record { between = after; adapts = adapts; goes_on = refl } in
                  let same = sym (after_step-leaves p phase s after) in
                  inl (record {
                    run = t;
                    runs = (s, before.runs, step);
                    mesh = subst (λ (mesh : List Cube). IsMesh p.grid mesh) same more.mesh;
                    balanced = subst (λ (mesh : List Cube). IsBalanced p.grid mesh) same more.balanced;
                  })
            ]
      ]

  pub run_exists : (s : RunState) × (limit : Option RunFault) × RunEnds c s limit
  run_exists =
      elim (reached (phases_of c)) [
        | inl h ↦ (h.run, None, after_all h.runs refl)
        | inr h ↦ (h.run, Some h.fault, at_limit h.phases h.fault h.below h.runs h.passes refl)
      ]
