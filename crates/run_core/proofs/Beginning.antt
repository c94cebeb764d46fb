-- A run before its first phase: from its beginning, or from another state.
use Rattle.std.proofs.Common.{◌≡◌, ℕ, ◌+◌, ◌-◌, ◌<◌, ◌≤◌, nat_lt, List, [], Option, None, Some, length, refl, sym, ap, ◌∙◌, subst, arith, inl, inr}
use Rattle.std.specs.Prelude.{slice_index}
use Rattle.std.proofs.lemmas.Bool.{cases_Bool, cond-true, cond-false, ltb-true, ltb-false}
use Rattle.block_index.specs.Places.{Cube}
use Rattle.leaf_set.specs.RootMesh.{root_mesh}
use Rattle.leaf_set.specs.Tiling.{Tiling}
use Rattle.block_fields.specs.States.{IsState, total}
use Rattle.initial_fill.specs.RootBlocks.{initial_state}
use Rattle.amount_ledger.specs.Ledgers.{LedgerState, first_ledger, restored_ledger}
use Rattle.params_check.specs.Bounds.{most_cycles}
use Rattle.params_check.specs.Parameters.{IsParameters, Parameters}
use Rattle.run_core.specs.declared.step.Stage.TheVariants.{Next}
use Rattle.run_core.specs.declared.step.Step.{Step}
use Rattle.run_core.specs.declared.step.Step.TheVariants.{Refresh, Ended}
use Rattle.run_core.specs.Courses.{Course, RunState, course_of, phases_of, run_start, run_state, totals_of, whole}
use Rattle.run_core.specs.CourseLimits.{IsCourse}
use Rattle.run_core.specs.Runs.{AreBlocksFor, blocks_state}
use Rattle.run_core.specs.Steps.{after_cycle_told, after_round}
use Rattle.run_core.specs.Works.{EndsIn, HasLedger, StandsAt}
use Rattle.run_core.specs.Lemmas.Keeping.{Hands, KeepsRun}
use Rattle.run_core.proofs.RunTotals.{whole-IsCourse}
use Rattle.run_core.proofs.TakenPhases.{by-round}

module _ (p : Parameters) (w : IsParameters p) (set : Tiling) (ledger : LedgerState) (hands : Hands) (step : Step) (grid : set.grid ≡ p.grid)
    (places : set.places ≡ root_mesh p.grid) (first : ledger ≡ first_ledger (totals_of (initial_state p))) (is_step : step ≡ after_round p.rounds 0)
    (blocks : AreBlocksFor p (root_mesh p.grid) hands.blocks) (state : blocks_state p hands.blocks ≡ initial_state p) where
  are : AreBlocksFor p set.places hands.blocks
  are = subst (λ (mesh : List Cube). AreBlocksFor p mesh hands.blocks) (sym places) blocks

  start : EndsIn (whole p) 0 (blocks_state p hands.blocks)
  start = record { run = run_start p; runs = refl; is = sym state }

  has : HasLedger (whole p) 0 ledger
  has = record { run = run_start p; runs = refl; is = sym first }

  at-step : KeepsRun (whole p) set ledger 0 (after_round p.rounds 0) Next hands
  at-step =
      by-round (λ k. KeepsRun (whole p) set ledger 0 k Next hands) p.rounds 0
      (λ last. record {
        limits = whole-IsCourse p w;
        grid = grid;
        stands = record { within = omega arith; state = blocks_state p hands.blocks; stands = start; ends_on = are.places };
        has_ledger = has;
        keeps = record { holds = record { are_blocks = are; stands = start } };
      })
      (λ other. record {
        limits = whole-IsCourse p w;
        grid = grid;
        stands = record { within = omega arith; state = blocks_state p hands.blocks; stands = start; ends_on = are.places };
        has_ledger = has;
        keeps = record { more = some other; holds = record { are_blocks = are; stands = start } };
      })
    where
      some : (0 ≡ p.rounds → ⊥) → 0 < phases_of (whole p)
      some other = omega (arith, other)

  pub begun-keeps : (last : ℕ) → last ≡ p.cycles → KeepsRun (course_of p 0 last None) set ledger 0 step Next hands
  begun-keeps last is =
      subst (λ n. KeepsRun (course_of p 0 n None) set ledger 0 step Next hands) (sym is)
      (subst (λ (k : Step). KeepsRun (whole p) set ledger 0 k Next hands) (sym is_step) at-step)

  pub begun-stands : (last : ℕ) → last ≡ p.cycles → StandsAt step (course_of p 0 last None) 0 set.places
  begun-stands last is = (begun-keeps last is).stands

-- A run that goes on from another state.
module _ (p : Parameters) (w : IsParameters p) (set : Tiling) (ledger : LedgerState) (hands : Hands) (cycle ended last : ℕ) (step : Step) (start : Option RunState)
    (grid : set.grid ≡ p.grid) (blocks : AreBlocksFor p set.places hands.blocks) (state : IsState (blocks_state p hands.blocks))
    (restored : ledger ≡ restored_ledger (totals_of (blocks_state p hands.blocks)) ledger.gone)
    (together : (f : ℕ) → f < length p.fields → slice_index ledger.total f + slice_index ledger.gone f ≡ total (initial_state p) f)
    (few : cycle ≤ most_cycles) (within : last ≤ most_cycles) (is_ended : ended ≡ p.rounds + cycle)
    (is_start : start ≡ Some (run_state (blocks_state p hands.blocks) ledger [])) (all : ℕ) (is_all : all ≡ p.rounds + last - ended)
    (is_step : step ≡ after_cycle_told 0 all) where
  abbrev given : RunState
  given = run_state (blocks_state p hands.blocks) ledger []

  abbrev course : Course
  course = course_of p ended last (Some given)

  course-limits : IsCourse course
  course-limits = record {
    limits = w;
    start = record {
      state = state;
      grid = refl;
      edge = refl;
      fields = refl;
      totals = ap (λ (l : LedgerState). l.total) restored;
      together = together;
    };
    ended = omega (arith, is_ended, few);
    last = within;
  }

  ends : EndsIn course 0 (blocks_state p hands.blocks)
  ends = record { run = given; runs = refl; is = refl }

  keeps-given : KeepsRun course set ledger 0 (after_cycle_told 0 (phases_of course)) Next hands
  keeps-given =
      elim (cases_Bool (nat_lt 0 (phases_of course))) [
        | inl t ↦
            subst (λ (k : Step). KeepsRun course set ledger 0 k Next hands) (sym (cond-true (nat_lt 0 (phases_of course)) Refresh Ended t))
            (record {
              limits = course-limits;
              grid = grid;
              stands = record { within = omega arith; state = blocks_state p hands.blocks; stands = ends; ends_on = blocks.places };
              has_ledger = record { run = given; runs = refl; is = refl };
              keeps = record { more = ltb-true 0 (phases_of course) t; holds = record { are_blocks = blocks; stands = ends } };
            })
        | inr none ↦
            subst (λ (k : Step). KeepsRun course set ledger 0 k Next hands) (sym (cond-false (nat_lt 0 (phases_of course)) Refresh Ended none))
            (record {
              limits = course-limits;
              grid = grid;
              stands = record { within = omega arith; state = blocks_state p hands.blocks; stands = ends; ends_on = blocks.places };
              has_ledger = record { run = given; runs = refl; is = refl };
              keeps = record { all = (let past = ltb-false 0 (phases_of course) none in omega (arith, past)) };
            })
      ]

  step-given : step ≡ after_cycle_told 0 (phases_of course)
  step-given = is_step ∙ ap (λ n. after_cycle_told 0 n) is_all

  -- whatever holds of the run that is given holds of the one that starts there
  moved : (P : Course → Step → Type 0) → P course (after_cycle_told 0 (phases_of course)) → P (course_of p ended last start) step
  moved P holds =
      subst (λ (s : Option RunState). P (course_of p ended last s) step) (sym is_start) (subst (λ (k : Step). P course k) (sym step-given) holds)

  pub resumed-keeps : KeepsRun (course_of p ended last start) set ledger 0 step Next hands
  resumed-keeps = moved (λ c k. KeepsRun c set ledger 0 k Next hands) keeps-given
