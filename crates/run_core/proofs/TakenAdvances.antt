-- An advance and a flux correction that a run takes back: what it keeps then, its ledger, and what is told.
use Rattle.std.proofs.Common.{◌≡◌, ℕ, ◌+◌, ◌^◌, ◌<◌, ◌≤◌, nat_lt, List, [], ◌∷◌, ◌++◌, length, refl, sym, ap, ◌∙◌, subst, arith, inl, inr}
use Rattle.std.specs.Prelude.{slice_index}
use Rattle.std.proofs.lemmas.Bool.{cases_Bool, cond-true, ltb-false}
use Rattle.block_index.specs.Places.{Cube}
use Rattle.leaf_set.specs.Tiling.{Tiling}
use Rattle.block_fields.specs.States.{State, total}
use Rattle.amount_ledger.specs.Ledgers.{LedgerState, fields_kept, later_ledger}
use Rattle.grid_fluxes.specs.BoundaryFlows.{out}
use Rattle.grid_fluxes.specs.Fluxes.{advanced}
use Rattle.grid_fluxes.specs.Upwind.{IsCourant, upwind}
use Rattle.grid_fluxes.proofs.UpwindFluxes.{total-upwind}
use Rattle.advect.specs.Flows.{flow_of}
use Rattle.flux_register.specs.Cells as flux
use Rattle.params_check.specs.Parameters.{Parameters}
use Rattle.run_core.specs.declared.step.Stage.{Stage}
use Rattle.run_core.specs.declared.step.Stage.TheVariants.{Next, Out}
use Rattle.run_core.specs.declared.step.Step.{Step}
use Rattle.run_core.specs.declared.step.Step.TheVariants.{Advance, Flux, Emit}
use Rattle.run_core.specs.Courses.{Course, RunState, Told, cycle_after, cycle_ended, outflow, phase_ended}
use Rattle.run_core.specs.CourseLimits.{IsCourse}
use Rattle.run_core.specs.Runs.{AreBlocksFor, Runs, after_cycle, after_round, blocks_state}
use Rattle.run_core.specs.Works.{AreAdvancedAt, AreNextAdvanced, HasLedger, IsFluxAt, IsNextFlux, IsTold, Standing, StandsAt, standing}
use Rattle.run_core.specs.Lemmas.Keeping.{Hands, InCycle, KeepsRun}
use Rattle.run_core.proofs.FieldLists.{for_each-at, within, within-most}
use Rattle.run_core.proofs.Keeping.{kept-out, seen-here, seen-step, state-few}
use Rattle.run_core.proofs.OneRun.{Runs-one}
use Rattle.run_core.proofs.RunPrefixes.{Runs-step}
use Rattle.run_core.proofs.RunTotals.{Runs-keeps, between-keeps, courant}
use Rattle.run_core.proofs.TakenPhases.{number_after}

-- ---- the flux correction

module _ (c : Course) (w : IsCourse c) (set : Tiling) (ledger : LedgerState) (phase : ℕ) (grid : set.grid ≡ c.parameters.grid) (kept : InCycle c phase)
    (has : HasLedger c phase ledger) (problem : flux.FluxProblem) (is : IsFluxAt Flux c phase set.places problem) where
  abbrev q : Parameters
  q = c.parameters

  abbrev count : ℕ
  count = c.ended + phase + 1

  abbrev old : State
  old = flux.state_in problem

  abbrev before : RunState
  before = is.stands.run

  abbrev fluxed : RunState
  fluxed = after_cycle q count before old

  Runs-cycle : Runs c (phase + 1) fluxed
  Runs-cycle =
      elim (cases_Bool (nat_lt q.rounds count)) [
        | inl t ↦
            subst (λ (r : RunState). Runs c (phase + 1) r) (cond-true (nat_lt q.rounds count) fluxed (after_round q count before old) t)
            (Runs-step c phase before old is.stands.runs is.stands.adapts)
        | inr f ↦ (let few = ltb-false q.rounds count f in let more = kept.advances in absurd (omega (arith, few, more)))
      ]

  ledger-before : before.ledger ≡ ledger
  ledger-before = ap (λ (r : RunState). r.ledger) (Runs-one c phase before has.run is.stands.runs has.runs) ∙ has.is

  -- no more leaves than there is
  pub out-held : (left : List ℕ) → left ≡ outflow q old → (f : ℕ) → f < fields_kept → slice_index left f ≤ slice_index ledger.total f
  out-held left same f h =
      let keeps = between-keeps q w.limits count before old (Runs-keeps c w phase before is.stands.runs) is.stands.adapts in
      let slow : IsCourant (flow_of q) old.grid.finest = subst (λ grid. IsCourant (flow_of q) grid.finest) (sym keeps.grid) (courant q w.limits) in
      let a = ap (λ (l : List ℕ). slice_index l f) same ∙ for_each-at (λ k. within old.fields k (out old (upwind old (flow_of q)) k)) f h in
      let b = ap (λ (l : List ℕ). slice_index l f) (ap (λ (l : LedgerState). l.total) (sym ledger-before) ∙ keeps.totals)
      ∙ for_each-at (λ k. within old.fields k (total old k)) f h in
      let less = within-most old.fields f (out old (upwind old (flow_of q)) f) (total old f)
      (λ known. (let sum = total-upwind old (flow_of q) f keeps.state known slow in omega (arith, sum))) in
      omega (arith, a, b, less)

  module _ (later : LedgerState) (left : List ℕ) (new : Hands) (same : left ≡ outflow q old) (stepped : later ≡ later_ledger ledger left)
      (are : AreBlocksFor q old.leaves new.blocks) (state : blocks_state q new.blocks ≡ advanced old (upwind old (flow_of q))) where
    ledger-after : fluxed.ledger ≡ later
    ledger-after =
        ap (λ (l : LedgerState). later_ledger l (outflow q old)) ledger-before ∙ ap (λ (l : List ℕ). later_ledger ledger l) (sym same) ∙ sym stepped

    pub keeps-fluxed : KeepsRun c set later (phase + 1) Emit Next new
    keeps-fluxed = record {
      limits = w;
      grid = grid;
      stands = record {
        within = (let more = kept.more in omega (arith, more));
        state = fluxed.state;
        stands = record { run = fluxed; runs = Runs-cycle; is = refl };
        ends_on = is.places;
      };
      has_ledger = record { run = fluxed; runs = Runs-cycle; is = ledger-after };
      keeps = record {
        holds = record {
          are_blocks = subst (λ (places : List Cube). AreBlocksFor q places new.blocks) is.places are;
          stands = record { run = fluxed; runs = Runs-cycle; is = sym state };
        };
      };
    }

  pub told-fluxed : (later : LedgerState) (stage : Stage) (told : List Told) → IsTold (standing c set ledger phase Flux stage) told
      → IsTold (standing c set later (phase + 1) Emit Next) told
  told-fluxed later stage told t =
      let ended : Told = cycle_ended (cycle_after q count) fluxed.state fluxed.ledger in
      let phases : told ≡ before.told ++ phase_ended count (length old.leaves) ∷ [] =
      t.tells
      ∙ ap (λ (r : RunState). r.told ++ phase_ended count (length set.places) ∷ []) (Runs-one c phase t.run before t.runs is.stands.runs)
      ∙ ap (λ (places : List Cube). before.told ++ phase_ended count (length places) ∷ []) (sym is.places) in
      record {
        run = fluxed;
        runs = Runs-cycle;
        tells =
            ap (λ (l : List Told). l ++ ended ∷ []) (sym phases)
            ∙ ap (λ n. told ++ cycle_ended (cycle_after q n) fluxed.state fluxed.ledger ∷ []) (number_after c.ended phase);
      }

-- the same, where the run was seen as it stands
module _ (c : Course) (set : Tiling) (ledger later : LedgerState) (phase : ℕ) (hands new : Hands) (kind : Step) (stage : Stage) (s : Standing)
    (seen : standing c set ledger phase kind stage ≡ s) (out_now : s.stage ≡ Out) (step : s.step ≡ Flux) (keeps : KeepsRun c set ledger phase kind stage hands)
    (problem : flux.FluxProblem) (is : IsNextFlux s problem) where
  kept-cycle : InCycle c phase
  kept-cycle = kept-out c set ledger phase hands kind stage s seen Flux out_now step keeps

  seen-flux : s ≡ standing c set ledger phase Flux stage
  seen-flux = seen-here c set ledger phase hands kind stage s seen Flux step

  is-here : IsFluxAt Flux c phase set.places problem
  is-here = subst (λ (x : Standing). IsNextFlux x problem) seen-flux is

  pub fluxed-few : (f : ℕ) → f < length c.parameters.fields → total (flux.state_in problem) f ≤ 2 ^ 40
  fluxed-few = state-few c keeps.limits phase (flux.state_in problem) Flux is-here.stands

  pub fluxed-held : (left : List ℕ) → left ≡ outflow c.parameters (flux.state_in problem) → (f : ℕ) → f < fields_kept
      → slice_index left f ≤ slice_index ledger.total f
  fluxed-held = out-held c keeps.limits set ledger phase keeps.grid kept-cycle keeps.has_ledger problem is-here

  pub fluxed-keeps : (left : List ℕ) → left ≡ outflow c.parameters (flux.state_in problem) → later ≡ later_ledger ledger left
      → AreBlocksFor c.parameters (flux.state_in problem).leaves new.blocks
      → blocks_state c.parameters new.blocks ≡ advanced (flux.state_in problem) (upwind (flux.state_in problem) (flow_of c.parameters))
      → KeepsRun c set later (phase + 1) Emit Next new
  fluxed-keeps left same stepped are state =
      keeps-fluxed c keeps.limits set ledger phase keeps.grid kept-cycle keeps.has_ledger problem is-here later left new same stepped are state

  pub fluxed-told : (told : List Told) → IsTold s told → IsTold (standing c set later (phase + 1) Emit Next) told
  fluxed-told told t =
      told-fluxed c keeps.limits set ledger phase keeps.grid kept-cycle keeps.has_ledger problem is-here later stage told
      (subst (λ (x : Standing). IsTold x told) seen-flux t)

-- ---- an advance

pub advance-keeps-run : (c : Course) (set : Tiling) (ledger : LedgerState) (phase : ℕ) (hands new : Hands) (kind : Step) (stage : Stage) (s : Standing)
    → standing c set ledger phase kind stage ≡ s → s.stage ≡ Out → s.step ≡ Advance → KeepsRun c set ledger phase kind stage hands
    → AreNextAdvanced s new.blocks new.faces → KeepsRun c set ledger phase Flux Next new
advance-keeps-run c set ledger phase hands new kind stage s seen out_now step keeps advanced =
    let kept : InCycle c phase = kept-out c set ledger phase hands kind stage s seen Advance out_now step keeps in
    let here : s ≡ standing c set ledger phase Advance stage = seen-here c set ledger phase hands kind stage s seen Advance step in
    let made : AreAdvancedAt Advance c phase set.places new.blocks new.faces = subst (λ (x : Standing). AreNextAdvanced x new.blocks new.faces) here advanced in
    let stands : StandsAt Advance c phase set.places =
    subst (λ (k : Step). StandsAt k c phase set.places) (seen-step c set ledger phase hands kind stage s seen Advance step) keeps.stands in
    record {
      limits = keeps.limits;
      grid = keeps.grid;
      stands = record { within = stands.within; state = stands.state; stands = stands.stands; ends_on = stands.ends_on };
      has_ledger = keeps.has_ledger;
      keeps = record {
        cycle = kept;
        advanced = record {
          befores = made.befores;
          holds = record { are_blocks = made.holds.are_blocks; stands = made.holds.stands };
          around = made.around;
          advanced = made.advanced;
        };
      };
    }
