-- What a run keeps at each step, taken out and put back.
use Rattle.std.proofs.Common.{◌≡◌, ℕ, ◌+◌, ◌^◌, ◌<◌, ◌≤◌, List, length, sym, ap, ◌∙◌, subst}
use Rattle.leaf_set.specs.Tiling.{Tiling}
use Rattle.block_fields.specs.Blocks.{BlockState}
use Rattle.block_fields.specs.States.{IsState, State, total}
use Rattle.amount_ledger.specs.Ledgers.{LedgerState}
use Rattle.run_core.specs.declared.step.Stage.{Stage}
use Rattle.run_core.specs.declared.step.Stage.TheVariants.{Next, Out}
use Rattle.run_core.specs.declared.step.Step.{Step}
use Rattle.run_core.specs.declared.step.Step.TheVariants.{Refresh, Wishes, Adapt, RefreshAgain, Advance, Flux, Emit, Ended}
use Rattle.run_core.specs.Courses.{Course, RunState}
use Rattle.run_core.specs.CourseLimits.{IsCourse, KeepsTotals}
use Rattle.run_core.specs.Runs.{blocks_state}
use Rattle.run_core.specs.Works.{AdaptsTo, AreWithinLimits, EndsIn, IsStateAt, Standing, standing}
use Rattle.run_core.specs.Lemmas.Keeping.{Hands, KeepsAt, KeepsNext, KeepsOut, KeepsRun}
use Rattle.run_core.proofs.RunTotals.{Runs-keeps, between-keeps, total-most}

module _ (c : Course) (set : Tiling) (ledger : LedgerState) (phase : ℕ) (hands : Hands) (kind : Step) (stage : Stage) (s : Standing)
    (seen : standing c set ledger phase kind stage ≡ s) where
  pub seen-step : (at : Step) → s.step ≡ at → kind ≡ at
  seen-step at step = ap (λ (x : Standing). x.step) seen ∙ step

  pub seen-stage : (at : Stage) → s.stage ≡ at → stage ≡ at
  seen-stage at is = ap (λ (x : Standing). x.stage) seen ∙ is

  -- the run as it was seen, at a step that is known
  pub seen-here : (at : Step) → s.step ≡ at → s ≡ standing c set ledger phase at stage
  seen-here at step = sym seen ∙ ap (λ (k : Step). standing c set ledger phase k stage) (seen-step at step)

  pub kept-next : (at : Step) → s.stage ≡ Next → s.step ≡ at → KeepsRun c set ledger phase kind stage hands → KeepsNext at c phase set.places hands
  kept-next at next step keeps =
      subst (λ (k : Step). KeepsNext k c phase set.places hands) (seen-step at step)
      (subst (λ (g : Stage). KeepsAt g kind c phase set.places hands) (seen-stage Next next) keeps.keeps)

  pub kept-out : (at : Step) → s.stage ≡ Out → s.step ≡ at → KeepsRun c set ledger phase kind stage hands → KeepsOut at c phase set.places hands
  kept-out at out step keeps =
      subst (λ (k : Step). KeepsOut k c phase set.places hands) (seen-step at step)
      (subst (λ (g : Stage). KeepsAt g kind c phase set.places hands) (seen-stage Out out) keeps.keeps)

-- the same with other work in hand
pub keeps-with : (c : Course) (set : Tiling) (ledger : LedgerState) (phase : ℕ) (kind : Step) (stage other : Stage) (hands new : Hands)
    → KeepsRun c set ledger phase kind stage hands → KeepsAt other kind c phase set.places new → KeepsRun c set ledger phase kind other new
keeps-with c set ledger phase kind stage other hands new keeps with_new =
    record { limits = keeps.limits; grid = keeps.grid; stands = keeps.stands; has_ledger = keeps.has_ledger; keeps = with_new }

-- the state at each step is within the limits
module _ (c : Course) (w : IsCourse c) (phase : ℕ) (state : State) where
  record IsWithin : Type 0 where
    is : IsState state
    few : (f : ℕ) → f < length c.parameters.fields → total state f ≤ 2 ^ 40

  ended-within : EndsIn c phase state → IsWithin
  ended-within e =
      let keeps = Runs-keeps c w phase e.run e.runs in
      record {
        is = subst (λ (s : State). IsState s) e.is keeps.state;
        few = λ f h. subst (λ (s : State). total s f ≤ 2 ^ 40) e.is (total-most c.parameters w.limits e.run keeps f h);
      }

  adapted-within : AdaptsTo c phase state → IsWithin
  adapted-within e =
      let t : RunState = record { state = state; ledger = e.run.ledger; told = e.run.told } in
      let keeps : KeepsTotals c.parameters t =
      between-keeps c.parameters w.limits (c.ended + phase + 1) e.run state (Runs-keeps c w phase e.run e.runs) e.adapts in
      record { is = keeps.state; few = total-most c.parameters w.limits t keeps }

  within : (kind : Step) → IsStateAt kind c phase state → IsWithin
  within Refresh h = ended-within h
  within Wishes h = ended-within h
  within Adapt h = ended-within h
  within RefreshAgain h = adapted-within h
  within Advance h = adapted-within h
  within Flux h = adapted-within h
  within Emit h = ended-within h
  within Ended h = ended-within h

  pub state-is : (kind : Step) → IsStateAt kind c phase state → IsState state
  state-is kind h = (within kind h).is

  pub state-few : (kind : Step) → IsStateAt kind c phase state → (f : ℕ) → f < length c.parameters.fields → total state f ≤ 2 ^ 40
  state-few kind h = (within kind h).few

pub blocks-within : (c : Course) (w : IsCourse c) (phase : ℕ) (blocks : List BlockState) (kind : Step)
    → IsStateAt kind c phase (blocks_state c.parameters blocks) → AreWithinLimits c.parameters blocks
blocks-within c w phase blocks kind h =
    record { state = state-is c w phase (blocks_state c.parameters blocks) kind h; few = state-few c w phase (blocks_state c.parameters blocks) kind h }
