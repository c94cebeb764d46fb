-- An adapt phase that a run takes back: what it keeps then, what is told and how much was handled.
use Rattle.std.proofs.Common.{◌≡◌, ℕ, suc, ◌+◌, ◌<◌, ◌≤◌, ◌==◌, cond, nat_lt, List, [], ◌∷◌, ◌++◌, length, refl, sym, ap, ◌∙◌, subst, append-nil, add-one, arith, inl, inr}
use Rattle.std.proofs.lemmas.Bool.{cases_Bool, cond-true, cond-false, ltb-true, ltb-false, eq-eqb, eqb-true, eqb-false, ne_eqb}
use Rattle.block_index.specs.Places.{Cube}
use Rattle.block_index.specs.declared.wish.Wish.{Wish}
use Rattle.leaf_set.specs.Tiling.{Tiling}
use Rattle.block_fields.specs.Blocks.{BlockState}
use Rattle.block_fields.specs.States.{State}
use Rattle.amount_ledger.specs.Ledgers.{LedgerState}
use Rattle.params_check.specs.Parameters.{Parameters}
use Rattle.run_core.specs.declared.step.Stage.{Stage}
use Rattle.run_core.specs.declared.step.Stage.TheVariants.{Next, Out}
use Rattle.run_core.specs.declared.step.Step.{Step}
use Rattle.run_core.specs.declared.step.Step.TheVariants.{Refresh, Adapt, RefreshAgain, Emit}
use Rattle.run_core.specs.Courses.{Course, RunState, Told, cycle_after, cycle_ended, phase_ended, phases_of}
use Rattle.run_core.specs.CourseLimits.{IsCourse}
use Rattle.run_core.specs.PlainCounts.{CountsPhase, CountsPhases, IsPlainCount}
use Rattle.run_core.specs.Runs.{Adapts, AreBlocksFor, Runs, after_cycle, after_round, blocks_state, phase_wishes}
use Rattle.run_core.specs.Steps.{after_adapt, after_round as step_after_round, phases_after, step_after}
use Rattle.run_core.specs.Works.{AdaptsTo, AreNextWishes, AreWishes, HasLedger, IsCounted, IsTold, Standing, phase_of, standing}
use Rattle.run_core.specs.Lemmas.Keeping.{DuringAdapt, Hands, KeepsRun}
use Rattle.run_core.proofs.Keeping.{kept-out, seen-here}
use Rattle.run_core.proofs.OneRun.{Runs-one}
use Rattle.run_core.proofs.RunPrefixes.{Runs-step, next_number}

-- the number of a phase, from the phases that ended before it
pub number_after : (ended phase : ℕ) → ended + phase + 1 ≡ ended + (phase + 1)
number_after ended phase = omega arith

-- an adapt phase is an initial round or a cycle's
by-number : (P : ℕ → Step → Type 0) (rounds number phase : ℕ) → (rounds < number → P phase RefreshAgain) → (number ≤ rounds → P (phase + 1) (step_after_round rounds number))
    → P (cond (nat_lt rounds number) phase (phase + 1)) (after_adapt rounds number)
by-number P rounds number phase cycle round =
    elim (cases_Bool (nat_lt rounds number)) [
      | inl t ↦
          subst (λ n. P n (after_adapt rounds number)) (sym (cond-true (nat_lt rounds number) phase (phase + 1) t))
          (subst (λ (k : Step). P phase k) (sym (cond-true (nat_lt rounds number) RefreshAgain (step_after_round rounds number) t)) (cycle (ltb-true rounds number t)))
      | inr f ↦
          subst (λ n. P n (after_adapt rounds number)) (sym (cond-false (nat_lt rounds number) phase (phase + 1) f))
          (subst (λ (k : Step). P (phase + 1) k) (sym (cond-false (nat_lt rounds number) RefreshAgain (step_after_round rounds number) f)) (round (ltb-false rounds number f)))
    ]

pub by-round : (P : Step → Type 0) (rounds number : ℕ) → (number ≡ rounds → P Emit) → ((number ≡ rounds → ⊥) → P Refresh) → P (step_after_round rounds number)
by-round P rounds number last other =
    elim (cases_Bool (number == rounds)) [
      | inl t ↦ subst P (sym (cond-true (number == rounds) Emit Refresh t)) (last (eqb-true number rounds t))
      | inr f ↦ subst P (sym (cond-false (number == rounds) Emit Refresh f)) (other (eqb-false number rounds f))
    ]

-- ---- an adapt phase

module _ (c : Course) (w : IsCourse c) (set next_set : Tiling) (ledger : LedgerState) (phase : ℕ) (hands new : Hands) (grid : next_set.grid ≡ c.parameters.grid)
    (kept : DuringAdapt c phase set.places hands.blocks hands.wishes) (has : HasLedger c phase ledger) (are : AreBlocksFor c.parameters next_set.places new.blocks)
    (adapts : Adapts c.parameters (c.ended + phase + 1) (blocks_state c.parameters hands.blocks) (blocks_state c.parameters new.blocks)) where
  abbrev p : Parameters
  p = c.parameters

  abbrev number : ℕ
  number = c.ended + phase + 1

  abbrev between : State
  between = blocks_state p new.blocks

  abbrev run : RunState
  run = kept.holds.stands.run

  adapts-run : Adapts p number run.state between
  adapts-run = subst (λ (s : State). Adapts p number s between) (sym kept.holds.stands.is) adapts

  to : AdaptsTo c phase between
  to = record { run = run; runs = kept.holds.stands.runs; adapts = adapts-run }

  abbrev next : RunState
  next = after_round p number run between

  -- the run after an initial round
  Runs-round : number ≤ p.rounds → Runs c (phase + 1) next
  Runs-round few =
      elim (cases_Bool (nat_lt p.rounds number)) [
        | inl t ↦ (let more = ltb-true p.rounds number t in absurd (omega (arith, more, few)))
        | inr f ↦
            subst (λ (r : RunState). Runs c (phase + 1) r) (cond-false (nat_lt p.rounds number) (after_cycle p number run between) next f)
            (Runs-step c phase run between kept.holds.stands.runs adapts-run)
      ]

  ledger-kept : run.ledger ≡ ledger
  ledger-kept = ap (λ (r : RunState). r.ledger) (Runs-one c phase run has.run kept.holds.stands.runs has.runs) ∙ has.is

  keeps-cycle : p.rounds < number → KeepsRun c next_set ledger phase RefreshAgain Next new
  keeps-cycle more = record {
    limits = w;
    grid = grid;
    stands = record { within = (let left = kept.more in omega (arith, left)); state = between; stands = to; ends_on = are.places };
    has_ledger = has;
    keeps = record { cycle = record { more = kept.more; advances = more }; holds = record { are_blocks = are; stands = to } };
  }

  keeps-round : number ≤ p.rounds → KeepsRun c next_set ledger (phase + 1) (step_after_round p.rounds number) Next new
  keeps-round few =
      let left = kept.more in
      let within : phase + 1 ≤ phases_of c = omega (arith, left) in
      by-round (λ k. KeepsRun c next_set ledger (phase + 1) k Next new) p.rounds number
      (λ last. record {
        limits = w;
        grid = grid;
        stands = record { within = within; state = between; stands = record { run = next; runs = Runs-round few; is = refl }; ends_on = are.places };
        has_ledger = record { run = next; runs = Runs-round few; is = ledger-kept };
        keeps = record { holds = record { are_blocks = are; stands = record { run = next; runs = Runs-round few; is = refl } } };
      })
      (λ other. record {
        limits = w;
        grid = grid;
        stands = record { within = within; state = between; stands = record { run = next; runs = Runs-round few; is = refl }; ends_on = are.places };
        has_ledger = record { run = next; runs = Runs-round few; is = ledger-kept };
        keeps = record {
          more = more-left few other;
          holds = record { are_blocks = are; stands = record { run = next; runs = Runs-round few; is = refl } };
        };
      })
    where
      more-left : number ≤ p.rounds → (number ≡ p.rounds → ⊥) → phase + 1 < phases_of c
      more-left few other = omega (arith, few, other)

  pub keeps-adapted : KeepsRun c next_set ledger (phases_after c phase Adapt) (after_adapt p.rounds number) Next new
  keeps-adapted = by-number (λ n k. KeepsRun c next_set ledger n k Next new) p.rounds number phase keeps-cycle keeps-round

  -- what is told then
  abbrev TellsMore : Stage → List Told → ℕ → Step → Type 0
  TellsMore stage told n k =
      IsTold (standing c next_set ledger n k Next) (told ++ phase_ended (phase_of (standing c next_set ledger n k Next)) (length next_set.places) ∷ [])

  module _ (stage : Stage) (told : List Told) (t : IsTold (standing c set ledger phase Adapt stage) told) where
    same-run : t.run ≡ run
    same-run = Runs-one c phase t.run run t.runs kept.holds.stands.runs

    tells-cycle : p.rounds < number → TellsMore stage told phase RefreshAgain
    tells-cycle more = record { run = t.run; runs = t.runs; tells = ap (λ (l : List Told). l ++ phase_ended number (length next_set.places) ∷ []) t.tells }

    tells-phase : told ++ phase_ended (c.ended + (phase + 1)) (length next_set.places) ∷ [] ≡ run.told ++ phase_ended number (length between.leaves) ∷ []
    tells-phase =
        ap (λ (l : List Told). l ++ phase_ended (c.ended + (phase + 1)) (length next_set.places) ∷ []) (t.tells ∙ ap (λ (r : RunState). r.told) same-run)
        ∙ ap (λ n. run.told ++ phase_ended n (length next_set.places) ∷ []) (sym (number_after c.ended phase))
        ∙ ap (λ (places : List Cube). run.told ++ phase_ended number (length places) ∷ []) (sym are.places)

    tells-round : number ≤ p.rounds → TellsMore stage told (phase + 1) (step_after_round p.rounds number)
    tells-round few =
        let cycle_0 : List Told = cycle_ended 0 between run.ledger ∷ [] in
        let before : List Told = run.told ++ phase_ended number (length between.leaves) ∷ [] in
        by-round (TellsMore stage told (phase + 1)) p.rounds number
        (λ last. record {
          run = next;
          runs = Runs-round few;
          tells =
              ap (λ (l : List Told). before ++ l) (cond-true (number == p.rounds) cycle_0 [] (eq-eqb number p.rounds last))
              ∙ ap (λ (l : List Told). l ++ cycle_0) (sym tells-phase)
              ∙ ap (λ n. (told ++ phase_ended (c.ended + (phase + 1)) (length next_set.places) ∷ []) ++ cycle_ended n between run.ledger ∷ []) (none last);
        })
        (λ other. record {
          run = next;
          runs = Runs-round few;
          tells =
              tells-phase
              ∙ sym (append-nil before)
              ∙ ap (λ (l : List Told). before ++ l) (sym (cond-false (number == p.rounds) cycle_0 [] (ne_eqb number p.rounds other)));
        })
      where
        none : number ≡ p.rounds → 0 ≡ cycle_after p (c.ended + (phase + 1))
        none last = omega (arith, last)

    pub told-adapted : TellsMore stage told (phases_after c phase Adapt) (after_adapt p.rounds number)
    told-adapted = by-number (TellsMore stage told) p.rounds number phase tells-cycle tells-round

  -- and how many messages were handled
  module _ (stage : Stage) (wishes : List Wish) (asked : AreWishes c phase wishes) (handled count : ℕ) (counts : CountsPhases c phase handled)
      (plain : IsPlainCount p.grid set.places wishes count) where
    counts-more : CountsPhases c (phase + 1) (handled + count)
    counts-more =
        let here : IsPlainCount p.grid set.places (phase_wishes p number asked.run.state) count =
        subst (λ (ws : List Wish). IsPlainCount p.grid set.places ws count) asked.are plain in
        let mesh : set.places ≡ asked.run.state.leaves =
        sym kept.holds.are_blocks.places ∙ ap (λ (s : State). s.leaves) (sym kept.holds.stands.is)
        ∙ ap (λ (r : RunState). r.state.leaves) (Runs-one c phase run asked.run kept.holds.stands.runs asked.runs) in
        let there : IsPlainCount p.grid asked.run.state.leaves (phase_wishes p number asked.run.state) count =
        subst (λ (places : List Cube). IsPlainCount p.grid places (phase_wishes p number asked.run.state) count) mesh here in
        let more : CountsPhase c phase handled (handled + count) = record {
          state = asked.run;
          runs = asked.runs;
          count = count;
          plain = subst (λ n. IsPlainCount p.grid asked.run.state.leaves (phase_wishes p n asked.run.state) count) (next_number c.ended phase) there;
          together = refl;
        } in
        let all : CountsPhases c (suc phase) (handled + count) = (handled, counts, more) in
        subst (λ n. CountsPhases c n (handled + count)) (sym (add-one phase)) all

    pub counted-adapted : IsCounted (standing c next_set ledger (phases_after c phase Adapt) (after_adapt p.rounds number) Next) (handled + count)
    counted-adapted =
        by-number (λ n k. IsCounted (standing c next_set ledger n k Next) (handled + count)) p.rounds number phase (λ more. counts-more)
        (λ few. by-round (λ k. IsCounted (standing c next_set ledger (phase + 1) k Next) (handled + count)) p.rounds number (λ last. counts-more) (λ other. counts-more))

-- the same, where the run was seen as it stands
module _ (c : Course) (set next_set : Tiling) (ledger : LedgerState) (phase : ℕ) (hands new : Hands) (kind : Step) (stage : Stage) (s : Standing)
    (seen : standing c set ledger phase kind stage ≡ s) (out : s.stage ≡ Out) (step : s.step ≡ Adapt) (keeps : KeepsRun c set ledger phase kind stage hands)
    (grid : next_set.grid ≡ c.parameters.grid) (are : AreBlocksFor c.parameters next_set.places new.blocks) (numbered : ℕ)
    (adapts : Adapts c.parameters numbered (blocks_state c.parameters hands.blocks) (blocks_state c.parameters new.blocks))
    (is_number : numbered ≡ c.ended + phase + 1) (r r2 : ℕ) (is_r : r ≡ c.parameters.rounds) (is_r2 : r2 ≡ c.parameters.rounds) (new_phase : ℕ) (new_step : Step)
    (e : new_phase ≡ cond (nat_lt r numbered) phase (phase + 1)) (e2 : new_step ≡ after_adapt r2 numbered) where
  kept-here : DuringAdapt c phase set.places hands.blocks hands.wishes
  kept-here = kept-out c set ledger phase hands kind stage s seen Adapt out step keeps

  adapts-here : Adapts c.parameters (c.ended + phase + 1) (blocks_state c.parameters hands.blocks) (blocks_state c.parameters new.blocks)
  adapts-here = subst (λ n. Adapts c.parameters n (blocks_state c.parameters hands.blocks) (blocks_state c.parameters new.blocks)) is_number adapts

  phase-is : new_phase ≡ phases_after c phase Adapt
  phase-is =
      e ∙ ap (λ k. cond (nat_lt k numbered) phase (phase + 1)) is_r ∙ ap (λ n. cond (nat_lt c.parameters.rounds n) phase (phase + 1)) is_number

  step-is : new_step ≡ after_adapt c.parameters.rounds (c.ended + phase + 1)
  step-is = e2 ∙ ap (λ k. after_adapt k numbered) is_r2 ∙ ap (λ n. after_adapt c.parameters.rounds n) is_number

  seen-adapt : s ≡ standing c set ledger phase Adapt stage
  seen-adapt = seen-here c set ledger phase hands kind stage s seen Adapt step

  pub adapted-keeps : KeepsRun c next_set ledger new_phase new_step Next new
  adapted-keeps =
      subst (λ n. KeepsRun c next_set ledger n new_step Next new) (sym phase-is)
      (subst (λ (k : Step). KeepsRun c next_set ledger (phases_after c phase Adapt) k Next new) (sym step-is)
      (keeps-adapted c keeps.limits set next_set ledger phase hands new grid kept-here keeps.has_ledger are adapts-here))

  pub adapted-next : standing c next_set ledger new_phase new_step Next
      ≡ standing s.course next_set s.ledger (phases_after s.course s.phase Adapt) (step_after s.course s.phase Adapt) Next
  adapted-next =
      subst (λ (x : Standing). standing c next_set ledger new_phase new_step Next
      ≡ standing x.course next_set x.ledger (phases_after x.course x.phase Adapt) (step_after x.course x.phase Adapt) Next) seen
      (λ i. standing c next_set ledger (phase-is i) (step-is i) Next)

  pub adapted-told : (told : List Told) → IsTold s told
      → IsTold (standing c next_set ledger new_phase new_step Next) (told ++ phase_ended (phase_of (standing c next_set ledger new_phase new_step Next)) (length next_set.places) ∷ [])
  adapted-told told t =
      subst (λ n. IsTold (standing c next_set ledger n new_step Next) (told ++ phase_ended (phase_of (standing c next_set ledger n new_step Next)) (length next_set.places) ∷ [])) (sym phase-is)
      (subst (λ (k : Step). IsTold (standing c next_set ledger (phases_after c phase Adapt) k Next)
      (told ++ phase_ended (phase_of (standing c next_set ledger (phases_after c phase Adapt) k Next)) (length next_set.places) ∷ [])) (sym step-is)
      (told-adapted c keeps.limits set next_set ledger phase hands new grid kept-here keeps.has_ledger are adapts-here stage told
      (subst (λ (x : Standing). IsTold x told) seen-adapt t)))

  pub adapted-counted : (wishes : List Wish) → AreNextWishes s wishes → (handled count : ℕ) → IsCounted s handled
      → IsPlainCount s.course.parameters.grid s.set.places wishes count → IsCounted (standing c next_set ledger new_phase new_step Next) (handled + count)
  adapted-counted wishes asked handled count counts plain =
      subst (λ n. IsCounted (standing c next_set ledger n new_step Next) (handled + count)) (sym phase-is)
      (subst (λ (k : Step). IsCounted (standing c next_set ledger (phases_after c phase Adapt) k Next) (handled + count)) (sym step-is)
      (counted-adapted c keeps.limits set next_set ledger phase hands new grid kept-here keeps.has_ledger are adapts-here stage wishes
      (subst (λ (x : Standing). AreNextWishes x wishes) seen-adapt asked) handled count (subst (λ (x : Standing). IsCounted x handled) seen-adapt counts)
      (subst (λ (x : Standing). IsPlainCount x.course.parameters.grid x.set.places wishes count) seen-adapt plain)))

-- the blocks before the phase as they were taken out
pub adapts-kept : (p : Parameters) (phase : ℕ) (blocks shown new : List BlockState) → shown ≡ blocks → Adapts p phase (blocks_state p shown) (blocks_state p new)
    → Adapts p phase (blocks_state p blocks) (blocks_state p new)
adapts-kept p phase blocks shown new same adapts = subst (λ (bs : List BlockState). Adapts p phase (blocks_state p bs) (blocks_state p new)) same adapts
