-- How far a run is written, work by work.
use Rattle.std.proofs.Common.{◌≡◌, ℕ, ◌+◌, ◌⊎◌, List, [], ◌∷◌, ◌++◌, Option, Some, None, Result, Ok, Err, length, refl, sym, ap, ◌∙◌, subst, append_assoc, append-nil, arith, inl, inr}
use Rattle.std.specs.Prelude.{OnErr, OnOk}
use Rattle.std.proofs.lemmas.List.Concat.{flat_map-append}
use Rattle.block_index.specs.Places.{Cube}
use Rattle.leaf_set.specs.Tiling.{Tiling}
use Rattle.block_fields.specs.Blocks.{BlockState}
use Rattle.adapt_core.specs.Cells.{AdaptProblem}
use Rattle.amount_ledger.specs.Ledgers.{LedgerState}
use Rattle.cello_io.specs.declared.failed.Failed.{Failed}
use Rattle.params_check.specs.Parameters.{Parameters}
use Rattle.run_core.specs.declared.fault.RunFault.{RunFault}
use Rattle.run_core.specs.declared.fault.RunFault.TheVariants as faults
use Rattle.run_core.specs.declared.step.Stage.{Stage}
use Rattle.run_core.specs.CourseLimits.{IsCourse}
use Rattle.run_core.specs.Courses.{Course, RunState, Told, cycle_ended, phase_ended}
use Rattle.run_core.specs.Runs.{RunEnds, blocks_state}
use Rattle.run_core.specs.Steps.{adapts_at}
use Rattle.run_core.specs.Works.{IsEnd, IsTold, LimitEnds, Standing, cycle_of, phase_of}
use Rattle.run_core.proofs.PhaseMeshes.{course-Tiles}
use Rattle.run_core.proofs.RunExists.{run_exists}
use Rattle.run_core.proofs.RunPrefixes.{told-grew}
use Rattle.run_report.specs.Actions.{Action, actions_of, closing_piece, later_actions, report_actions}
use Rattle.run_report.specs.Outputs.{Acted, Output, StandsWithin, with_actions}
use Rattle.run_report.proofs.Prefixes.{with_actions-append, with_actions-nil, within-all, within-more, within-none, within-then}
use Rattle.cello_top.specs.declared.fault.Fault.{Fault}
use Rattle.cello_top.specs.declared.fault.Fault.TheVariants.{WriteFault, Memory}
use Rattle.cello_top.specs.Counts.{IsCountedBy}
use Rattle.cello_top.specs.Faults.{fault_of}
use Rattle.cello_top.specs.Lemmas.CommandSteps.{RanInPart, RanTo, RanWhole, RunningEnds, running_failed, running_limit, running_memory}
use Rattle.cello_top.specs.Lemmas.Engine.{Goes, Stands, Tells}
use Rattle.cello_top.proofs.Counted.{counted-all, counted-none}

-- ---- the actions of a run

report-append : (p : Parameters) (first more : List Told) → report_actions p (first ++ more) ≡ report_actions p first ++ report_actions p more
report-append p first more = flat_map-append (actions_of p) first more

report-one : (p : Parameters) (first : List Told) (t : Told) → report_actions p (first ++ t ∷ []) ≡ report_actions p first ++ actions_of p t
report-one p first t = report-append p first (t ∷ []) ∙ ap (λ (l : List Action). report_actions p first ++ l) (append-nil (actions_of p t))

-- what is written behind what is told
closing : List Cube → Option RunFault → List Action
closing leaves None = closing_piece leaves ∷ []
closing leaves (Some limit) = []

run-split : (p : Parameters) (told : List Told) (leaves : List Cube) (limit : Option RunFault) → later_actions p told leaves limit ≡ report_actions p told ++ closing leaves limit
unfolding closing
run-split p told leaves None = refl
run-split p told leaves (Some limit) = sym (append-nil (report_actions p told))

-- ---- parts of what a run writes

-- a run ends, and what is told of it begins with this
record EndsOn (c : Course) (told : List Told) : Type 0 where
  run : RunState
  limit : Option RunFault
  ends : RunEnds c run limit
  more : List Told
  grew : told ++ more ≡ run.told

-- so does what is told of a run where it stands
ends-on : (s : Standing) → IsCourse s.course → Stands s → (told : List Told) → IsTold s told → EndsOn s.course told
ends-on s w stands told is =
    let h = run_exists s.course (course-Tiles s.course w) in
    let grew = told-grew s.course s.set s.ledger s.phase s.stage told h.0 h.1 h.2 s.step stands is in
    record { run = h.0; limit = h.1; ends = h.2; more = grew.more; grew = sym grew.is }

part-of : (c : Course) (told : List Told) (before now : Output) → EndsOn c told → StandsWithin (report_actions c.parameters told) before now → RanInPart [] c before now
part-of c told before now e some =
    let p = c.parameters in
    let rest : List Action = report_actions p e.more ++ closing e.run.state.leaves e.limit in
    let all : report_actions p told ++ rest ≡ later_actions p e.run.told e.run.state.leaves e.limit =
    sym (append_assoc (report_actions p told) (report_actions p e.more) (closing e.run.state.leaves e.limit))
    ∙ ap (λ (l : List Action). l ++ closing e.run.state.leaves e.limit) (sym (report-append p told e.more) ∙ ap (report_actions p) e.grew)
    ∙ sym (run-split p e.run.told e.run.state.leaves e.limit) in
    record {
      state = e.run;
      limit = e.limit;
      ends = e.ends;
      part = subst (λ (l : List Action). StandsWithin l before now) all (within-more (report_actions p told) rest before now some);
    }

-- of a course that is within its limits, a beginning of the first lines was written
pub front-in_part : (front : List Action) (c : Course) → IsCourse c → (before now : Output) → StandsWithin front before now → RanInPart front c before now
front-in_part front c w before now some =
    let h = run_exists c (course-Tiles c w) in
    let later : List Action = later_actions c.parameters h.0.told h.0.state.leaves h.1 in
    record { state = h.0; limit = h.1; ends = h.2; part = within-more front later before now some }

-- a run that didn't begin
pub none-in_part : (front : List Action) (c : Course) → IsCourse c → (before : Output) → RanInPart front c before before
none-in_part front c w before = front-in_part front c w before before (within-none front before)

-- nothing is told yet
pub begin-told : (counts : AdaptProblem → ℕ → Type 0) (s : Standing) (now : Output) → IsTold s [] → adapts_at s.step s.phase ≡ 0 → Tells counts s 0 now now
begin-told counts s now told none = record { told = []; is = told; counted = counted-none counts s none; acted = sym (with_actions-nil now) }

-- what a run writes stands behind its first lines
module _ (front : List Action) (c : Course) (before mid now : Output) (wrote : mid ≡ with_actions before front) where
  behind-to : (limit : Option RunFault) → RanTo [] c limit mid now → RanTo front c limit before now
  behind-to limit h =
      let later : List Action = later_actions c.parameters h.state.told h.state.state.leaves limit in
      record {
        state = h.state;
        ends = h.ends;
        acted = h.acted ∙ ap (λ (o : Output). with_actions o later) wrote ∙ with_actions-append before front later;
      }

  behind-part : RanInPart [] c mid now → RanInPart front c before now
  behind-part h = record {
    state = h.state;
    limit = h.limit;
    ends = h.ends;
    part = within-then front (later_actions c.parameters h.state.told h.state.state.leaves h.limit) before mid now wrote h.part;
  }

  pub behind-whole : (counts : AdaptProblem → ℕ → Type 0) (n : ℕ) → RanWhole counts [] c n mid now → RanWhole counts front c n before now
  behind-whole counts n h = record { ran = behind-to None h.ran; counted = h.counted }

  pub behind-ends : (fault : Fault) → RunningEnds [] c mid now fault → RunningEnds front c before now fault
  behind-ends fault (running_limit limit is h) = running_limit limit is (behind-to (Some limit) h)
  behind-ends fault (running_failed is h) = running_failed is (behind-part h)
  behind-ends fault (running_memory is h) = running_memory is (behind-part h)

-- ---- of a run and where it stands before a work

module _ (counts : AdaptProblem → ℕ → Type 0) (s : Standing) (n : ℕ) (before mid : Output) (t : Tells counts s n before mid) where
  -- memory was refused
  pub told-memory : IsCourse s.course → Stands s → (fault : Fault) → fault ≡ Memory → RunningEnds [] s.course before mid fault
  told-memory w stands fault is =
      running_memory is (part-of s.course t.told before mid (ends-on s w stands t.told t.is)
      (within-all (report_actions s.course.parameters t.told) before mid t.acted))

  -- a limit or want of memory ended the run
  pub told-fault : IsCourse s.course → Stands s → (f : RunFault) (g : Fault) → g ≡ fault_of f → (f ≡ faults.Memory) ⊎ LimitEnds s f → RunningEnds [] s.course before mid g
  told-fault w stands f g is (inl memory) = told-memory w stands g (is ∙ ap fault_of memory)
  told-fault w stands f g is (inr limit) =
      let e = limit t.told t.is in
      running_limit f is (record {
        state = e.run;
        ends = e.ends;
        acted = t.acted ∙ ap (λ (l : List Told). with_actions before (report_actions s.course.parameters l)) (sym e.tells);
      })

  -- nothing more is told, and nothing was written
  pub told-same : (u : Standing) → u.course ≡ s.course → ((told : List Told) → IsTold s told → IsTold u told) → ((handled : ℕ) → IsCountedBy counts s handled → IsCountedBy counts u handled)
      → Tells counts u n before mid
  told-same u same goes keeps = record {
    told = t.told;
    is = goes t.told t.is;
    counted = keeps n t.counted;
    acted = t.acted ∙ ap (λ (c : Course). with_actions before (report_actions c.parameters t.told)) (sym same);
  }

  -- one thing more is told, and was written
  pub told-more : (u : Standing) (k : ℕ) (now : Output) (one : Told) → u.course ≡ s.course → IsTold u (t.told ++ one ∷ []) → IsCountedBy counts u k
      → now ≡ with_actions mid (actions_of s.course.parameters one) → Tells counts u k before now
  told-more u k now one same is counted wrote =
      let p = s.course.parameters in
      record {
        told = t.told ++ one ∷ [];
        is = is;
        counted = counted;
        acted = wrote
            ∙ ap (λ (o : Output). with_actions o (actions_of p one)) t.acted
            ∙ with_actions-append before (report_actions p t.told) (actions_of p one)
            ∙ ap (with_actions before) (sym (report-one p t.told one))
            ∙ ap (λ (c : Course). with_actions before (report_actions c.parameters (t.told ++ one ∷ []))) (sym same);
      }

  -- or a part of it was
  pub told-part : (u : Standing) → IsCourse s.course → Stands u → (now : Output) (one : Told) → u.course ≡ s.course → IsTold u (t.told ++ one ∷ [])
      → StandsWithin (actions_of s.course.parameters one) mid now → RanInPart [] s.course before now
  told-part u w stands now one same is some =
      let p = s.course.parameters in
      let e : EndsOn u.course (t.told ++ one ∷ []) = ends-on u (subst IsCourse (sym same) w) stands (t.told ++ one ∷ []) is in
      part-of s.course (t.told ++ one ∷ []) before now (subst (λ (c : Course). EndsOn c (t.told ++ one ∷ [])) same e)
      (subst (λ (l : List Action). StandsWithin l before now) (sym (report-one p t.told one))
      (within-then (report_actions p t.told) (actions_of p one) before mid now t.acted some))

  -- the closing list was written, or a part of it
  module _ (end : IsEnd s) (places : List Cube) (shown : places ≡ s.set.places) (now : Output) where
    leaves-end : places ≡ (end.ends t.told t.is).run.state.leaves
    leaves-end = shown ∙ sym (end.ends t.told t.is).leaves

    all-end : report_actions s.course.parameters t.told ++ closing_piece places ∷ []
        ≡ later_actions {L = RunFault} s.course.parameters (end.ends t.told t.is).run.told (end.ends t.told t.is).run.state.leaves None
    all-end =
        ap (λ (l : List Told). report_actions s.course.parameters l ++ closing_piece places ∷ []) (sym (end.ends t.told t.is).tells)
        ∙ ap (λ (l : List Cube). report_actions s.course.parameters (end.ends t.told t.is).run.told ++ closing_piece l ∷ []) leaves-end

    pub end-whole : now ≡ with_actions mid (closing_piece places ∷ []) → RanWhole counts [] s.course n before now
    end-whole wrote =
        let e = end.ends t.told t.is in
        record {
          ran = record {
            state = e.run;
            ends = e.ends;
            acted = wrote
                ∙ ap (λ (o : Output). with_actions o (closing_piece places ∷ [])) t.acted
                ∙ with_actions-append before (report_actions s.course.parameters t.told) (closing_piece places ∷ [])
                ∙ ap (with_actions before) all-end;
          };
          counted = counted-all counts s end n t.counted;
        }

    pub end-part : (fault : Fault) → fault ≡ WriteFault → StandsWithin (closing_piece places ∷ []) mid now → RunningEnds [] s.course before now fault
    end-part fault is some =
        let e = end.ends t.told t.is in
        running_failed is (record {
          state = e.run;
          limit = None;
          ends = e.ends;
          part = subst (λ (l : List Action). StandsWithin l before now) all-end
              (within-then (report_actions s.course.parameters t.told) (closing_piece places ∷ []) before mid now t.acted some);
        })

-- a work that handles no message
pub told-none : (counts : AdaptProblem → ℕ → Type 0) (s : Standing) (n : ℕ) (before now : Output) → Tells counts s n before now → Tells counts s (n + 0) before now
told-none counts s n before now t = let none : n ≡ n + 0 = omega arith in subst (λ k. Tells counts s k before now) none t

-- a work was given out
pub told-given : (counts : AdaptProblem → ℕ → Type 0) (s u : Standing) (g : Stage) (n : ℕ) (before now : Output) → u ≡ record s { stage = g } → ((told : List Told) → IsTold s told → IsTold u told)
    → Tells counts s n before now → Tells counts u n before now
told-given counts s u g n before now e goes t =
    told-same counts s n before now t u (ap (λ (x : Standing). x.course) e) goes (λ handled counted. subst (λ (x : Standing). IsCountedBy counts x handled) (sym e) counted)

-- a phase ran, and its line was written, or a part of it
phase-told : (u : Standing) (shown : Tiling) (number count : ℕ) → number ≡ phase_of u → count ≡ length shown.places → shown ≡ u.set
    → phase_ended number count ≡ phase_ended (phase_of u) (length u.set.places)
phase-told u shown number count numbered counted seen =
    ap (λ k. phase_ended k count) numbered ∙ ap (λ k. phase_ended (phase_of u) k) (counted ∙ ap (λ (x : Tiling). length x.places) seen)

module _ (counts : AdaptProblem → ℕ → Type 0) (s u : Standing) (n : ℕ) (before mid now : Output) (t : Tells counts s n before mid) (same : u.course ≡ s.course)
    (goes : (told : List Told) → IsTold s told → IsTold u (told ++ phase_ended (phase_of u) (length u.set.places) ∷ []))
    (shown : Tiling) (number count : ℕ) (numbered : number ≡ phase_of u) (counted : count ≡ length shown.places) (seen : shown ≡ u.set) where
  pub phase-whole : (k : ℕ) → IsCountedBy counts u k → now ≡ with_actions mid (actions_of s.course.parameters (phase_ended number count)) → Tells counts u k before now
  phase-whole k handled wrote =
      told-more counts s n before mid t u k now (phase_ended (phase_of u) (length u.set.places)) same (goes t.told t.is) handled
      (wrote ∙ ap (λ (x : Told). with_actions mid (actions_of s.course.parameters x)) (phase-told u shown number count numbered counted seen))

  pub phase-part : IsCourse s.course → Stands u → (fault : Fault) → fault ≡ WriteFault → StandsWithin (actions_of s.course.parameters (phase_ended number count)) mid now
      → RunningEnds [] s.course before now fault
  phase-part w stands fault is some =
      running_failed is (told-part counts s n before mid t u w stands now (phase_ended (phase_of u) (length u.set.places)) same (goes t.told t.is)
      (subst (λ (x : Told). StandsWithin (actions_of s.course.parameters x) mid now) (phase-told u shown number count numbered counted seen) some))

-- what a cycle tells was written, or a part of it
module _ (counts : AdaptProblem → ℕ → Type 0) (s u : Standing) (n : ℕ) (before mid now : Output) (t : Tells counts s n before mid) (same : u.course ≡ s.course) (blocks : List BlockState)
    (goes : (told : List Told) → IsTold s told → IsTold u (told ++ cycle_ended (cycle_of s) (blocks_state s.course.parameters blocks) s.ledger ∷ []))
    (q : Parameters) (seen : q ≡ s.course.parameters) (cycle : ℕ) (numbered : cycle ≡ cycle_of s) (ledger : LedgerState) (kept : ledger ≡ s.ledger) where
  cycle-told : actions_of q (cycle_ended cycle (blocks_state q blocks) ledger)
      ≡ actions_of s.course.parameters (cycle_ended (cycle_of s) (blocks_state s.course.parameters blocks) s.ledger)
  cycle-told =
      ap (λ (x : Parameters). actions_of x (cycle_ended cycle (blocks_state x blocks) ledger)) seen
      ∙ ap (λ k. actions_of s.course.parameters (cycle_ended k (blocks_state s.course.parameters blocks) ledger)) numbered
      ∙ ap (λ (l : LedgerState). actions_of s.course.parameters (cycle_ended (cycle_of s) (blocks_state s.course.parameters blocks) l)) kept

  pub cycle-whole : (r : Result (Unit {0}) Failed) → IsCountedBy counts u n → Acted (actions_of q (cycle_ended cycle (blocks_state q blocks) ledger)) mid now r
      → OnOk r (Tells counts u n before now)
  cycle-whole (Ok done) handled wrote =
      told-more counts s n before mid t u n now (cycle_ended (cycle_of s) (blocks_state s.course.parameters blocks) s.ledger) same (goes t.told t.is) handled
      (wrote ∙ ap (with_actions mid) cycle-told)
  cycle-whole (Err failed) handled some = tt

  pub cycle-part : IsCourse s.course → Stands u → (r : Result (Unit {0}) Failed) → Acted (actions_of q (cycle_ended cycle (blocks_state q blocks) ledger)) mid now r
      → OnErr r (RanInPart [] s.course before now)
  cycle-part w stands (Ok done) wrote = tt
  cycle-part w stands (Err failed) some =
      told-part counts s n before mid t u w stands now (cycle_ended (cycle_of s) (blocks_state s.course.parameters blocks) s.ledger) same (goes t.told t.is)
      (subst (λ (l : List Action). StandsWithin l mid now) cycle-told some)

-- the last work was done
pub whole-from : (counts : AdaptProblem → ℕ → Type 0) (s : Standing) (c : Course) (n : ℕ) (before now : Output) (went : Option ℕ) → went ≡ None → s.course ≡ c → Goes counts s n before now went
    → RanWhole counts [] c n before now
whole-from counts s c n before now went is same goes =
    subst (λ (x : Course). RanWhole counts [] x n before now) same (subst (λ (o : Option ℕ). Goes counts s n before now o) is goes)
