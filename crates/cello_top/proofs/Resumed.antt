-- The run that goes on from a state that was read.
use Rattle.std.proofs.Common.{◌≡◌, ℕ, ◌+◌, ◌<◌, ◌≤◌, nat_lt, List, Ok, Err, Result, length, refl, sym, ap, ◌∙◌, subst, arith, ◌⊎◌, inl, inr}
use Rattle.std.specs.Prelude.{slice_index, IfErr, IfOk}
use Rattle.std.proofs.lemmas.Bool.{cases_lt, cond-true, cond-false, le-ltb, lt-ltb}
use Rattle.std.proofs.lemmas.List.{get_or-take}
use Rattle.adapt_core.specs.Cells.{AdaptProblem}
use Rattle.block_index.specs.Places.{Cube}
use Rattle.amount_ledger.specs.Ledgers.{LedgerState, restored_ledger}
use Rattle.block_fields.specs.States.{IsState, State, total}
use Rattle.checkpoint.specs.Reading.{HasFault, IsCheckpoint, ReadsAs, kept_depth, state_in}
use Rattle.checkpoint.specs.SavedStates.{AreZeroFrom, SavedState, saved}
use Rattle.initial_fill.specs.RootBlocks.{initial_state}
use Rattle.block_fields.specs.Blocks.{BlockState}
use Rattle.block_fields.specs.BlockStates.{AreBlocksOf}
use Rattle.params_check.specs.Bounds.{most_cycles}
use Rattle.params_check.proofs.NoFaults.{accepted-limits}
use Rattle.params_check.specs.Parameters.{IsParameters, Parameters, total_of}
use Rattle.leaf_set.specs.Tiling.{Tiling}
use Rattle.run_core.specs.CourseLimits.{IsCourse}
use Rattle.run_core.specs.Courses.{Course, going_on, totals_of}
use Rattle.run_core.specs.Runs.{blocks_state}
use Rattle.run_core.proofs.FieldLists.{for_each-at, for_each-same, of_fields-at, within}
use Rattle.restart_laws.proofs.KeptNumbers.{kept-same, of_four}
use Rattle.run_core.proofs.RunTotals.{initial-shown}
use Rattle.restart_laws.specs.Resumes.{gone_by, resumed}
use Rattle.leaf_set.specs.declared.leaf_fault.LeafFault.TheVariants as leaf_faults
use Rattle.checkpoint.specs.declared.fault.CheckFault.{CheckFault}
use Rattle.checkpoint.specs.declared.fault.CheckFault.TheVariants as check
use Rattle.run_report.specs.Actions.{restart_pieces}
use Rattle.run_report.specs.Outputs.{Output}
use Rattle.cello_top.specs.declared.fault.Fault.{Fault}
use Rattle.cello_top.specs.declared.fault.Fault.TheVariants.{Checkpoint, Memory}
use Rattle.cello_top.specs.Lemmas.CommandSteps.{RanWhole, RunningEnds}
use Rattle.cello_top.specs.Lemmas.Resuming.{GoesOnFrom, ResumingEnds, resuming_file, resuming_memory, resuming_run}

-- its course is within its limits
pub going_on-IsCourse : (p : Parameters) (cycle until : ℕ) (set : Tiling) (blocks : List BlockState) (ledger : LedgerState) → IsParameters p
    → GoesOnFrom p cycle set blocks ledger → until ≤ most_cycles → IsCourse (going_on p cycle (blocks_state p blocks) ledger.gone until)
going_on-IsCourse p cycle until set blocks ledger w from within =
    record {
      limits = w;
      start = record {
        state = from.state;
        grid = refl;
        edge = refl;
        fields = refl;
        totals = refl;
        together = subst (λ (l : LedgerState). (f : ℕ) → f < length p.fields → slice_index l.total f + slice_index l.gone f ≡ total (initial_state p) f)
            from.restored from.together;
      };
      ended = let few = from.within in omega (arith, few);
      last = within;
    }

-- The course of a state that a file keeps is within its limits.
pub resumed-IsCourse : (s : SavedState) (until : ℕ) → IsCheckpoint s → until ≤ most_cycles → IsCourse (resumed s until)
resumed-IsCourse s until sound within =
    let text_sound = sound.1.1.1.0 in
    let cycle_sound : s.cycle ≤ most_cycles = sound.1.1.1.1.0 in
    let state_sound : IsState (state_in s) = sound.1.1.1.1.1.1.1.0.0 in
    let totals_sound = sound.1.1.1.1.1.1.1.1.0 in
    let gone_sound = sound.1.1.1.1.1.1.1.1.1.0 in
    let p = s.params in
    let limits : IsParameters p = accepted-limits text_sound.groups p text_sound.limits text_sound.accepted in
    let few : length p.fields ≤ 4 = limits.few_fields in
    record {
      limits = limits;
      start = record {
        state = state_sound;
        grid = refl;
        edge = refl;
        fields = refl;
        totals = refl;
        together = λ f h.
            (let there = of_fields-at (state_in s) (total (state_in s)) f h (omega (arith, few, h)) in
            let left = for_each-at (λ k. slice_index s.gone k) f (omega (arith, few, h)) in
            let stated = totals_sound.sums f h in
            let balance = gone_sound.sums f h in
            let shown = initial-shown p f (total_of p f) h refl in
            let held = cond-true (nat_lt f (length p.fields)) (total (initial_state p) f) 0 (lt-ltb f (length p.fields) h) in
            omega (arith, there, left, stated, balance, shown, held));
      };
      ended = omega (arith, cycle_sound);
      last = within;
    }

-- the state of a file is that of the blocks that it was read into
module _ (p : Parameters) (cycle : ℕ) (set : Tiling) (blocks : List BlockState) (l : LedgerState)
    (are : AreBlocksOf set.places p.block (length p.fields) kept_depth blocks) where
  abbrev file_state : SavedState
  file_state = saved p cycle set.places blocks l

  state-same : state_in file_state ≡ blocks_state p blocks
  state-same =
      ap (λ (places : List Cube). state_in (record file_state { places = places })) (sym are.places)

  pub resumed-same : length l.gone ≡ 4 → AreZeroFrom (length p.fields) l.gone → (until : ℕ)
      → resumed file_state until ≡ going_on p cycle (blocks_state p blocks) l.gone until
  resumed-same four zeros until =
      ap (λ (s : State). going_on p cycle s (gone_by file_state) until) state-same
      ∙ ap (λ (gone : List ℕ). going_on p cycle (blocks_state p blocks) gone until) (kept-same (length p.fields) l.gone four zeros)

  -- a run can go on from there
  pub goes_on_from : (bytes : List ℕ) → ReadsAs bytes (Ok file_state) → set.grid ≡ p.grid → l ≡ restored_ledger l.total l.gone
      → length l.total ≡ 4 → AreZeroFrom (length p.fields) l.total → GoesOnFrom p cycle set blocks l
  goes_on_from bytes reads grid restored four zeros =
      let sound = reads.0 in
      let cycle_sound = sound.1.1.1.1.0 in
      let amounts_sound = sound.1.1.1.1.1.1.1.0 in
      let totals_sound = sound.1.1.1.1.1.1.1.1.0 in
      let gone_sound = sound.1.1.1.1.1.1.1.1.1.0 in
      let state : IsState (blocks_state p blocks) = subst IsState state-same amounts_sound.0 in
      let held : (f : ℕ) → f < length p.fields → slice_index l.total f ≡ total (blocks_state p blocks) f =
      λ f h. sym (get_or-take (length p.fields) l.total f 0 h) ∙ totals_sound.sums f h ∙ ap (λ (s : State). total s f) state-same in
      let totals : l.total ≡ totals_of (blocks_state p blocks) =
      of_four l.total four
      ∙ for_each-same (λ f. slice_index l.total f) (λ f. within (length p.fields) f (total (blocks_state p blocks) f))
      (λ f w. elim (cases_lt f (length p.fields)) [
        | inl below ↦ held f below ∙ sym (cond-true (nat_lt f (length p.fields)) (total (blocks_state p blocks) f) 0 (lt-ltb f (length p.fields) below))
        | inr above ↦ zeros f above ∙ sym (outside f above)
      ]) in
      let together : (f : ℕ) → f < length p.fields → slice_index l.total f + slice_index l.gone f ≡ total (initial_state p) f =
      λ f h.
      (let kept_total = get_or-take (length p.fields) l.total f 0 h in
      let kept_gone = get_or-take (length p.fields) l.gone f 0 h in
      let balance = gone_sound.sums f h in
      let shown = initial-shown p f (total_of p f) h refl in
      let there = cond-true (nat_lt f (length p.fields)) (total (initial_state p) f) 0 (lt-ltb f (length p.fields) h) in
      omega (arith, kept_total, kept_gone, balance, shown, there)) in
      record {
        grid = grid;
        blocks_are = are;
        state = state;
        restored = restored ∙ ap (λ (t : List ℕ). restored_ledger t l.gone) totals;
        together = together;
        within = cycle_sound;
      }
    where
      outside : (f : ℕ) → length p.fields ≤ f → within (length p.fields) f (total (blocks_state p blocks) f) ≡ 0
      outside f above = cond-false (nat_lt f (length p.fields)) (total (blocks_state p blocks) f) 0 (le-ltb f (length p.fields) above)

-- ---- how it ends

-- whether it was memory that a fault tells of
is_memory : (f : CheckFault) → (f ≡ check.Memory) ⊎ (f ≡ check.Memory → ⊥)
is_memory (check.Truncated at) = inr (λ e. cc)
is_memory check.Magic = inr (λ e. cc)
is_memory (check.Version found) = inr (λ e. cc)
is_memory check.Params = inr (λ e. cc)
is_memory (check.Cycle found) = inr (λ e. cc)
is_memory (check.Count found limit) = inr (λ e. cc)
is_memory (check.Word at) = inr (λ e. cc)
is_memory (check.Leaves fault) = inr (λ e. cc)
is_memory (check.Total field stated summed) = inr (λ e. cc)
is_memory (check.Balance field held initial) = inr (λ e. cc)
is_memory (check.Trailing at) = inr (λ e. cc)
is_memory check.Memory = inl refl

-- bytes that are no checkpoint, or for which there was no memory
pub unread-ends : (bytes : List ℕ) (until : ℕ) (before : Output) (f : CheckFault) (fault : Fault)
    → (f ≡ check.Memory) ⊎ ((f ≡ check.Leaves leaf_faults.Memory → ⊥) × HasFault bytes f)
    → (f ≡ check.Memory → fault ≡ Memory) → ((f ≡ check.Memory → ⊥) → fault ≡ Checkpoint f) → ResumingEnds bytes until before before fault
unread-ends bytes until before f fault (inl is) memory other = resuming_memory (memory is) refl
unread-ends bytes until before f fault (inr h) memory other =
    elim (is_memory f) [
      | inl is ↦ resuming_memory (memory is) refl
      | inr not ↦ resuming_file f h.1 not h.0 (other not) refl
    ]

module _ (p : Parameters) (cycle : ℕ) (set : Tiling) (blocks : List BlockState) (l : LedgerState)
    (are : AreBlocksOf set.places p.block (length p.fields) kept_depth blocks) (four : length l.gone ≡ 4) (zeros : AreZeroFrom (length p.fields) l.gone)
    (bytes : List ℕ) (reads : ReadsAs bytes (Ok (saved p cycle set.places blocks l))) (until : ℕ) (before after : Output) where
  course-same : going_on p cycle (blocks_state p blocks) l.gone until ≡ resumed (saved p cycle set.places blocks l) until
  course-same = sym (resumed-same p cycle set blocks l are four zeros until)

  pub read-whole : (counts : AdaptProblem → ℕ → Type 0) (r : Result ℕ Fault)
      → IfOk r (λ handled. RanWhole counts (restart_pieces cycle (length set.places)) (going_on p cycle (blocks_state p blocks) l.gone until) handled before after)
      → IfOk r (λ handled. (s : SavedState) × ReadsAs bytes (Ok s) × RanWhole counts (restart_pieces s.cycle (length s.places)) (resumed s until) handled before after)
  read-whole counts (Ok n) h = (
    saved p cycle set.places blocks l,
    reads,
    subst (λ (k : Course). RanWhole counts (restart_pieces cycle (length set.places)) k n before after) course-same h,
  )
  read-whole counts (Err f) h = tt

  pub read-ends : (r : Result ℕ Fault)
      → IfErr r (RunningEnds (restart_pieces cycle (length set.places)) (going_on p cycle (blocks_state p blocks) l.gone until) before after)
      → IfErr r (ResumingEnds bytes until before after)
  read-ends (Ok n) h = tt
  read-ends (Err f) h =
      resuming_run (saved p cycle set.places blocks l) reads
      (subst (λ (k : Course). RunningEnds (restart_pieces cycle (length set.places)) k before after f) course-same h)

-- first lines and a course that are the same
pub whole-same : (counts : AdaptProblem → ℕ → Type 0) (first count : ℕ) (c d : Course) (cycle : ℕ) (before after : Output) (r : Result ℕ Fault) → first ≡ count → c ≡ d
    → IfOk r (λ handled. RanWhole counts (restart_pieces cycle first) c handled before after) → IfOk r (λ handled. RanWhole counts (restart_pieces cycle count) d handled before after)
whole-same counts first count c d cycle before after r firsts courses h =
    subst (λ (k : Course). IfOk r (λ handled. RanWhole counts (restart_pieces cycle count) k handled before after)) courses
    (subst (λ n. IfOk r (λ handled. RanWhole counts (restart_pieces cycle n) c handled before after)) firsts h)

pub ends-same : (first count : ℕ) (c d : Course) (cycle : ℕ) (before after : Output) (r : Result ℕ Fault) → first ≡ count → c ≡ d
    → IfErr r (RunningEnds (restart_pieces cycle first) c before after) → IfErr r (RunningEnds (restart_pieces cycle count) d before after)
ends-same first count c d cycle before after r firsts courses h =
    subst (λ (k : Course). IfErr r (RunningEnds (restart_pieces cycle count) k before after)) courses
    (subst (λ n. IfErr r (RunningEnds (restart_pieces cycle n) c before after)) firsts h)
