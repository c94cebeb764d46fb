-- What a run's checkpoints keep is a state that a file may keep.
use Rattle.std.proofs.Common.{◌≡◌, ℕ, zero, suc, ◌+◌, ◌^◌, ◌<◌, ◌≤◌, nat_lt, List, [], ◌∷◌, All, length, map, sum, sum_by, take, refl, sym, ap, ◌∙◌, subst, length-take-le, arith, inl, inr}
use Rattle.std.specs.Prelude.{slice_index, slice_index_or}
use Rattle.std.specs.List.{flat_map}
use Rattle.std.proofs.lemmas.Bool.{cases_Bool, cases_lt, cond-true, cond-false, lt-ltb, ltb-true}
use Rattle.std.proofs.lemmas.List.{get_or-take}
use Rattle.std.proofs.lemmas.List.Elements.{All-append, All-cons, All-head, All-nil, All-tail, All-take}
use Rattle.std.proofs.lemmas.List.FromFn.{length-map-range_with_len}
use Rattle.std.proofs.lemmas.List.Sums.{get_or-le-sum_by, sum_by-cons}
use Rattle.std.proofs.lemmas.Option.{slice_get-get_or}
use Rattle.block_index.specs.Places.{Cube}
use Rattle.block_fields.specs.States.{State, IsState, total}
use Rattle.amount_ledger.specs.Ledgers.{for_each}
use Rattle.checkpoint.specs.Reading.{AreAccepted, FitWords, HasTotals, IsCheckpoint, IsInBalance, state_in}
use Rattle.checkpoint.specs.SavedStates.{SavedState}
use Rattle.checkpoint.specs.Spelling.{all_amounts}
use Rattle.initial_fill.specs.RootBlocks.{initial_state}
use Rattle.leaf_set.specs.NextMesh.{next_mesh}
use Rattle.leaf_set.specs.RootMesh.{root_at, tree_count}
use Rattle.params_check.specs.Parameters.{IsParameters, Parameters, total_of}
use Rattle.params_check.proofs.NoFaults.{accepted-limits}
use Rattle.run_core.specs.CourseLimits.{KeepsTotals}
use Rattle.run_core.specs.Courses.{RunState, totals_of, whole}
use Rattle.run_core.specs.Runs.{RunSteps, Runs}
use Rattle.run_core.proofs.FieldLists.{for_each-at, of_fields-at, within}
use Rattle.run_core.proofs.PhaseMeshes.{Runs-Tiles, after_step-leaves, whole-Tiles}
use Rattle.run_core.proofs.RunTotals.{Runs-keeps, initial-most, initial-shown, total-most, whole-IsCourse}
use Rattle.run_report.specs.Actions.{kept_state}
use Rattle.restart_laws.proofs.KeptNumbers.{of_four}
use Rattle.restart_laws.proofs.RestCourses.{GoneKept, kept-state_in, runs-gone}

-- ---- numbers of 64 bits

-- numbers whose sum is small are small
fit-list : (q : List ℕ) → sum q ≤ 2 ^ 40 → FitWords q
fit-list q few = λ i d l. let one = get_or-le-sum_by (λ x. x) q i d l in omega (arith, few, one)

-- the amounts of a block, of which each field's sum is small
fit-block : (block : List (List ℕ)) → ((f : ℕ) → f < length block → sum (slice_index_or block f []) ≤ 2 ^ 40) → FitWords (flat_map (λ amounts. amounts) block)
fit-block [] few = All-nil (λ n. n < 2 ^ 64)
fit-block (q ∷ qs) few =
    All-append (λ n. n < 2 ^ 64) q (flat_map (λ amounts. amounts) qs) (fit-list q (few zero (omega arith)))
    (fit-block qs (λ f l. few (suc f) (omega (arith, l))))

-- the sum of a field in blocks
abbrev field_sum : List (List (List ℕ)) → ℕ → ℕ
field_sum blocks f = sum_by sum (map (λ block. slice_index_or block f []) blocks)

-- the amounts of blocks, of which each field's total is small
fit-blocks : (fields : ℕ) (blocks : List (List (List ℕ))) → All (λ block. length block ≡ fields) blocks → ((f : ℕ) → f < fields → field_sum blocks f ≤ 2 ^ 40)
    → FitWords (all_amounts blocks)
fit-blocks fields [] each few = All-nil (λ n. n < 2 ^ 64)
fit-blocks fields (b ∷ bs) each few =
    let P : List (List ℕ) → Type 0 = λ block. length block ≡ fields in
    let here : length b ≡ fields = All-head P b bs each in
    let parts : (f : ℕ) → field_sum (b ∷ bs) f ≡ sum (slice_index_or b f []) + field_sum bs f =
    λ f. sum_by-cons sum (slice_index_or b f []) (map (λ block. slice_index_or block f []) bs) in
    All-append (λ n. n < 2 ^ 64) (flat_map (λ amounts. amounts) b) (all_amounts bs)
    (fit-block b (λ f l. let most = few f (omega (arith, l, here)) in let e = parts f in omega (arith, most, e)))
    (fit-blocks fields bs (All-tail P b bs each) (λ f l. let most = few f l in let e = parts f in omega (arith, most, e)))

-- the first of four numbers
fit-four : (g : ℕ → ℕ) → ((f : ℕ) → f < 4 → g f < 2 ^ 64) → FitWords (for_each g)
fit-four g few =
    let P : ℕ → Type 0 = λ n. n < 2 ^ 64 in
    All-cons P (g 0) (g 1 ∷ g 2 ∷ g 3 ∷ []) (few 0 (omega arith))
    (All-cons P (g 1) (g 2 ∷ g 3 ∷ []) (few 1 (omega arith))
    (All-cons P (g 2) (g 3 ∷ []) (few 2 (omega arith)) (All-cons P (g 3) [] (few 3 (omega arith)) (All-nil P))))

fit-kept : (k : ℕ) (l : List ℕ) → length l ≡ 4 → ((f : ℕ) → f < 4 → slice_index l f < 2 ^ 64) → FitWords (take k l)
fit-kept k l four few =
    All-take (λ n. n < 2 ^ 64) k l (subst FitWords (sym (of_four l four)) (fit-four (λ f. slice_index l f) few))

-- the number of a field, which is small where there is such a field
within-small : (n f q : ℕ) → (f < n → q ≤ 2 ^ 40) → within n f q < 2 ^ 64
within-small n f q few =
    elim (cases_Bool (nat_lt f n)) [
      | inl t ↦
          let a = cond-true (nat_lt f n) q 0 t in
          let most = few (ltb-true f n t) in
          omega (arith, a, most)
      | inr none ↦
          let a = cond-false (nat_lt f n) q 0 none in
          omega (arith, a)
    ]

-- ---- no more leaves than there may be

module _ (p : Parameters) where
  step-few : (phase : ℕ) (s t : RunState) → RunSteps p phase s t → length t.state.leaves ≤ p.max_blocks
  step-few phase s t step =
      let adapted_leaves : step.between.leaves ≡ next_mesh s.state.leaves step.adapts.levels = ap (λ (x : State). x.leaves) step.adapts.next in
      let leaves : t.state.leaves ≡ next_mesh s.state.leaves step.adapts.levels =
      ap (λ (r : RunState). r.state.leaves) step.goes_on ∙ after_step-leaves p phase s step.between ∙ adapted_leaves in
      subst (λ (mesh : List Cube). length mesh ≤ p.max_blocks) (sym leaves) step.adapts.decides.block_limit

  -- the roots are few enough, and so are the leaves after each phase
  runs-few : IsParameters p → (phases : ℕ) (t : RunState) → Runs (whole p) phases t → length t.state.leaves ≤ p.max_blocks
  runs-few w zero t runs =
      let roots : length (whole p).start.state.leaves ≡ tree_count p.grid = length-map-range_with_len (root_at p.grid) 0 (tree_count p.grid) in
      let few : tree_count p.grid ≤ p.max_blocks = w.trees in
      subst (λ (r : RunState). length r.state.leaves ≤ p.max_blocks) (sym runs) (omega (arith, roots, few))
  runs-few w (suc phases) t runs = step-few ((whole p).ended + suc phases) runs.0 t runs.2

-- ---- what is kept

module _ (p : Parameters) (w : IsParameters p) (phases : ℕ) (cycle : ℕ) (here : RunState) (runs : Runs (whole p) phases here) where
  keeps : KeepsTotals p here
  keeps = Runs-keeps (whole p) (whole-IsCourse p w) phases here runs

  gone-kept : GoneKept (length p.fields) here.ledger.gone
  gone-kept = runs-gone p w phases here runs

  abbrev kept : SavedState
  kept = kept_state p cycle here.state here.ledger

  few-fields : length p.fields ≤ 4
  few-fields = w.few_fields

  field-here : (f : ℕ) → f < length p.fields → f < here.state.fields
  field-here f l = subst (λ n. f < n) (sym keeps.fields) l

  total-small : (f : ℕ) → f < here.state.fields → total here.state f ≤ 2 ^ 40
  total-small f l = total-most p w here keeps f (subst (λ n. f < n) keeps.fields l)

  kept-state : IsState (state_in kept)
  kept-state = subst IsState (sym (kept-state_in p cycle here keeps)) keeps.state

  kept-amounts : FitWords (all_amounts here.state.amounts)
  kept-amounts =
      let s : State = here.state in
      fit-blocks s.fields s.amounts (λ i d l. keeps.state.all_fields i (slice_index_or s.amounts i d) (slice_get-get_or s.amounts i d l)) total-small

  kept-totals : HasTotals kept
  kept-totals =
      let s : State = here.state in
      record {
        stated = record {
          one_each = length-take-le (length p.fields) (totals_of s) few-fields;
          fit = fit-kept (length p.fields) (totals_of s) refl
              (λ f l. let a = for_each-at (λ k. within s.fields k (total s k)) f l in
              let small = within-small s.fields f (total s f) (total-small f) in
              omega (arith, a, small));
        };
        sums = λ f l.
            get_or-take (length p.fields) (totals_of s) f 0 l
            ∙ of_fields-at s (total s) f (field-here f l) (omega (arith, l, few-fields));
      }

  -- what is there and what is gone
  together : (f : ℕ) → f < length p.fields → slice_index (totals_of here.state) f + slice_index here.ledger.gone f ≡ total (initial_state p) f
  together f l =
      let a = ap (λ (m : List ℕ). slice_index m f) keeps.totals in
      let b = keeps.together f l in
      omega (arith, a, b)

  gone-small : (f : ℕ) → slice_index here.ledger.gone f < 2 ^ 64
  gone-small f =
      elim (cases_lt f (length p.fields)) [
        | inl below ↦
            let all = together f below in
            let most = initial-most p w f below in
            omega (arith, all, most)
        | inr above ↦
            let none = gone-kept.zeros f above in
            omega (arith, none)
      ]

  initial-total : (f : ℕ) → f < length p.fields → total_of p f ≡ total (initial_state p) f
  initial-total f l =
      initial-shown p f (total_of p f) l refl ∙ cond-true (nat_lt f (length p.fields)) (total (initial_state p) f) 0 (lt-ltb f (length p.fields) l)

  kept-gone : IsInBalance kept
  kept-gone = record {
    stated = record {
      one_each = length-take-le (length p.fields) here.ledger.gone (let four = gone-kept.four in omega (arith, four, few-fields));
      fit = fit-kept (length p.fields) here.ledger.gone gone-kept.four (λ f l. gone-small f);
    };
    sums = λ f l. (let a = get_or-take (length p.fields) (totals_of here.state) f 0 l in
        let b = get_or-take (length p.fields) here.ledger.gone f 0 l in
        let c = together f l in
        let d = initial-total f l in
        omega (arith, a, b, c, d));
  }

-- what is kept after a cycle
pub kept-IsCheckpoint : (p : Parameters) (cycle : ℕ) (here : RunState) → AreAccepted p → cycle ≤ p.cycles → Runs (whole p) (p.rounds + cycle) here
    → IsCheckpoint (kept_state p cycle here.state here.ledger)
kept-IsCheckpoint p cycle here a within runs =
    let w : IsParameters p = accepted-limits a.groups p a.limits a.accepted in
    let last = w.cycles in
    let phases : ℕ = p.rounds + cycle in (
      tt,
      (
        tt,
        (
          w.short_text,
          (
            a,
            (
              omega (arith, within, last),
              (
                runs-few p w phases here runs,
                (
                  Runs-Tiles (whole p) phases here (whole-Tiles p w.domain) runs,
                  (
                    (kept-state p w phases cycle here runs, kept-amounts p w phases cycle here runs),
                    (kept-totals p w phases cycle here runs, (kept-gone p w phases cycle here runs, tt)),
                  ),
                ),
              ),
            ),
          ),
        ),
      ),
    )
