-- There is one run of a course.
use Rattle.std.proofs.Common.{◌≡◌, ℕ, zero, suc, ◌+◌, ◌<◌, List, length, Option, Some, sym, ap, ◌∙◌, subst, arith, inl, inr}
use Rattle.std.proofs.lemmas.Option.{same_Some}
use Rattle.std.proofs.lemmas.Bool.{cases_order}
use Rattle.std.specs.Prelude.{slice_get}
use Rattle.block_index.specs.Places.{Cube}
use Rattle.block_index.specs.declared.wish.Wish.{Wish}
use Rattle.leaf_set.specs.LevelRules.{IsLeast}
use Rattle.leaf_set.specs.NextMesh.{next_mesh}
use Rattle.block_fields.specs.Samples.{adapted}
use Rattle.block_fields.specs.States.{State}
use Rattle.leaf_set.proofs.Solutions.{IsLeast-one}
use Rattle.params_check.specs.Parameters.{Parameters}
use Rattle.run_core.specs.declared.fault.RunFault.{RunFault}
use Rattle.run_core.specs.declared.fault.RunFault.TheVariants.{LevelLimit, BlockLimit}
use Rattle.run_core.specs.Courses.{Course, RunState, phases_of}
use Rattle.run_core.specs.Runs.{WishesTooFine, Decides, Adapts, PassesLimit, PhasePasses, phase_wishes, of_level, of_blocks, RunSteps, Runs, RunEnds, after_all, after_step, at_limit}

-- a state, and the limit that ended the run there, are others'
record SameEnd (s t : RunState) (a b : Option RunFault) : Type 0 where
  pub state : s ≡ t
  pub limit : a ≡ b

module _ (p : Parameters) where
  levels-one : (mesh : List Cube) (wishes : List Wish) (levels others : List ℕ) → IsLeast p.grid mesh wishes levels → IsLeast p.grid mesh wishes others
      → levels ≡ others
  levels-one mesh wishes levels others a b = IsLeast-one p.grid mesh wishes levels others a b

  Adapts-one : (phase : ℕ) (before after other : State) → Adapts p phase before after → Adapts p phase before other → after ≡ other
  Adapts-one phase before after other a b =
      let levels : a.levels ≡ b.levels = levels-one before.leaves (phase_wishes p phase before) a.levels b.levels a.decides.least b.decides.least in
      a.next ∙ (ap (adapted before) levels ∙ sym b.next)

  RunSteps-one : (phase : ℕ) (s t u : RunState) → RunSteps p phase s t → RunSteps p phase s u → t ≡ u
  RunSteps-one phase s t u a b =
      let state : a.between ≡ b.between = Adapts-one phase s.state a.between b.between a.adapts b.adapts in
      a.goes_on ∙ (ap (after_step p phase s) state ∙ sym b.goes_on)

  -- the leaf that a limit names is one
  same_leaf : (mesh : List Cube) (wishes : List Wish) (i j : ℕ) (c d : Cube) → WishesTooFine p mesh wishes i c → WishesTooFine p mesh wishes j d
      → ((k : ℕ) (e : Cube) → k < i → WishesTooFine p mesh wishes k e → ⊥) → ((k : ℕ) (e : Cube) → k < j → WishesTooFine p mesh wishes k e → ⊥) → c ≡ d
  same_leaf mesh wishes i j c d a b none_before_i none_before_j =
      elim (cases_order i j) [
        | inr (inl less) ↦ absurd (none_before_j i c less a)
        | inl same ↦
            let moved : slice_get mesh j ≡ Some c = subst (λ k. slice_get mesh k ≡ Some c) same a.leaf in
            same_Some c d (sym moved ∙ b.leaf)
        | inr (inr more) ↦ absurd (none_before_i j d more b)
      ]

  PassesLimit-one : (phase : ℕ) (mesh : List Cube) (wishes : List Wish) (f g : RunFault) → PassesLimit p phase mesh wishes f → PassesLimit p phase mesh wishes g
      → f ≡ g
  PassesLimit-one phase mesh wishes f g (of_level i c strict a none e) (of_level j d too b before h) =
      e ∙ ap (LevelLimit phase) (same_leaf mesh wishes i j c d a b none before) ∙ sym h
  PassesLimit-one phase mesh wishes f g (of_level i c strict a none e) (of_blocks levels keeps least many h) = absurd (keeps strict i c a)
  PassesLimit-one phase mesh wishes f g (of_blocks levels keeps least many e) (of_level i c strict a none h) = absurd (keeps strict i c a)
  PassesLimit-one phase mesh wishes f g (of_blocks levels keeps least many e) (of_blocks others kept leasts more h) =
      e ∙ ap (λ (ls : List ℕ). BlockLimit phase (length (next_mesh mesh ls)) p.max_blocks) (levels-one mesh wishes levels others least leasts) ∙ sym h

  passes_or_decides : (phase : ℕ) (mesh : List Cube) (wishes : List Wish) (others : List ℕ) (f : RunFault) → PassesLimit p phase mesh wishes f
      → Decides p mesh wishes others → ⊥
  passes_or_decides phase mesh wishes others f (of_level i c strict a none e) b = b.level_limit strict i c a
  passes_or_decides phase mesh wishes others f (of_blocks levels keeps least many e) b =
      let same : levels ≡ others = levels-one mesh wishes levels others least b.least in
      let counts : length (next_mesh mesh levels) ≡ length (next_mesh mesh others) = ap (λ (ls : List ℕ). length (next_mesh mesh ls)) same in
      omega (arith, b.block_limit)

module _ (c : Course) where
  abbrev p : Parameters
  p = c.parameters

  pub Runs-one : (phases : ℕ) (t u : RunState) → Runs c phases t → Runs c phases u → t ≡ u
  Runs-one zero t u a b = a ∙ sym b
  Runs-one (suc phases) t u a b =
      let before : b.0 ≡ a.0 = Runs-one phases b.0 a.0 b.1 a.1 in
      RunSteps-one p (c.ended + suc phases) a.0 t u a.2 (subst (λ (s : RunState). RunSteps p (c.ended + suc phases) s u) before b.2)

  -- a run goes through each of its phases
  record Through (phases : ℕ) : Type 0 where
    before : RunState
    after : RunState
    runs : Runs c phases before
    steps : RunSteps p (c.ended + suc phases) before after

  through : (all phases : ℕ) (t : RunState) → phases < all → Runs c all t → Through phases
  through zero phases t below runs = absurd (omega arith)
  through (suc all) phases t below runs =
      elim (cases_order phases all) [
        | inr (inl less) ↦ through all phases runs.0 less runs.1
        | inl same ↦
            record {
              before = runs.0;
              after = t;
              runs = subst (λ k. Runs c k runs.0) (sym same) runs.1;
              steps = subst (λ k. RunSteps p (c.ended + suc k) runs.0 t) (sym same) runs.2;
            }
        | inr (inr more) ↦ absurd (omega arith)
      ]

  -- a run that goes on past a phase passed no limit there
  pub no_limit_within : (all phases : ℕ) (t s : RunState) (f : RunFault) → phases < all → Runs c all t → Runs c phases s → PhasePasses p (c.ended + suc phases) s.state f → ⊥
  no_limit_within all phases t s f below runs some passes =
      let h = through all phases t below runs in
      let same : s ≡ h.before = Runs-one phases s h.before some h.runs in
      let moved : PhasePasses p (c.ended + suc phases) h.before.state f = subst (λ (u : RunState). PhasePasses p (c.ended + suc phases) u.state f) same passes in
      passes_or_decides p (c.ended + suc phases) h.before.state.leaves (phase_wishes p (c.ended + suc phases) h.before.state) h.steps.adapts.levels f moved h.steps.adapts.decides

  one_end : (s t : RunState) (a b : Option RunFault) → RunEnds c s a → RunEnds c t b → SameEnd s t a b
  one_end s t a b (after_all runs none) (after_all others last) = record { state = Runs-one (phases_of c) s t runs others; limit = none ∙ sym last }
  one_end s t a b (after_all runs none) (at_limit phases f below some passes is) = absurd (no_limit_within (phases_of c) phases s t f below runs some passes)
  one_end s t a b (at_limit phases f below some passes is) (after_all runs none) = absurd (no_limit_within (phases_of c) phases t s f below runs some passes)
  one_end s t a b (at_limit k f below runs passes is) (at_limit m g most others stops ends) =
      elim (cases_order k m) [
        | inr (inl less) ↦ absurd (no_limit_within m k t s f less others runs passes)
        | inl same ↦
            let states : s ≡ t = Runs-one k s t runs (subst (λ n. Runs c n t) (sym same) others) in
            let moved : PhasePasses p (c.ended + suc k) s.state g =
            subst (λ (u : RunState). PhasePasses p (c.ended + suc k) u.state g) (sym states) (subst (λ n. PhasePasses p (c.ended + suc n) t.state g) (sym same) stops) in
            let faults : f ≡ g = PassesLimit-one p (c.ended + suc k) s.state.leaves (phase_wishes p (c.ended + suc k) s.state) f g passes moved in
            record { state = states; limit = is ∙ ap Some faults ∙ sym ends }
        | inr (inr more) ↦ absurd (no_limit_within k m s t g more runs others stops)
      ]

  pub RunEnds-state : (s t : RunState) (a b : Option RunFault) → RunEnds c s a → RunEnds c t b → s ≡ t
  RunEnds-state s t a b x y = (one_end s t a b x y).state

  pub RunEnds-limit : (s t : RunState) (a b : Option RunFault) → RunEnds c s a → RunEnds c t b → a ≡ b
  RunEnds-limit s t a b x y = (one_end s t a b x y).limit
