-- A run of which nothing is written, work by work.
use Rattle.std.proofs.Common.{◌≡◌, ◌⊎◌, ℕ, ◌+◌, ◌==◌, Bool, true, false, cond, nat_lt, List, [], ◌∷◌, ◌++◌, Option, None, refl, sym, ap, ◌∙◌, subst, length, arith, inl, inr}
use Rattle.adapt_core.specs.Cells.{AdaptProblem}
use Rattle.amount_ledger.specs.Ledgers.{LedgerState}
use Rattle.block_fields.specs.States.{State}
use Rattle.run_core.specs.declared.fault.RunFault.{RunFault}
use Rattle.run_core.specs.declared.fault.RunFault.TheVariants as faults
use Rattle.run_core.specs.declared.step.Stage.{Stage}
use Rattle.run_core.specs.declared.step.Stage.TheVariants.{Next}
use Rattle.run_core.specs.declared.step.Step.{Step}
use Rattle.run_core.specs.declared.step.Step.TheVariants as step
use Rattle.run_core.specs.Courses.{Course, RunState, Told, cycle_ended, totals_of}
use Rattle.run_core.specs.Runs.{RunEnds, Runs, after_all}
use Rattle.run_core.specs.Steps.{adapts_at, step_after}
use Rattle.run_core.specs.Works.{IsEnd, IsRefreshStep, IsTold, LimitEnds, Standing, TellsAt, cycle_of}
use Rattle.run_core.proofs.OneRun.{RunEnds-state, Runs-one}
use Rattle.cello_top.specs.Counts.{IsCountedBy}
use Rattle.cello_top.specs.Lemmas.Demonstrating.{EndsCounted, IsCutBy, Keeps, KeepsOn, ShowsTotals}
use Rattle.cello_top.proofs.Counted.{counted-all, counted-none}

-- ---- the end comes only after a cycle was told

pub refresh-on : (c : Course) (phases : ℕ) (kind : Step) → IsRefreshStep kind → step_after c phases kind ≡ step.Ended → ⊥
refresh-on c phases kind (inl e) h = let wishes : step.Wishes ≡ step.Ended = ap (λ (k : Step). step_after c phases k) (sym e) ∙ h in cc
refresh-on c phases kind (inr e) h = let advance : step.Advance ≡ step.Ended = ap (λ (k : Step). step_after c phases k) (sym e) ∙ h in cc

pub adapt-on : (c : Course) (phases : ℕ) → step_after c phases step.Adapt ≡ step.Ended → ⊥
adapt-on c phases = by-Bools (nat_lt c.parameters.rounds (c.ended + phases + 1)) (c.ended + phases + 1 == c.parameters.rounds)
  where
    by-Bools : (b d : Bool) → cond b step.RefreshAgain (cond d step.Emit step.Refresh) ≡ step.Ended → ⊥
    by-Bools true d e = cc
    by-Bools false true e = cc
    by-Bools false false e = cc

-- ---- what is kept

-- nothing is told yet
pub keeps-none : (counts : AdaptProblem → ℕ → Type 0) (s : Standing) → IsTold s [] → adapts_at s.step s.phase ≡ 0 → (s.step ≡ step.Ended → ⊥) → Keeps counts s 0
keeps-none counts s told none on = record { told = []; is = told; counted = counted-none counts s none; shown = λ e. absurd (on e) }

-- a work that handles no message
pub keeps-on : (counts : AdaptProblem → ℕ → Type 0) (s u : Standing) (n : ℕ) → ((told : List Told) → IsTold s told → IsTold u told)
    → ((handled : ℕ) → IsCountedBy counts s handled → IsCountedBy counts u handled) → (u.step ≡ step.Ended → ⊥) → Keeps counts s n → Keeps counts u (n + 0)
keeps-on counts s u n goes keeps on k = record {
  told = k.told;
  is = goes k.told k.is;
  counted = let none : n ≡ n + 0 = omega arith in subst (λ m. IsCountedBy counts u m) none (keeps n k.counted);
  shown = λ e. absurd (on e);
}

-- an adapt phase
pub keeps-adapt : (counts : AdaptProblem → ℕ → Type 0) (s u : Standing) (n count : ℕ) (more : List Told) → ((told : List Told) → IsTold s told → IsTold u (told ++ more))
    → ((handled : ℕ) → IsCountedBy counts s handled → IsCountedBy counts u (handled + count)) → (u.step ≡ step.Ended → ⊥) → Keeps counts s n → Keeps counts u (n + count)
keeps-adapt counts s u n count more goes keeps on k = record {
  told = k.told ++ more;
  is = goes k.told k.is;
  counted = keeps n k.counted;
  shown = λ e. absurd (on e);
}

-- a work was given out
pub keeps-given : (counts : AdaptProblem → ℕ → Type 0) (s u : Standing) (g : Stage) (n : ℕ) → u ≡ record s { stage = g } → ((told : List Told) → IsTold s told → IsTold u told)
    → Keeps counts s n → Keeps counts u n
keeps-given counts s u g n e goes k = record {
  told = k.told;
  is = goes k.told k.is;
  counted = subst (λ (x : Standing). IsCountedBy counts x n) (sym e) k.counted;
  shown = subst (λ (x : Standing). x.step ≡ step.Ended → ShowsTotals x) (sym e) (λ h. let w = k.shown h in record { run = w.run; runs = w.runs; ledger = w.ledger; totals = w.totals; fields = w.fields });
}

-- a fault of the run cuts it off
pub cut-by : (counts : AdaptProblem → ℕ → Type 0) (s : Standing) (n : ℕ) (f : RunFault) → (f ≡ faults.Memory) ⊎ LimitEnds s f → Keeps counts s n → IsCutBy s.course f
cut-by counts s n f (inl memory) k = inl memory
cut-by counts s n f (inr limit) k = let e = limit k.told k.is in inr (e.run, e.ends)

-- the end
pub ends-counted : (counts : AdaptProblem → ℕ → Type 0) (s : Standing) (n : ℕ) → IsEnd s → Keeps counts s n → EndsCounted counts s n
ends-counted counts s n end k =
    let w = k.shown end.step in
    let e = end.ends k.told k.is in
    let ends : RunEnds s.course w.run None = after_all (subst (λ m. Runs s.course m w.run) end.all w.runs) refl in
    let same : w.run ≡ e.run = RunEnds-state s.course w.run e.run None None ends e.ends in
    record {
      shown = record { run = w.run; ends = ends; ledger = w.ledger; totals = w.totals; fields = w.fields; leaves = ap (λ (r : RunState). r.state.leaves) same ∙ e.leaves };
      counted = counted-all counts s end n k.counted;
    }

-- ---- a cycle that is passed

last-one : (xs : List Told) (a b : Told) → xs ++ a ∷ [] ≡ xs ++ b ∷ [] → a ≡ b
last-one [] a b e = cc
last-one (x ∷ xs) a b e = let rest : xs ++ a ∷ [] ≡ xs ++ b ∷ [] = cc in last-one xs a b rest

same-state : (cycle : ℕ) (s t : State) (l m : LedgerState) → cycle_ended cycle s l ≡ cycle_ended cycle t m → s ≡ t
same-state cycle s t l m e = cc

same-ledger : (cycle : ℕ) (s t : State) (l m : LedgerState) → cycle_ended cycle s l ≡ cycle_ended cycle t m → l ≡ m
same-ledger cycle s t l m e = cc

shows-after : (s : Standing) (k : Step) (told : List Told) (state : State) → s.step ≡ step.Emit → IsTold s told → s.ledger.total ≡ totals_of state → state.fields ≡ length s.course.parameters.fields
    → IsTold (record s { step = k; stage = Next }) (told ++ cycle_ended (cycle_of s) state s.ledger ∷ []) → k ≡ step.Ended → ShowsTotals (record s { step = k; stage = Next })
shows-after s k told state emits t totals fields w ends =
    let before : t.run.told ≡ told ++ cycle_ended (cycle_of s) t.run.state t.run.ledger ∷ [] = subst (λ (j : Step). TellsAt j s t.run told) emits t.tells in
    let after : told ++ cycle_ended (cycle_of s) state s.ledger ∷ [] ≡ w.run.told =
    subst (λ (j : Step). TellsAt j (record s { step = k; stage = Next }) w.run (told ++ cycle_ended (cycle_of s) state s.ledger ∷ [])) ends w.tells in
    let same : w.run ≡ t.run = Runs-one s.course s.phase w.run t.run w.runs t.runs in
    let one : cycle_ended (cycle_of s) state s.ledger ≡ cycle_ended (cycle_of s) t.run.state t.run.ledger =
    last-one told _ _ (after ∙ ap (λ (r : RunState). r.told) same ∙ before) in
    let states : state ≡ t.run.state = same-state (cycle_of s) _ _ _ _ one in
    let ledgers : s.ledger ≡ t.run.ledger = same-ledger (cycle_of s) _ _ _ _ one in
    record { run = t.run; runs = t.runs; ledger = sym ledgers; totals = totals ∙ ap (λ (x : State). totals_of x) states; fields = ap (λ (x : State). x.fields) (sym states) ∙ fields }

pub keeps-cycle : (counts : AdaptProblem → ℕ → Type 0) (s u : Standing) (n : ℕ) (k : Step) (state : State) → s.step ≡ step.Emit → u ≡ record s { step = k; stage = Next }
    → ((told : List Told) → IsTold s told → IsTold u (told ++ cycle_ended (cycle_of s) state s.ledger ∷ [])) → s.ledger.total ≡ totals_of state → state.fields ≡ length s.course.parameters.fields
    → ((handled : ℕ) → IsCountedBy counts s handled → IsCountedBy counts u handled) → Keeps counts s n → Keeps counts u n
keeps-cycle counts s u n k state emits e goes totals fields keeps h =
    let told : List Told = h.told ++ cycle_ended (cycle_of s) state s.ledger ∷ [] in
    record {
      told = told;
      is = goes h.told h.is;
      counted = keeps n h.counted;
      shown = subst (λ (x : Standing). IsTold x told → x.step ≡ step.Ended → ShowsTotals x) (sym e) (shows-after s k h.told state emits h.is totals fields) (goes h.told h.is);
    }

pub keeps-zero : (counts : AdaptProblem → ℕ → Type 0) (s : Standing) (n : ℕ) → Keeps counts s n → Keeps counts s (n + 0)
keeps-zero counts s n k = let none : n ≡ n + 0 = omega arith in subst (λ m. Keeps counts s m) none k

pub ended-from : (counts : AdaptProblem → ℕ → Type 0) (s : Standing) (n : ℕ) (went : Option ℕ) → went ≡ None → KeepsOn counts s n went → EndsCounted counts s n
ended-from counts s n went is h = subst (λ (w : Option ℕ). KeepsOn counts s n w) is h
