-- What one handling does to the cell, as far as the phase's invariant needs it.
use Rattle.std.proofs.Common.{◌≡◌, ℕ, ◌+◌, ◌-◌, ◌≤◌, min, Bool, true, false, cond, List, [], Some, map, refl, sym, ◌∙◌, subst, arith, ◌⊎◌, inl, inr}
use Rattle.std.specs.Prelude.{slice_get, slice_index, ◌&&◌, nat_lt}
use Rattle.std.proofs.lemmas.Bool.{cases_Bool, ltb-false, cond-true, cond-false, and_cases, both_ways}
use Rattle.std.proofs.lemmas.Option.{same_Some}
use Rattle.phase_core.specs.declared.envelope.Envelope.{Envelope}
use Rattle.block_index.specs.Touching.{Touches}
use Rattle.leaf_set.specs.LevelRules.{IsSolution}
use Rattle.leaf_set.specs.Opening.{KeepsOwnRules}
use Rattle.leaf_set.proofs.Boxes.{Touches-sym}
use Rattle.adapt_core.specs.declared.adapt_msg.AdaptMsg.{AdaptMsg}
use Rattle.adapt_core.specs.declared.adapt_msg.AdaptMsg.TheVariants.{Start, Level}
use Rattle.adapt_core.specs.Cells.{LeafState, AdaptProblem}
use Rattle.adapt_core.specs.React.{asked, tells, raised, opened, adapt_react}
use Rattle.adapt_core.specs.Problem.{mesh_of, wishes_of, openings_of, IsAdaptProblem}
use Rattle.adapt_core.specs.Holds.{is_start, starts_due, HasAsked, IsTold}
use Rattle.adapt_core.specs.Lemmas.Siblings.{asked_jump, asked_siblings, asked_most}
use Rattle.adapt_core.specs.Lemmas.Leaves.{part_at, get_place, opening_at}

-- what the message asks, the cell has afterwards
abbrev pub Takes : AdaptProblem → List LeafState → LeafState → LeafState → AdaptMsg → Type 0
Takes p cells c new Start = Unit {0}
Takes p cells c new (Level from value) = (b : LeafState) → slice_get cells from ≡ Some b → Touches p.grid b.part.place c.part.place → HasAsked b.part new.part value new.level

-- the cell `to` handles the message, becomes `new`, and sends `sent`
pub record IsHandling (p : AdaptProblem) (cells : List LeafState) (to : ℕ) (msg : AdaptMsg) (c new : LeafState) (sent : List (Envelope AdaptMsg)) : Type 0 where
  pub part : new.part ≡ c.part
  pub rises : c.level ≤ new.level
  pub high : (levels : List ℕ) → IsSolution p.grid (mesh_of p) (wishes_of p) levels → new.level ≤ slice_index levels to
  pub opening : new.started ≡ true → new.part.opening ≤ new.level
  pub starts : cond (is_start msg) 1 0 + starts_due (Some new) ≡ starts_due (Some c)
  pub sends : (sent ≡ []) ⊎ (sent ≡ tells new.part new.level)
  pub tells : new.started ≡ true → (sent ≡ tells new.part new.level) ⊎ ((new.level ≡ c.level) × (c.started ≡ true))
  pub takes : Takes p cells c new msg

-- a solution keeps the rules about each leaf alone
own_rules : (p : AdaptProblem) (levels : List ℕ) → IsSolution p.grid (mesh_of p) (wishes_of p) levels → KeepsOwnRules p.grid (mesh_of p) (wishes_of p) levels
own_rules p levels h = record { range = h.range; wish = h.wish; lone = h.lone }

module _ (p : AdaptProblem) (cells : List LeafState) (valid : IsAdaptProblem p) (parts : map (λ cell. cell.part) cells ≡ p.parts)
    (high : (levels : List ℕ) → IsSolution p.grid (mesh_of p) (wishes_of p) levels → (i : ℕ) (c : LeafState) → slice_get cells i ≡ Some c → c.level ≤ slice_index levels i)
    (to : ℕ) (c : LeafState) (here : slice_get cells to ≡ Some c) where
  handling_start : c.started ≡ false → IsHandling p cells to Start c (opened c) (tells c.part (opened c).level)
  handling_start waits =
      record {
        part = refl;
        rises = omega arith;
        high = λ levels h.
            let a : c.level ≤ slice_index levels to = high levels h to c here in
            let b : slice_index (openings_of p) to ≤ slice_index levels to = valid.opening.least levels (own_rules p levels h) to in
            omega (arith, a, b, opening_at p cells valid parts to c here);
        opening = λ _. omega arith;
        starts = let due : starts_due (Some c) ≡ 1 = cond-false {A = ℕ} c.started 0 1 waits in omega (arith, due);
        sends = inr refl;
        tells = λ _. inl refl;
        takes = tt;
      }

  -- the level that a touching leaf's level asks is at most that of any solution
  asked_high : (from value : ℕ) → IsTold p cells to (Level from value) → (levels : List ℕ) → IsSolution p.grid (mesh_of p) (wishes_of p) levels → asked c.part from value ≤ slice_index levels to
  asked_high from value told levels h =
      let b = told.0 in
      let same : told.1 ≡ c = same_Some told.1 c (sym told.3 ∙ here) in
      let touch : Touches p.grid c.part.place b.part.place = Touches-sym p.grid b.part.place c.part.place (subst (λ (x : LeafState). Touches p.grid b.part.place x.part.place) same told.4) in
      let at = get_place p cells valid parts to c here in
      let there = get_place p cells valid parts from b told.2 in
      let below : b.level ≤ slice_index levels from = high levels h from b told.2 in
      let jump : slice_index levels from - 1 ≤ slice_index levels to = h.jump to from c.part.place b.part.place at there touch in
      let under : value ≤ b.level = told.5 in
      asked_most p.grid (mesh_of p) to c.part (part_at p cells valid parts to c here) at from b.part.place there touch value (slice_index levels to) (omega arith) (λ s.
      let least : min (slice_index levels from) c.part.place.level ≤ slice_index levels to = h.siblings to from c.part.place b.part.place at there s in
      omega arith)

  handling_level : (from value : ℕ) → (c.started ≡ true → c.part.opening ≤ c.level) → IsTold p cells to (Level from value) → IsHandling p cells to (Level from value) c (adapt_react p to c (Level from value)).cell (adapt_react p to c (Level from value)).sent
  handling_level from value has told =
      let asks : ℕ = asked c.part from value in
      let new : LeafState = raised c from value in
      let goes : Bool = c.started && nat_lt c.level new.level in
      record {
        part = refl;
        rises = omega arith;
        high = λ levels h.
            let a : c.level ≤ slice_index levels to = high levels h to c here in
            let b : asks ≤ slice_index levels to = asked_high from value told levels h in
            omega arith;
        opening = λ s. let o : c.part.opening ≤ c.level = has s in omega arith;
        starts = omega arith;
        sends = elim (cases_Bool goes) [ inl yes' ↦ inr (cond-true goes (tells new.part new.level) [] yes') | inr no' ↦ inl (cond-false goes (tells new.part new.level) [] no') ];
        tells = λ s.
            elim (cases_Bool goes) [
              | inl yes' ↦ inl (cond-true goes (tells new.part new.level) [] yes')
              | inr no' ↦
                  elim (and_cases c.started (nat_lt c.level new.level) no') [
                    | inl never ↦ absurd (both_ways c.started never s)
                    | inr low ↦ inr (let most : new.level ≤ c.level = ltb-false c.level new.level low in omega arith, s)
                  ]
            ];
        takes = λ b there touch.
            let back : Touches p.grid c.part.place b.part.place = Touches-sym p.grid b.part.place c.part.place touch in
            let at = get_place p cells valid parts to c here in
            let from_at = get_place p cells valid parts from b there in
            let part = part_at p cells valid parts to c here in
            record {
              jump = omega (arith, asked_jump p.grid (mesh_of p) to c.part part at from b.part.place from_at back value);
              siblings = λ s. omega (arith, asked_siblings p.grid (mesh_of p) to c.part part at from b.part.place from_at back value s);
            };
      }

  pub handling : (msg : AdaptMsg) → (is_start msg ≡ true → c.started ≡ false) → (c.started ≡ true → c.part.opening ≤ c.level) → IsTold p cells to msg → IsHandling p cells to msg c (adapt_react p to c msg).cell (adapt_react p to c msg).sent
  handling Start waits has told = handling_start (waits refl)
  handling (Level from value) waits has told = handling_level from value has told
