-- A handling keeps the phase's invariant.
use Rattle.std.proofs.Common.{◌≡◌, ℕ, ◌+◌, ◌-◌, ◌≤◌, Bool, true, false, cond, List, [], ◌∷◌, ◌++◌, Some, map, get_or, refl, sym, ap, ◌∙◌, subst, arith, ◌⊎◌, inl, inr}
use Rattle.std.specs.Prelude.{All, Contains, slice_get, slice_set, slice_index, ◌&&◌, ◌==◌}
use Rattle.std.proofs.lemmas.Bool.{cases_eq, eq-eqb, ne_eqb, and_right, cond-true, cond-false}
use Rattle.std.proofs.lemmas.Option.{same_Some}
use Rattle.std.proofs.lemmas.List.Elements.{All-append, All-tail, All-head, All-nil, All-map, All-weaker, Contains-get_or, Contains-append_left, Contains-append_right}
use Rattle.std.proofs.lemmas.List.Sums.{sum_by-append, sum_by-cons}
use Rattle.phase_core.specs.declared.envelope.Envelope.{Envelope}
use Rattle.phase_core.specs.Lemmas.Lookups.{map-slice_set_same}
use Rattle.block_index.specs.Touching.{Touches}
use Rattle.leaf_set.specs.LevelRules.{IsSolution}
use Rattle.adapt_core.specs.declared.adapt_msg.AdaptMsg.{AdaptMsg}
use Rattle.adapt_core.specs.declared.adapt_msg.AdaptMsg.TheVariants.{Start, Level}
use Rattle.adapt_core.specs.Cells.{LeafPart, LeafState, AdaptProblem}
use Rattle.adapt_core.specs.React.{tells, adapt_react}
use Rattle.adapt_core.specs.Problem.{mesh_of, wishes_of}
use Rattle.adapt_core.specs.Holds.{is_start, starts_to, starts_due, HasAsked, IsTold, AdaptHolds}
use Rattle.phase_core.specs.Lemmas.Lookups.{get-set_same, get-set_other, get-set_cases, Contains-map, Contains-cons_cases}
use Rattle.adapt_core.specs.Lemmas.Leaves.{part_at, neighbour_touches, touching_listed}
use Rattle.adapt_core.specs.Lemmas.Handlings.{Takes, IsHandling, handling}

-- what an envelope adds to the count of the starts to a position
abbrev pub start_at : ℕ → Envelope AdaptMsg → ℕ
start_at i e = cond ((e.to == i) && is_start e.msg) 1 0

abbrev start_any : Envelope AdaptMsg → ℕ
start_any e = cond (is_start e.msg) 1 0

-- telling is no start
pub starts_to-tells : (i index level : ℕ) (js : List ℕ) → starts_to i (map (λ j. record { to = j; msg = Level index level }) js) ≡ 0
starts_to-tells i index level [] = refl
starts_to-tells i index level (j ∷ js) =
    let told : ℕ → Envelope AdaptMsg = λ x. record { to = x; msg = Level index level } in
    let none : start_at i (told j) ≡ 0 = cond-false {A = ℕ} ((j == i) && false) 1 0 (and_right (j == i) false refl) in
    omega (arith, sum_by-cons (start_at i) (told j) (map told js), none, starts_to-tells i index level js)

starts_to-head : (i : ℕ) (e : Envelope AdaptMsg) (rest : List (Envelope AdaptMsg)) → starts_to i (e ∷ rest) ≡ start_at i e + starts_to i rest
starts_to-head i e rest = sum_by-cons (start_at i) e rest

here_counts : (i : ℕ) (e : Envelope AdaptMsg) → i ≡ e.to → start_at i e ≡ start_any e
here_counts i e at = ap (λ b. cond (b && is_start e.msg) 1 0) (eq-eqb e.to i (sym at))

other_counts : (i : ℕ) (e : Envelope AdaptMsg) → (i ≡ e.to → ⊥) → start_at i e ≡ 0
other_counts i e n = ap (λ b. cond (b && is_start e.msg) 1 0) (ne_eqb e.to i (λ at. n (sym at)))

-- a start message in flight is for a cell that hasn't started
pub start_waits : (p : AdaptProblem) (cells : List LeafState) (e : Envelope AdaptMsg) (rest : List (Envelope AdaptMsg)) (c : LeafState) → AdaptHolds p cells (e ∷ rest) → slice_get cells e.to ≡ Some c → is_start e.msg ≡ true → c.started ≡ false
start_waits p cells e rest c holds here is = go c.started refl
  where
    due : starts_to e.to (e ∷ rest) ≡ starts_due (Some c)
    due = holds.starts e.to ∙ ap starts_due here

    one : start_at e.to e ≡ 1
    one = here_counts e.to e refl ∙ cond-true {A = ℕ} (is_start e.msg) 1 0 is

    go : (b : Bool) → c.started ≡ b → c.started ≡ false
    go false h = h
    go true h =
        let none : starts_due (Some c) ≡ 0 = cond-true {A = ℕ} c.started 0 1 h in
        absurd (omega (arith, due, none, one, starts_to-head e.to e rest))

module _ (p : AdaptProblem) (cells : List LeafState) (e : Envelope AdaptMsg) (rest : List (Envelope AdaptMsg)) (c new : LeafState) (sent : List (Envelope AdaptMsg))
    (holds : AdaptHolds p cells (e ∷ rest)) (here : slice_get cells e.to ≡ Some c) (moves : IsHandling p cells e.to e.msg c new sent) where
  parts_stay : map (λ cell. cell.part) (slice_set cells e.to new) ≡ p.parts
  parts_stay = map-slice_set_same (λ (x : LeafState). x.part) cells e.to c new here moves.part ∙ holds.parts

  -- the cell with the new level, among the new cells
  here_after : slice_get (slice_set cells e.to new) e.to ≡ Some new
  here_after = get-set_same cells e.to c new here

  same_place : new.part.place ≡ c.part.place
  same_place = ap (λ (x : LeafPart). x.place) moves.part

  -- each cell that was there is there, with its part and at least its level
  risen : (j : ℕ) (b : LeafState) → slice_get cells j ≡ Some b → (d : LeafState) × (slice_get (slice_set cells e.to new) j ≡ Some d) × (d.part ≡ b.part) × (b.level ≤ d.level)
  risen j b at =
      elim (cases_eq j e.to) [
        | inl is ↦
            let same : c ≡ b = same_Some' is in (
              new,
              subst (λ k. slice_get (slice_set cells e.to new) k ≡ Some new) (sym is) here_after,
              subst (λ (x : LeafState). new.part ≡ x.part) same moves.part,
              subst (λ (x : LeafState). x.level ≤ new.level) same moves.rises,
            )
        | inr other ↦ (b, get-set_other cells e.to j new other ∙ at, refl, omega arith)
      ]
    where
      same_Some' : j ≡ e.to → c ≡ b
      same_Some' is = same_Some c b (sym here ∙ subst (λ k. slice_get cells k ≡ Some b) is at)

  low_after : (i : ℕ) (d : LeafState) → slice_get (slice_set cells e.to new) i ≡ Some d → d.part.place.level - 1 ≤ d.level
  low_after i d at =
      elim (get-set_cases cells e.to i c new d here at) [
        | inl is ↦
            let was : c.part.place.level - 1 ≤ c.level = holds.low e.to c here in
            let level : new.part.place.level ≡ c.part.place.level = ap (λ (x : LeafPart). x.place.level) moves.part in
            let so : new.part.place.level - 1 ≤ new.level = omega (arith, was, level, moves.rises) in
            subst (λ (x : LeafState). x.part.place.level - 1 ≤ x.level) (sym is.1) so
        | inr other ↦ holds.low i d other.1
      ]

  high_after : (levels : List ℕ) → IsSolution p.grid (mesh_of p) (wishes_of p) levels → (i : ℕ) (d : LeafState) → slice_get (slice_set cells e.to new) i ≡ Some d → d.level ≤ slice_index levels i
  high_after levels h i d at =
      elim (get-set_cases cells e.to i c new d here at) [
        | inl is ↦
            let so : new.level ≤ slice_index levels i = subst (λ k. new.level ≤ slice_index levels k) (sym is.0) (moves.high levels h) in
            subst (λ (x : LeafState). x.level ≤ slice_index levels i) (sym is.1) so
        | inr other ↦ holds.high levels h i d other.1
      ]

  opening_after : (i : ℕ) (d : LeafState) → slice_get (slice_set cells e.to new) i ≡ Some d → d.started ≡ true → d.part.opening ≤ d.level
  opening_after i d at =
      elim (get-set_cases cells e.to i c new d here at) [
        | inl is ↦ subst (λ (x : LeafState). x.started ≡ true → x.part.opening ≤ x.level) (sym is.1) moves.opening
        | inr other ↦ holds.opening i d other.1
      ]

  none_sent : (i : ℕ) → starts_to i sent ≡ 0
  none_sent i =
      elim moves.sends [
        | inl none ↦ ap (starts_to i) none
        | inr told ↦ ap (starts_to i) told ∙ starts_to-tells i new.part.index new.level new.part.neighbours
      ]

  starts_after : (i : ℕ) → starts_to i (rest ++ sent) ≡ starts_due (slice_get (slice_set cells e.to new) i)
  starts_after i =
      let both : starts_to i (rest ++ sent) ≡ starts_to i rest + starts_to i sent = sum_by-append (start_at i) rest sent in
      let before : starts_to i (e ∷ rest) ≡ starts_due (slice_get cells i) = holds.starts i in
      elim (cases_eq i e.to) [
        | inl is ↦
            let was : starts_due (slice_get cells i) ≡ starts_due (Some c) = ap (λ k. starts_due (slice_get cells k)) is ∙ ap starts_due here in
            let now : starts_due (slice_get (slice_set cells e.to new) i) ≡ starts_due (Some new) = ap (λ k. starts_due (slice_get (slice_set cells e.to new) k)) is ∙ ap starts_due here_after in
            omega (arith, both, none_sent i, before, was, now, starts_to-head i e rest, here_counts i e is, moves.starts)
        | inr other ↦
            let now : starts_due (slice_get (slice_set cells e.to new) i) ≡ starts_due (slice_get cells i) = ap starts_due (get-set_other cells e.to i new other) in
            omega (arith, both, none_sent i, before, now, starts_to-head i e rest, other_counts i e other)
      ]

  -- a message that was good stays good
  told_after : (to : ℕ) (msg : AdaptMsg) → IsTold p cells to msg → IsTold p (slice_set cells e.to new) to msg
  told_after to Start h = tt
  told_after to (Level from value) h =
      let b = risen from h.0 h.2 in
      let d = risen to h.1 h.3 in
      let place_b : b.0.part.place ≡ h.0.part.place = ap (λ (x : LeafPart). x.place) b.2 in
      let place_d : d.0.part.place ≡ h.1.part.place = ap (λ (x : LeafPart). x.place) d.2 in
      let touch : Touches p.grid b.0.part.place d.0.part.place = subst (λ q. Touches p.grid q d.0.part.place) (sym place_b) (subst (λ q. Touches p.grid h.0.part.place q) (sym place_d) h.4) in
      (b.0, d.0, b.1, d.1, touch, omega (arith, h.5, b.3))

  -- what the cell tells is good
  tells_good : (j : ℕ) → Contains new.part.neighbours j → IsTold p (slice_set cells e.to new) j (Level new.part.index new.level)
  tells_good j listed =
      let t = neighbour_touches p (slice_set cells e.to new) holds.problem parts_stay e.to new here_after j listed in
      let index : new.part.index ≡ e.to = (part_at p (slice_set cells e.to new) holds.problem parts_stay e.to new here_after).index in
      (new, t.0, subst (λ k. slice_get (slice_set cells e.to new) k ≡ Some new) (sym index) here_after, t.1, t.2, omega arith)

  messages_after : All (λ x. IsTold p (slice_set cells e.to new) x.to x.msg) (rest ++ sent)
  messages_after =
      let Good : Envelope AdaptMsg → Type 0 = λ x. IsTold p (slice_set cells e.to new) x.to x.msg in
      let Was : Envelope AdaptMsg → Type 0 = λ x. IsTold p cells x.to x.msg in
      let old : All Good rest = All-weaker Was Good (λ x h. told_after x.to x.msg h) rest (All-tail Was e rest holds.messages) in
      let say : ℕ → Envelope AdaptMsg = λ j. record { to = j; msg = Level new.part.index new.level } in
      let all : All Good (tells new.part new.level) = All-map Good say new.part.neighbours (λ k d within. tells_good (get_or new.part.neighbours k d) (Contains-get_or new.part.neighbours k d within)) in
      let fresh : All Good sent = elim moves.sends [ inl none ↦ subst (All Good) (sym none) (All-nil Good) | inr told ↦ subst (All Good) (sym told) all ] in
      All-append Good rest sent old fresh

  -- a message that was in flight still is, or it is the one that was handled
  still_flies : (x : Envelope AdaptMsg) → Contains (e ∷ rest) x → (e ≡ x) ⊎ Contains (rest ++ sent) x
  still_flies x h =
      elim (Contains-cons_cases e rest x h) [ inl is ↦ inl is | inr there ↦ inr (Contains-append_left rest sent x there) ]

  HasAsked-risen : (b d : LeafPart) (value level more : ℕ) → level ≤ more → HasAsked b d value level → HasAsked b d value more
  HasAsked-risen b d value level more up h = record { jump = omega (arith, h.jump, up); siblings = λ s. omega (arith, h.siblings s, up) }

  -- what another cell tells the one that handled the message
  told_here : (i : ℕ) (b : LeafState) → slice_get cells i ≡ Some b → b.started ≡ true → Touches p.grid b.part.place c.part.place → HasAsked b.part new.part b.level new.level ⊎ Contains (rest ++ sent) (record { to = e.to; msg = Level i b.level })
  told_here i b at started touch =
      elim (holds.told i e.to b c at here started touch) [
        | inl has ↦ inl (subst (λ q. HasAsked b.part q b.level new.level) (sym moves.part) (HasAsked-risen b.part c.part b.level c.level new.level moves.rises has))
        | inr flies ↦
            elim (still_flies (record { to = e.to; msg = Level i b.level }) flies) [
              | inl is ↦ inl (subst (Takes p cells c new) (ap (λ (x : Envelope AdaptMsg). x.msg) is) moves.takes b at touch)
              | inr there ↦ inr there
            ]
      ]

  -- what two other cells tell each other
  told_elsewhere : (i j : ℕ) (b d : LeafState) → (j ≡ e.to → ⊥) → slice_get cells i ≡ Some b → slice_get cells j ≡ Some d → b.started ≡ true → Touches p.grid b.part.place d.part.place → HasAsked b.part d.part b.level d.level ⊎ Contains (rest ++ sent) (record { to = j; msg = Level i b.level })
  told_elsewhere i j b d other at there started touch =
      elim (holds.told i j b d at there started touch) [
        | inl has ↦ inl has
        | inr flies ↦
            elim (still_flies (record { to = j; msg = Level i b.level }) flies) [
              | inl is ↦ absurd (other (sym (ap (λ (x : Envelope AdaptMsg). x.to) is)))
              | inr stays ↦ inr stays
            ]
      ]

  -- what the cell tells another
  told_by : (j : ℕ) (d : LeafState) → (j ≡ e.to → ⊥) → slice_get cells j ≡ Some d → new.started ≡ true → Touches p.grid new.part.place d.part.place → HasAsked new.part d.part new.level d.level ⊎ Contains (rest ++ sent) (record { to = j; msg = Level e.to new.level })
  told_by j d other there started touch =
      elim (moves.tells started) [
        | inl told ↦
            let after = get-set_other cells e.to j new other ∙ there in
            let index : new.part.index ≡ e.to = (part_at p (slice_set cells e.to new) holds.problem parts_stay e.to new here_after).index in
            let listed = touching_listed p (slice_set cells e.to new) holds.problem parts_stay e.to j new d here_after after touch in
            let say : ℕ → Envelope AdaptMsg = λ j. record { to = j; msg = Level new.part.index new.level } in
            let said : Contains sent (say j) = subst (λ xs. Contains xs (say j)) (sym told) (Contains-map say new.part.neighbours j listed) in
            let is : say j ≡ record { to = j; msg = Level e.to new.level } = ap (λ k. record { to = j; msg = Level k new.level }) index in
            inr (Contains-append_right rest sent (record { to = j; msg = Level e.to new.level }) (subst (Contains sent) is said))
        | inr same ↦
            let touched : Touches p.grid c.part.place d.part.place = subst (λ q. Touches p.grid q d.part.place) same_place touch in
            let was = told_elsewhere e.to j c d other here there same.1 touched in
            let as_part : HasAsked c.part d.part c.level d.level ⊎ Contains (rest ++ sent) (record { to = j; msg = Level e.to c.level }) → HasAsked new.part d.part new.level d.level ⊎ Contains (rest ++ sent) (record { to = j; msg = Level e.to new.level }) =
            λ h. subst (λ l. HasAsked new.part d.part l d.level ⊎ Contains (rest ++ sent) (record { to = j; msg = Level e.to l })) (sym same.0)
            (subst (λ q. HasAsked q d.part c.level d.level ⊎ Contains (rest ++ sent) (record { to = j; msg = Level e.to c.level })) (sym moves.part) h) in
            as_part was
      ]

  told_all : (i j : ℕ) (b d : LeafState) → slice_get (slice_set cells e.to new) i ≡ Some b → slice_get (slice_set cells e.to new) j ≡ Some d → b.started ≡ true → Touches p.grid b.part.place d.part.place → HasAsked b.part d.part b.level d.level ⊎ Contains (rest ++ sent) (record { to = j; msg = Level i b.level })
  told_all i j b d at there started touch =
      elim (get-set_cases cells e.to i c new b here at) [
        | inl from ↦
            elim (get-set_cases cells e.to j c new d here there) [
              | inl to ↦ absurd (touch.apart (ap (λ (x : LeafState). x.part.place) (from.1 ∙ sym to.1)))
              | inr to ↦
                  let by = told_by j d to.0 to.1 (subst (λ (x : LeafState). x.started ≡ true) from.1 started) (subst (λ (x : LeafState). Touches p.grid x.part.place d.part.place) from.1 touch) in
                  subst (λ k. HasAsked b.part d.part b.level d.level ⊎ Contains (rest ++ sent) (record { to = j; msg = Level k b.level })) (sym from.0)
                  (subst (λ (x : LeafState). HasAsked x.part d.part x.level d.level ⊎ Contains (rest ++ sent) (record { to = j; msg = Level e.to x.level })) (sym from.1) by)
            ]
        | inr from ↦
            elim (get-set_cases cells e.to j c new d here there) [
              | inl to ↦
                  let touched : Touches p.grid b.part.place c.part.place = subst (λ q. Touches p.grid b.part.place q) (ap (λ (x : LeafState). x.part.place) to.1 ∙ same_place) touch in
                  let told = told_here i b from.1 started touched in
                  subst (λ k. HasAsked b.part d.part b.level d.level ⊎ Contains (rest ++ sent) (record { to = k; msg = Level i b.level })) (sym to.0)
                  (subst (λ (x : LeafState). HasAsked b.part x.part b.level x.level ⊎ Contains (rest ++ sent) (record { to = e.to; msg = Level i b.level })) (sym to.1) told)
              | inr to ↦ told_elsewhere i j b d to.0 from.1 to.1 started touch
            ]
      ]

  pub handling_keeps : AdaptHolds p (slice_set cells e.to new) (rest ++ sent)
  handling_keeps =
      record {
        problem = holds.problem;
        parts = parts_stay;
        low = low_after;
        high = high_after;
        starts = starts_after;
        opening = opening_after;
        messages = messages_after;
        told = told_all;
      }

pub handling_of : (p : AdaptProblem) (cells : List LeafState) (e : Envelope AdaptMsg) (rest : List (Envelope AdaptMsg)) (c : LeafState) → AdaptHolds p cells (e ∷ rest) → slice_get cells e.to ≡ Some c → IsHandling p cells e.to e.msg c (adapt_react p e.to c e.msg).cell (adapt_react p e.to c e.msg).sent
handling_of p cells e rest c holds here =
    handling p cells holds.problem holds.parts holds.high e.to c here e.msg (start_waits p cells e rest c holds here) (holds.opening e.to c here) (All-head (λ x. IsTold p cells x.to x.msg) e rest holds.messages)

pub keeps : (p : AdaptProblem) (cells : List LeafState) (e : Envelope AdaptMsg) (rest : List (Envelope AdaptMsg)) (c : LeafState) → AdaptHolds p cells (e ∷ rest) → slice_get cells e.to ≡ Some c → AdaptHolds p (slice_set cells e.to (adapt_react p e.to c e.msg).cell) (rest ++ (adapt_react p e.to c e.msg).sent)
keeps p cells e rest c holds here =
    handling_keeps p cells e rest c (adapt_react p e.to c e.msg).cell (adapt_react p e.to c e.msg).sent holds here (handling_of p cells e rest c holds here)
