-- The start of the phase: the invariant stands, and the problem tells the weight.
use Rattle.std.proofs.Common.{◌≡◌, ℕ, zero, suc, ◌+◌, ◌-◌, ◌*◌, ◌<◌, ◌≤◌, true, cond, List, [], ◌∷◌, ◌++◌, Some, map, length, refl, sym, ap, ◌∙◌, subst, arith, inl, inr, mul-le-mul_right}
use Rattle.std.specs.Prelude.{slice_get, slice_index, ◌&&◌, sum_by}
use Rattle.std.specs.List.{range_with_len}
use Rattle.std.proofs.lemmas.Bool.{cases_eq, eq-eqb, ne_eqb, false≢true}
use Rattle.std.proofs.lemmas.List.Elements.{All-map}
use Rattle.std.proofs.lemmas.List.Sums.{sum_by-append, sum_by-cons}
use Rattle.std.proofs.lemmas.Option.{slice_get_cases}
use Rattle.phase_core.specs.declared.envelope.Envelope.{Envelope}
use Rattle.phase_core.specs.Machine.{start_flight}
use Rattle.phase_core.specs.Lemmas.Starts.{start_flight-suc}
use Rattle.leaf_set.specs.LevelRules.{IsSolution}
use Rattle.adapt_core.specs.declared.adapt_msg.AdaptMsg.{AdaptMsg}
use Rattle.adapt_core.specs.declared.adapt_msg.AdaptMsg.TheVariants.{Start}
use Rattle.adapt_core.specs.Cells.{LeafPart, LeafState, AdaptProblem}
use Rattle.adapt_core.specs.React.{adapt_start}
use Rattle.adapt_core.specs.Problem.{mesh_of, wishes_of, IsAdaptProblem, AdaptBegins, unopened}
use Rattle.adapt_core.specs.Holds.{starts_to, starts_due, IsTold, AdaptHolds, degree, levels_left, cell_weight, levels_in, adapt_weight, adapt_start_weight, touching_pairs}
use Rattle.phase_core.specs.Lemmas.Lookups.{get-map, get-map_back}
use Rattle.adapt_core.specs.Lemmas.Keeping.{start_at}
use Rattle.adapt_core.specs.Lemmas.Weighing.{level_any}

parts-unopened : (parts : List LeafPart) → map (λ (c : LeafState). c.part) (map unopened parts) ≡ parts
parts-unopened [] = refl
parts-unopened (part ∷ parts) = let put : List LeafPart → List LeafPart = λ xs. part ∷ xs in ap put (parts-unopened parts)

abbrev first : ℕ → Envelope AdaptMsg
first to = record { to = to; msg = Start }

-- one start message more
starts-more : (i count : ℕ) → starts_to i (start_flight adapt_start (suc count)) ≡ starts_to i (start_flight adapt_start count) + start_at i (first count)
starts-more i count =
    let last : List (Envelope AdaptMsg) = first count ∷ [] in
    let full : starts_to i (start_flight adapt_start (suc count)) ≡ starts_to i (start_flight adapt_start count ++ last) = ap (starts_to i) (start_flight-suc adapt_start count) in
    let parts : starts_to i (start_flight adapt_start count ++ last) ≡ starts_to i (start_flight adapt_start count) + starts_to i last = sum_by-append (start_at i) (start_flight adapt_start count) last in
    let one : starts_to i last ≡ start_at i (first count) = omega arith in
    omega (arith, full, parts, one)

start_at-same : (i to : ℕ) → to ≡ i → start_at i (first to) ≡ 1
start_at-same i to is = ap (λ b. cond (b && true) 1 0) (eq-eqb to i is)

start_at-other : (i to : ℕ) → (to ≡ i → ⊥) → start_at i (first to) ≡ 0
start_at-other i to n = ap (λ b. cond (b && true) 1 0) (ne_eqb to i n)

starts_none : (i count : ℕ) → count ≤ i → starts_to i (start_flight adapt_start count) ≡ 0
starts_none i zero past = refl
starts_none i (suc count) past =
    omega (arith, starts-more i count, starts_none i count (omega arith), start_at-other i count (λ is. omega arith))

starts_one : (i count : ℕ) → i < count → starts_to i (start_flight adapt_start count) ≡ 1
starts_one i zero within = absurd (omega arith)
starts_one i (suc count) within =
    elim (cases_eq count i) [
      | inl is ↦ omega (arith, starts-more i count, starts_none i count (omega arith), start_at-same i count is)
      | inr other ↦ omega (arith, starts-more i count, starts_one i count (let less : i < count = omega arith in less), start_at-other i count other)
    ]

levels_none : (count : ℕ) → levels_in (start_flight adapt_start count) ≡ 0
levels_none zero = refl
levels_none (suc count) =
    let last : List (Envelope AdaptMsg) = first count ∷ [] in
    let full : levels_in (start_flight adapt_start (suc count)) ≡ levels_in (start_flight adapt_start count ++ last) = ap levels_in (start_flight-suc adapt_start count) in
    let parts : levels_in (start_flight adapt_start count ++ last) ≡ levels_in (start_flight adapt_start count) + levels_in last = sum_by-append level_any (start_flight adapt_start count) last in
    let one : levels_in last ≡ 0 = omega arith in
    omega (arith, full, parts, one, levels_none count)

module _ (p : AdaptProblem) (valid : IsAdaptProblem p) where
  is_unopened : (i : ℕ) (c : LeafState) → slice_get (map unopened p.parts) i ≡ Some c → (part : LeafPart) × (slice_get p.parts i ≡ Some part) × (unopened part ≡ c)
  is_unopened i c at = get-map_back unopened p.parts i c at

  none_started : (i : ℕ) (c : LeafState) → slice_get (map unopened p.parts) i ≡ Some c → c.started ≡ true → ⊥
  none_started i c at started = false≢true (ap (λ (x : LeafState). x.started) (is_unopened i c at).2 ∙ started)

  low_first : (i : ℕ) (c : LeafState) → slice_get (map unopened p.parts) i ≡ Some c → c.part.place.level - 1 ≤ c.level
  low_first i c at = let u = is_unopened i c at in subst (λ (x : LeafState). x.part.place.level - 1 ≤ x.level) u.2 (omega arith)

  high_first : (levels : List ℕ) → IsSolution p.grid (mesh_of p) (wishes_of p) levels → (i : ℕ) (c : LeafState) → slice_get (map unopened p.parts) i ≡ Some c → c.level ≤ slice_index levels i
  high_first levels h i c at =
      let u = is_unopened i c at in
      let r = h.range i u.0.place (get-map (λ (x : LeafPart). x.place) p.parts i u.0 u.1) in
      subst (λ (x : LeafState). x.level ≤ slice_index levels i) u.2 r.0

  starts_first : (i : ℕ) → starts_to i (start_flight adapt_start (length (map unopened p.parts))) ≡ starts_due (slice_get (map unopened p.parts) i)
  starts_first i =
      elim ((slice_get_cases (map unopened p.parts) i).1) [
        | inl within ↦
            let u = is_unopened i within.0 within.2 in
            let due : starts_due (slice_get (map unopened p.parts) i) ≡ 1 = ap starts_due (within.2 ∙ ap Some (sym u.2)) in
            omega (arith, due, starts_one i (length (map unopened p.parts)) within.1)
        | inr past ↦
            let due : starts_due (slice_get (map unopened p.parts) i) ≡ 0 = ap starts_due past.1 in
            omega (arith, due, starts_none i (length (map unopened p.parts)) past.0)
      ]

  holds_first : AdaptHolds p (map unopened p.parts) (start_flight adapt_start (length (map unopened p.parts)))
  holds_first =
      let n : ℕ = length (map unopened p.parts) in
      record {
        problem = valid;
        parts = parts-unopened p.parts;
        low = low_first;
        high = high_first;
        starts = starts_first;
        opening = λ i c at started. absurd (none_started i c at started);
        messages = All-map (λ (x : Envelope AdaptMsg). IsTold p (map unopened p.parts) x.to x.msg) (λ to. record { to = to; msg = adapt_start to }) (range_with_len 0 n) (λ k d within. tt);
        told = λ i j b c at there started touch. absurd (none_started i b at started);
      }

pub start_holds : (p : AdaptProblem) (cells : List LeafState) → AdaptBegins p cells → AdaptHolds p cells (start_flight adapt_start (length cells))
start_holds p cells begins = subst (λ xs. AdaptHolds p xs (start_flight adapt_start (length xs))) (sym begins.begun) (holds_first p begins.problem)

pub start_weighs : (p : AdaptProblem) (cells : List LeafState) → AdaptBegins p cells → adapt_weight p cells (start_flight adapt_start (length cells)) ≡ adapt_start_weight p
start_weighs p cells begins = omega (arith, ap (sum_by cell_weight) begins.begun, levels_none (length cells))

-- at most a start for each leaf, and three level messages for each ordered pair that touches
pub start_weight_most : (p : AdaptProblem) → adapt_start_weight p ≤ length p.parts + 3 * touching_pairs p
start_weight_most p = go p.parts
  where
    go : (parts : List LeafPart) → sum_by cell_weight (map unopened parts) ≤ length parts + 3 * sum_by degree parts
    go [] = omega arith
    go (part ∷ parts) =
        let first_cell : LeafState = unopened part in
        let weights : sum_by cell_weight (first_cell ∷ map unopened parts) ≡ cell_weight first_cell + sum_by cell_weight (map unopened parts) = sum_by-cons cell_weight first_cell (map unopened parts) in
        let degrees : sum_by degree (part ∷ parts) ≡ degree part + sum_by degree parts = sum_by-cons degree part parts in
        let one : cell_weight first_cell ≡ 1 + degree part + levels_left first_cell * degree part = refl in
        let two : levels_left first_cell * degree part ≤ 2 * degree part = mul-le-mul_right (degree part) (let few : levels_left first_cell ≤ 2 = omega arith in few) in
        omega (arith, weights, degrees, one, two, go parts)
