-- A handling lowers the phase's weight.
use Rattle.std.proofs.Common.{◌≡◌, ℕ, ◌+◌, ◌-◌, ◌*◌, ◌<◌, ◌≤◌, Bool, true, false, cond, List, [], ◌∷◌, ◌++◌, Some, map, length, refl, ap, ◌∙◌, subst, arith, inl, inr, mul-le-mul_right}
use Rattle.std.specs.Prelude.{IsPermutation, slice_get, slice_set, slice_index, ◌&&◌, nat_lt, sum_by}
use Rattle.std.proofs.lemmas.Bool.{cases_Bool, and_parts, ltb-true, cond-true, cond-false}
use Rattle.std.proofs.lemmas.List.Sums.{sum_by-append, sum_by-cons, sum_by-set}
use Rattle.std.proofs.lemmas.List.Sorted.{sum_by-IsPermutation}
use Rattle.std.proofs.lemmas.Option.{slice_get_within, get_or_from_slice_get}
use Rattle.phase_core.specs.declared.envelope.Envelope.{Envelope}
use Rattle.leaf_set.specs.Solutions.{greatest_levels}
use Rattle.leaf_set.proofs.Solutions.{greatest_levels-IsSolution, greatest_at}
use Rattle.adapt_core.specs.declared.adapt_msg.AdaptMsg.{AdaptMsg}
use Rattle.adapt_core.specs.declared.adapt_msg.AdaptMsg.TheVariants.{Start, Level}
use Rattle.adapt_core.specs.Cells.{LeafState, AdaptProblem}
use Rattle.adapt_core.specs.React.{asked, tells, raised, opened, adapt_react}
use Rattle.adapt_core.specs.Problem.{mesh_of, wishes_of}
use Rattle.adapt_core.specs.Holds.{is_start, is_level, AdaptHolds, degree, cell_weight, levels_in, adapt_weight}
use Rattle.adapt_core.specs.Lemmas.Leaves.{get_place}
use Rattle.adapt_core.specs.Lemmas.Keeping.{start_waits, handling_of}

-- what an envelope adds to the count of the level messages
abbrev pub level_any : Envelope AdaptMsg → ℕ
level_any e = cond (is_level e.msg) 1 0

pub levels_in-tells : (index level : ℕ) (js : List ℕ) → levels_in (map (λ j. record { to = j; msg = Level index level }) js) ≡ length js
levels_in-tells index level [] = refl
levels_in-tells index level (j ∷ js) =
    let told : ℕ → Envelope AdaptMsg = λ x. record { to = x; msg = Level index level } in
    omega (arith, sum_by-cons level_any (told j) (map told js), levels_in-tells index level js)

-- a telling weighs no more than the rise that it tells of
tell_weighs : (l level new deg rest : ℕ) → level < new → new ≤ l + 1 → deg + (rest + (l + 1 - new) * deg) < rest + (l + 1 - level) * deg + 1
tell_weighs l level new deg rest up most =
    let more : (l + 1 - new + 1) * deg ≤ (l + 1 - level) * deg = mul-le-mul_right deg (let fits : l + 1 - new + 1 ≤ l + 1 - level = omega arith in fits) in
    omega arith

rise_weighs : (l level new deg : ℕ) → level ≤ new → (l + 1 - new) * deg ≤ (l + 1 - level) * deg
rise_weighs l level new deg up = mul-le-mul_right deg (let fits : l + 1 - new ≤ l + 1 - level = omega arith in fits)

lighter : (p : AdaptProblem) (at : ℕ) (c : LeafState) (msg : AdaptMsg) → (is_start msg ≡ true → c.started ≡ false) → (adapt_react p at c msg).cell.level ≤ c.part.place.level + 1 → levels_in (adapt_react p at c msg).sent + cell_weight (adapt_react p at c msg).cell < cell_weight c + cond (is_level msg) 1 0
lighter p at c Start waits most =
    let new : LeafState = opened c in
    let due : cell_weight c ≡ 1 + degree c.part + (c.part.place.level + 1 - c.level) * degree c.part = ap (λ b. cond b 0 (1 + degree c.part) + (c.part.place.level + 1 - c.level) * degree c.part) (waits refl) in
    let said : levels_in (tells c.part new.level) ≡ degree c.part = levels_in-tells c.part.index new.level c.part.neighbours in
    let less = rise_weighs c.part.place.level c.level new.level (degree c.part) (omega arith) in
    omega (arith, due, said, less)
lighter p at c (Level from value) waits most =
    let asks : ℕ = asked c.part from value in
    let new : LeafState = raised c from value in
    let goes : Bool = c.started && nat_lt c.level new.level in
    let rest : ℕ = cond c.started 0 (1 + degree c.part) in
    elim (cases_Bool goes) [
      | inl is ↦
          let said : levels_in (cond goes (tells c.part new.level) []) ≡ degree c.part = ap levels_in (cond-true goes (tells c.part new.level) [] is) ∙ levels_in-tells c.part.index new.level c.part.neighbours in
          let up : c.level < new.level = ltb-true c.level new.level (and_parts c.started (nat_lt c.level new.level) is).1 in
          omega (arith, said, tell_weighs c.part.place.level c.level new.level (degree c.part) rest (omega arith) most)
      | inr none ↦
          let silent : levels_in (cond goes (tells c.part new.level) []) ≡ 0 = ap levels_in (cond-false goes (tells c.part new.level) [] none) in
          omega (arith, silent, rise_weighs c.part.place.level c.level new.level (degree c.part) (omega arith))
    ]

-- a cell's weight counts once in the sum
lower_by : (after before was now rest sent one : ℕ) → after + was ≡ before + now → sent + now < was + one → after + (rest + sent) < before + (one + rest)
lower_by after before was now rest sent one moved less = omega arith

pub lowers : (p : AdaptProblem) (cells : List LeafState) (e : Envelope AdaptMsg) (rest : List (Envelope AdaptMsg)) (c : LeafState) → AdaptHolds p cells (e ∷ rest) → slice_get cells e.to ≡ Some c → adapt_weight p (slice_set cells e.to (adapt_react p e.to c e.msg).cell) (rest ++ (adapt_react p e.to c e.msg).sent) < adapt_weight p cells (e ∷ rest)
lowers p cells e rest c holds here =
    let r = adapt_react p e.to c e.msg in
    let valid = holds.problem in
    let moves = handling_of p cells e rest c holds here in
    let most : r.cell.level ≤ slice_index (greatest_levels p.grid (mesh_of p)) e.to = moves.high (greatest_levels p.grid (mesh_of p)) (greatest_levels-IsSolution p.grid (mesh_of p) (wishes_of p) valid.domain valid.mesh valid.balanced) in
    let greatest = greatest_at p.grid (mesh_of p) e.to c.part.place (get_place p cells valid holds.parts e.to c here) in
    let within = slice_get_within cells e.to c here in
    let moved : sum_by cell_weight (slice_set cells e.to r.cell) + cell_weight c ≡ sum_by cell_weight cells + cell_weight r.cell =
    subst (λ x. sum_by cell_weight (slice_set cells e.to r.cell) + cell_weight x ≡ sum_by cell_weight cells + cell_weight r.cell) (get_or_from_slice_get cells e.to c c here) (sum_by-set cell_weight cells e.to r.cell c within) in
    let less = lighter p e.to c e.msg (start_waits p cells e rest c holds here) (omega (arith, most, greatest)) in
    let sum_after : levels_in (rest ++ r.sent) ≡ levels_in rest + levels_in r.sent = sum_by-append level_any rest r.sent in
    let sum_before : levels_in (e ∷ rest) ≡ level_any e + levels_in rest = sum_by-cons level_any e rest in
    rw (sum_after, sum_before) (lower_by (sum_by cell_weight (slice_set cells e.to r.cell)) (sum_by cell_weight cells) (cell_weight c) (cell_weight r.cell) (levels_in rest) (levels_in r.sent) (level_any e) moved less)

pub weighs_in_any_order : (p : AdaptProblem) (cells : List LeafState) (flight other : List (Envelope AdaptMsg)) → IsPermutation flight other → adapt_weight p cells other ≡ adapt_weight p cells flight
weighs_in_any_order p cells flight other moved = ap (λ n. sum_by cell_weight cells + n) (sum_by-IsPermutation level_any flight other moved)
