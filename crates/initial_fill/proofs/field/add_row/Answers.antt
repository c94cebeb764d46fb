-- A row has room, and what it holds is a stretch.
use Rattle.std.proofs.Common.{ℕ, ◌+◌, ◌*◌, ◌<◌, ◌≤◌, ◌∙◌, arith, mul-le-mul_right}
use Rattle.std.proofs.lemmas.Nat.{mul-add-lt}
use Rattle.params_check.specs.Amounts.{holds_cell}
use Rattle.initial_fill.proofs.Adding.{row_between}
use Rattle.initial_fill.proofs.Outside.{row_has_room}
use Rattle.initial_fill.proofs.field.add_row.Goals as goal

pub add_between-requires-clause-room : goal.add_between-requires-clause-room
add_between-requires-clause-room c =
    let n = c.args.n in
    let r : ℕ = c.args.z * n + c.args.y in
    let b : r < n * n = mul-add-lt c.args.z n c.args.y n c.requires.z c.requires.y in
    let w : (r + 1) * n ≤ n * n * n = mul-le-mul_right n (let e : r + 1 ≤ n * n = omega arith in e) in
    let h = c.part_in-cells.ensures.high in
    row_has_room n r c.part_in-cells.result.low c.part_in-cells.result.high c.args.shape.amount c.args.amounts.now (let s = c.requires.some in omega arith) c.requires.room
    (let l = c.requires.cells in omega arith)

pub returns : goal.returns
returns c =
    let n = c.args.n in
    let form = c.args.shape.form in
    let cells = c.part_in-cells.result in
    row_between form n c.args.place c.args.shape.amount c.args.y c.args.z cells.low cells.high c.args.amounts.now c.add_between.new.amounts (let s = c.requires.some in omega arith)
    c.requires.y c.part_in-cells.ensures.high
    (λ u h.
    c.part_in-cells.ensures.part u h
    ∙ c.line_of-line.ensures.line (c.from-3.result * n + u)
    ∙ (λ i. holds_cell form ((c.from-3.ensures ∙ c.x.ensures.x) i * n + u) ((c.from.ensures ∙ c.y.ensures.y) i * n + c.args.y) ((c.from-2.ensures ∙ c.z.ensures.z) i * n + c.args.z)))
    c.add_between.ensures
