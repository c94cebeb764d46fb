-- The cell lies within the box of its direction.
use Rattle.std.proofs.Common.{◌≡◌, ℕ, ◌+◌, ◌-◌, ◌*◌, ◌<◌, ◌≤◌, length, sym, ap, ◌∙◌, subst, arith}
use Rattle.criteria.specs.Lemmas.Rows.{box_size, row_number, row_side}
use Rattle.criteria.proofs.RowNumbers.{row-within}
use Rattle.criteria.proofs.row.low_end.Goals as goal

pub bounds-cells-row : goal.bounds-cells-row
bounds-cells-row c =
    let b = c.args.block.now in
    let y = c.args.y in
    let z = c.args.z in
    let limits = c.edge.ensures.limits in
    let edge = c.edge.ensures.edge in
    let depth = c.depth-depth.ensures.depth in
    let rows : ℕ = row_number b.edge b.depth y z in
    let box : ℕ = box_size b.edge b.depth (0 + 3 * row_side b.edge y z) in
    let within : (rows + 1) * b.depth ≤ box = row-within b.edge b.depth y z limits.shallowest c.requires.y c.requires.z 0 (omega arith) in
    let side : c.row_of-row.result.side ≡ row_side b.edge y z = c.row_of-row.ensures.side ∙ ap (λ n. row_side n y z) edge in
    let direction : 3 * c.row_of-row.result.side ≡ 0 + 3 * row_side b.edge y z = omega arith in
    let long : length c.cells_toward-cells.result.now ≡ box = c.cells_toward-cells.ensures.size ∙ ap (box_size b.edge b.depth) direction in
    let number : c.row_of-row.result.number ≡ rows = c.row_of-row.ensures.number ∙ (λ i. row_number (edge i) (depth i) y z) in
    let least : 1 ≤ b.depth = limits.shallowest in
    let base : rows * b.depth + (b.depth - 1) < box = omega arith in
    subst (λ k. k < length c.cells_toward-cells.result.now)
    (let e : rows * b.depth + (b.depth - 1) ≡ c.row_of-row.result.number * c.depth-depth.result + (c.depth-depth.result - 1) = sym (λ i. number i * depth i + (depth i - 1)) in e)
    (subst (λ k. rows * b.depth + (b.depth - 1) < k) (sym long) base)
