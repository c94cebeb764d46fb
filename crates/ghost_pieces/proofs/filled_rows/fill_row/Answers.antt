use Rattle.std.proofs.Common.{◌≡◌, ◌+◌, ◌*◌, ◌/◌, ◌<◌, arith}
use Rattle.ghost_pieces.specs.Lemmas.Parts.{further}
use Rattle.ghost_pieces.proofs.SentBounds.{number_within, span-coarser, span-finer, span-same}
use Rattle.ghost_pieces.proofs.filled_rows.fill_row.Goals as goal

pub copy_cells-requires-clause-cells : goal.copy_cells-requires-clause-cells
copy_cells-requires-clause-cells c i h =
    let n = c.args.n in
    let s = span-same n c.args.level c.args.from c.requires.even (c.if-level-from.true) in
    let w = c.requires.x.within i h in
    let r = number_within n (further c.args.x.start c.args.x.runs i) c.args.y c.args.z (omega arith) (omega (arith, c.requires.y)) (omega (arith, c.requires.z)) in
    omega (arith, c.requires.all)

pub part_cells-requires-clause-cells : goal.part_cells-requires-clause-cells
part_cells-requires-clause-cells c i h =
    let n = c.args.n in
    let s = span-coarser n c.args.level c.args.from c.requires.even (omega (arith, c.requires.near, c.if-from-level.true)) in
    let w = c.requires.x.within i h in
    let r = number_within n (further c.args.x.start c.args.x.runs i / 2) (c.args.y / 2) (c.args.z / 2) (omega arith) (omega (arith, c.requires.y)) (omega (arith, c.requires.z)) in
    omega (arith, c.requires.all)

pub sum_cells-requires-clause-cells : goal.sum_cells-requires-clause-cells
sum_cells-requires-clause-cells c i h =
    let n = c.args.n in
    let less : c.args.level < c.args.from = omega (arith, c.if-level-from.false, c.if-from-level.false) in
    let s = span-finer n c.args.level c.args.from less in
    let w = c.requires.x.within i h in
    let x = further c.args.x.start c.args.x.runs i in
    let even = c.requires.even in
    let r = number_within n (2 * x + 1) (2 * c.args.y + 1) (2 * c.args.z + 1) (omega arith) (omega (arith, c.requires.y)) (omega (arith, c.requires.z)) in
    let e : ((2 * c.args.z + 1) * n + (2 * c.args.y + 1)) * n + (2 * x + 1) ≡ (2 * c.args.z * n + 2 * c.args.y) * n + 2 * x + n * n + n + 1 = omega arith in
    omega (arith, c.requires.all)
