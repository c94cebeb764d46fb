use Rattle.std.proofs.Common.{◌≡◌, ◌+◌, ◌*◌, ◌-◌, ◌<◌, ◌≤◌, ap, ◌∙◌, arith, slice_index, mul-le-mul_right}
use Rattle.ghost_pieces.proofs.FillSteps.{row_filled}
use Rattle.ghost_pieces.proofs.copied_boxes.copy_lines.Goals as goal

pub copy_run-requires-clause-room : goal.copy_run-requires-clause-room
copy_run-requires-clause-room c =
    let j = c.loop-j.j in
    let r : (j + 1) * c.args.count ≤ c.args.lines * c.args.count = mul-le-mul_right c.args.count (let e : j + 1 ≤ c.args.lines = omega (arith, c.loop-j-test.true) in e) in
    omega (arith, c.requires.room, c.loop-j.invariant.long)

pub copy_run-requires-clause-cells : goal.copy_run-requires-clause-cells
copy_run-requires-clause-cells c =
    let last : c.args.count - 1 < c.args.count = omega (arith, c.requires.some) in
    let r = c.requires.cells (c.args.count - 1) c.loop-j.j last c.loop-j-test.true in
    omega (arith, c.requires.some)

pub loop-j-preserved : goal.loop-j-preserved
loop-j-preserved c =
    let a = c.args in
    let j = c.loop-j.j in
    let e = c.copy_run.ensures in
    row_filled (λ i j. slice_index a.q.now (a.first + j * a.step + i)) 0 a.count j a.out.now c.loop-j.out c.copy_run.new.out c.loop-j.invariant e.long
    (λ i h. ap (slice_index c.copy_run.new.out) (let f : 0 + j * a.count + i ≡ j * a.count + i = omega arith in f) ∙ e.run i h)
    (λ i h. e.earlier i (omega arith))
