-- What is left of the proof of this function.
use Rattle.std.proofs.Common.{arith}
use Rattle.block_fields.proofs.ShellSizes.{cells_first-of, start-early, start-late}
use Rattle.block_fields.proofs.shell.ghost_start.Goals as goal

pub overflow_sub-result : goal.overflow_sub-result
overflow_sub-result c =
    let a = c.args in
    let e = cells_first-of a.n a.depth a.x a.y a.z c.cells_before.result c.side_length.result c.cells_before-2.result c.side_length-2.result c.side_length-3.result c.cells_before-3.result c.cells_before.ensures.before c.side_length.ensures.length c.cells_before-2.ensures.before c.side_length-2.ensures.length c.side_length-3.ensures.length c.cells_before-3.ensures.before in
    let s = start-late a.n a.depth a.x a.y a.z c.requires.x c.requires.y c.requires.z c.if-x-y-gt13.true in
    omega arith

pub returns-then-x-y-gt13 : goal.returns-then-x-y-gt13
returns-then-x-y-gt13 c =
    let a = c.args in
    let e = cells_first-of a.n a.depth a.x a.y a.z c.cells_before.result c.side_length.result c.cells_before-2.result c.side_length-2.result c.side_length-3.result c.cells_before-3.result c.cells_before.ensures.before c.side_length.ensures.length c.cells_before-2.ensures.before c.side_length-2.ensures.length c.side_length-3.ensures.length c.cells_before-3.ensures.before in
    let s = start-late a.n a.depth a.x a.y a.z c.requires.x c.requires.y c.requires.z c.if-x-y-gt13.true in
    record { start = omega arith }

pub returns-else-x-y-gt13 : goal.returns-else-x-y-gt13
returns-else-x-y-gt13 c =
    let a = c.args in
    let e = cells_first-of a.n a.depth a.x a.y a.z c.cells_before.result c.side_length.result c.cells_before-2.result c.side_length-2.result c.side_length-3.result c.cells_before-3.result c.cells_before.ensures.before c.side_length.ensures.length c.cells_before-2.ensures.before c.side_length-2.ensures.length c.side_length-3.ensures.length c.cells_before-3.ensures.before in
    let s = start-early a.n a.depth a.x a.y a.z c.requires.x c.requires.y c.requires.z c.if-x-y-gt13.false in
    record { start = omega arith }
