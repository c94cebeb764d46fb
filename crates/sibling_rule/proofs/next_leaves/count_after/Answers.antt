-- One leaf's more, and no count too large.
use Rattle.std.proofs.Common.{◌+◌, length, drop, slice_index, arith, ap, length-append}
use Rattle.leaf_set.specs.NextMesh.{leaves_after, next_mesh}
use Rattle.sibling_rule.proofs.NextMeshSteps.{next_mesh-drop, length-next_mesh}
use Rattle.sibling_rule.proofs.next_leaves.count_after.Goals as goal

pub overflow_add-count : goal.overflow_add-count
overflow_add-count c =
    let step = next_mesh-drop c.args.set.now.places c.args.levels.now c.loop-i.i c.place.result c.place.ensures.leaf
    (omega (arith, c.requires.decided.1.one_each, c.loop-i-test.true, c.len-i-end.ensures.len)) in
    let parts = length-append (leaves_after c.place.result (slice_index c.args.levels.now c.loop-i.i))
    (next_mesh (drop (c.loop-i.i + 1) c.args.set.now.places) (drop (c.loop-i.i + 1) c.args.levels.now)) in
    let limit = length-next_mesh c.args.set.now c.args.levels.now c.len-i-end.ensures.tiles c.requires.decided in
    omega (arith, ap length step, parts, limit, c.loop-i.invariant, c.leaf_count_after-count.ensures.value)

pub loop-i-preserved : goal.loop-i-preserved
loop-i-preserved c =
    let step = next_mesh-drop c.args.set.now.places c.args.levels.now c.loop-i.i c.place.result c.place.ensures.leaf
    (omega (arith, c.requires.decided.1.one_each, c.loop-i-test.true, c.len-i-end.ensures.len)) in
    let parts = length-append (leaves_after c.place.result (slice_index c.args.levels.now c.loop-i.i))
    (next_mesh (drop (c.loop-i.i + 1) c.args.set.now.places) (drop (c.loop-i.i + 1) c.args.levels.now)) in
    omega (arith, ap length step, parts, c.loop-i.invariant, c.leaf_count_after-count.ensures.value)
