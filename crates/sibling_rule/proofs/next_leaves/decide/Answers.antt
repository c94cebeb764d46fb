-- One leaf's more, and at the end a balanced mesh.
use Rattle.std.proofs.Common.{◌≡◌, ◌+◌, ◌++◌, drop, slice_index, arith, sym, ap, subst, ◌∙◌, append-nil}
use Rattle.std.proofs.lemmas.List.{append_assoc}
use Rattle.leaf_set.specs.NextMesh.{leaves_after, next_mesh}
use Rattle.leaf_set.specs.Tiling.{IsTiling}
use Rattle.sibling_rule.proofs.NextMeshSteps.{next_mesh-drop, next_mesh-drop_all, IsTiling-next_mesh, room_for_children}
use Rattle.sibling_rule.proofs.next_leaves.decide.Goals as goal

pub push_leaves_after-requires : goal.push_leaves_after-requires
push_leaves_after-requires c =
    room_for_children c.args.set.now c.args.levels.now c.loop-i.i c.place.result c.len-i-end.ensures.tiles c.requires.decided c.place.ensures.leaf

pub loop-i-preserved : goal.loop-i-preserved
loop-i-preserved c =
    let step = next_mesh-drop c.args.set.now.places c.args.levels.now c.loop-i.i c.place.result c.place.ensures.leaf
    (omega (arith, c.requires.decided.1.one_each, c.loop-i-test.true, c.len-i-end.ensures.len)) in
    let rest = next_mesh (drop (c.loop-i.i + 1) c.args.set.now.places) (drop (c.loop-i.i + 1) c.args.levels.now) in
    ap (λ places. places ++ rest) c.in_ok-push_leaves_after.ensures
    ∙ append_assoc c.loop-i.places.items (leaves_after c.place.result (slice_index c.args.levels.now c.loop-i.i)) rest
    ∙ ap (λ left. c.loop-i.places.items ++ left) (sym step)
    ∙ c.loop-i.invariant

pub of-requires : goal.of-requires
of-requires c =
    let end = next_mesh-drop_all c.args.set.now.places c.args.levels.now c.loop-i.i
    (omega (arith, c.loop-i-test.false, c.loop-i.auto.i-end, c.len-i-end.ensures.len)) in
    let all : c.loop-i.places.items ≡ next_mesh c.args.set.now.places c.args.levels.now =
    sym (append-nil c.loop-i.places.items) ∙ ap (λ left. c.loop-i.places.items ++ left) (sym end) ∙ c.loop-i.invariant in
    record {
      tiles = subst (λ grid. IsTiling (record { grid = grid; places = c.loop-i.places.items })) (sym c.domain.ensures.grid)
          (subst (λ places. IsTiling (record { grid = c.args.set.now.grid; places = places })) (sym all)
          (IsTiling-next_mesh c.args.set.now c.args.levels.now c.len-i-end.ensures.tiles c.requires.decided));
    }
