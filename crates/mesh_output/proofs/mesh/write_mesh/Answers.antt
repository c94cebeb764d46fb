-- The first line, each leaf, a page that fails, and the last page.
use Rattle.std.proofs.Common.{length, refl, sym, ap, ◌∙◌, arith}
use Rattle.mesh_output.proofs.Pages.{Wrote-from_err, Holds-all, Holds-next, Holds-grew, Holds-wrote, mesh_front-begins, leaf_line-pieces, mesh_front-next, mesh_front-all, mesh_front-grew}
use Rattle.mesh_output.proofs.mesh.write_mesh.Goals as goal

pub loop-place-init : goal.loop-place-init
loop-place-init g c = record {
  holds = rw (sym (mesh_front-begins c.args.set.now.places c.len.result _ _ _ c.len.ensures.len c.of-page.ensures.bytes c.push_number.ensures.bytes c.push.ensures.bytes)) (Holds-all _ _);
  same_rest = refl;
  no_fall = omega arith;
}

pub returns-in_err-make_room-clause-wrote : goal.returns-in_err-make_room-clause-wrote
returns-in_err-make_room-clause-wrote g c =
    Wrote-from_err _ _ _ _ c.from_residual.result c.from_residual.ensures.1
    (mesh_front-grew _ _ c.args.set.now.places c.loop-place.place-index
    (Holds-grew _ _ _ _ _ c.loop-place.invariant.holds c.in_err-make_room.ensures.wrote))

pub loop-place-preserved : goal.loop-place-preserved
loop-place-preserved g c =
    let mesh = c.args.set.now.places in
    let i = c.loop-place.place-index in
    let same = c.places-place-items.ensures.places in
    let line = leaf_line-pieces c.place-item.result _ _ _ c.push_place.ensures.bytes c.push-in-loop-place.ensures.bytes in
    record {
      holds = rw (line, mesh_front-next mesh i c.place-item.result (omega (arith, ap length same)) (rw same at c.place-item.is)) (Holds-next _ _ _ _ _ _ _ c.loop-place.invariant.holds c.in_ok-make_room.ensures.moved);
      same_rest = c.in_ok-make_room.ensures.same_rest ∙ c.loop-place.invariant.same_rest;
      no_fall = omega (arith, c.in_ok-make_room.ensures.cause, c.loop-place.invariant.no_fall);
    }

pub returns-clause-wrote : goal.returns-clause-wrote
returns-clause-wrote g c =
    let mesh = c.args.set.now.places in
    let i = c.loop-place.place-index in
    Holds-wrote _ _ _ _ _ c.write_all.result (rw (mesh_front-all mesh i (omega (arith, ap length c.places-place-items.ensures.places))) at c.loop-place.invariant.holds) (rw c.bytes.ensures.bytes at c.write_all.ensures.wrote)
