-- What is left of the proof of this function.
use Rattle.std.proofs.Common.{refl, subst}
use Rattle.leaf_set.specs.LeafFaults.{Jumps, IsFirstPair}
use Rattle.leaf_set.specs.Meshes.{IsMesh}
use Rattle.leaf_set.proofs.MeshLaws.{IsMesh-HasDistinctLeaves}
use Rattle.leaf_set.proofs.OneFault.{mesh_in_order, mesh_inside, mesh_apart, mesh_covers}
use Rattle.leaf_set.proofs.set.LeafSet.from_places.Goals as goal

pub indexed-requires : goal.indexed-requires
indexed-requires c =
    let limits = c.in_default.ensures.limits refl in
    let mesh = subst (IsMesh c.args.domain) c.deref.ensures.value (c.in_default.ensures.none refl) in
    IsMesh-HasDistinctLeaves c.args.domain c.args.places.items limits mesh

pub returns-in-Some-first_jump-clause-fault : goal.returns-in-Some-first_jump-clause-fault
returns-in-Some-first_jump-clause-fault c =
    let grid = c.args.domain in
    let places = c.args.places.items in
    let limits = c.in_default.ensures.limits refl in
    let mesh = subst (IsMesh grid) c.deref.ensures.value (c.in_default.ensures.none refl) in (
      mesh_in_order grid places limits mesh,
      mesh_inside grid places limits mesh,
      mesh_apart grid places limits mesh,
      mesh_covers grid places limits mesh,
      subst (λ keys. IsFirstPair (Jumps grid keys) c.in-Some-first_jump.a c.in-Some-first_jump.b) c.in-Ok.ensures c.in-Some-first_jump.ensures.found,
    )
