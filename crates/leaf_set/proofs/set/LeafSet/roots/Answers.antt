-- What is left of the proof of this function.
use Rattle.std.proofs.Common.{sym, subst}
use Rattle.leaf_set.specs.Tiling.{IsTiling}
use Rattle.leaf_set.proofs.RootMeshes.{root_mesh-IsMesh, root_mesh-IsBalanced}
use Rattle.leaf_set.proofs.set.LeafSet.roots.Goals as goal

pub of-requires : goal.of-requires
of-requires c =
    let limits = c.root_places.ensures.limits in
    record {
      tiles = subst (λ places. IsTiling (record { grid = c.args.domain; places = places })) (sym c.in_ok-places.ensures.places)
          (record { domain = limits; mesh = root_mesh-IsMesh c.args.domain limits; balanced = root_mesh-IsBalanced c.args.domain });
    }
