-- The laws of `specs/MeshLaws.antt`, for every mesh.
use Rattle.std.proofs.Common.{◌-◌, List, arith, inl, inr}
use Rattle.block_index.specs.Places.{Cube, Grid, IsDomain}
use Rattle.leaf_set.specs.Meshes.{IsMesh}
use Rattle.leaf_set.specs.MeshLaws.{HasDistinctLeaves, HasLeavesInOrder, HasLeavesApart, HasOneLeafOver, HasLeafNear, HasLastLeafOver}
use Rattle.leaf_set.proofs.Containment.{Contains-covers, covers-Contains}
use Rattle.leaf_set.proofs.Spots.{rank-Contains, finest_limit}
use Rattle.leaf_set.proofs.MeshFacts.{leaf_over, leaf_over_once, leaves_apart, leaves_distinct, leaves_ordered, leaf_near, IsBefore-later}

module _ (grid : Grid) (mesh : List Cube) (g : IsDomain grid) (m : IsMesh grid mesh) where
  pub IsMesh-HasDistinctLeaves : HasDistinctLeaves mesh
  IsMesh-HasDistinctLeaves = leaves_distinct grid mesh g m

  pub IsMesh-HasLeavesInOrder : HasLeavesInOrder mesh
  IsMesh-HasLeavesInOrder = leaves_ordered grid mesh g m

  pub IsMesh-HasLeavesApart : HasLeavesApart mesh
  IsMesh-HasLeavesApart i j a c s t e = leaves_apart grid mesh g m i j (c.level - a.level) a c s t (Contains-covers a c e)

  pub IsMesh-HasOneLeafOver : HasOneLeafOver grid mesh
  IsMesh-HasOneLeafOver q h l =
      let o = leaf_over grid mesh g m q h l in (
        o.0,
        o.1,
        o.3,
        covers-Contains o.2 o.1 q o.4,
        λ j c t e.
            leaf_over_once grid mesh g m q h l j o.0 (q.level - c.level) o.2 c o.1 t o.3 (Contains-covers c q e) o.4,
      )

  pub IsMesh-HasLeafNear : HasLeafNear grid mesh
  IsMesh-HasLeafNear q h =
      let o = leaf_near grid mesh g m q h in
      elim o.4 [
        | inl k ↦ (o.0, o.1, o.3, inl (covers-Contains o.2 o.1 q k))
        | inr k ↦ (o.0, o.1, o.3, inr (let e = k.1.level in let f = k.0 in omega arith, covers-Contains o.2 q o.1 k.1))
      ]

  pub IsMesh-HasLastLeafOver : HasLastLeafOver grid mesh
  IsMesh-HasLastLeafOver q i a h s e =
      let k = Contains-covers a q e in
      (rank-Contains (q.level - a.level) a q k (finest_limit grid q g h), λ j c l t. IsBefore-later grid mesh g m i j (q.level - a.level) a c q l s t h k)
