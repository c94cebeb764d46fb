-- Where neither the place beyond a leaf nor its parent is a leaf, its children on the near side are leaves.
use Rattle.std.proofs.Common.{◌≡◌, ℕ, ◌+◌, ◌<◌, ◌≤◌, inl, inr, List, Some, slice_get, arith}
use Rattle.block_index.specs.Places.{Cube, Grid, IsDomain, IsInside, parent_of}
use Rattle.block_index.specs.Beyond.{Offset, IsBeyond}
use Rattle.block_index.proofs.Beyond.{IsInside-IsBeyond}
use Rattle.block_index.proofs.Meetings.{BoxesMeet, BoxesMeet-sym}
use Rattle.leaf_set.specs.Meshes.{IsLeaf, IsMesh, IsBalanced}
use Rattle.leaf_set.proofs.Containment.{Contains}
use Rattle.leaf_set.proofs.MeetingLeaves.{covers_beside}
use Rattle.leaf_set.proofs.Spots.{finest_limit}
use Rattle.cello_neighbours.specs.Directions.{IsDirection}
use Rattle.cello_neighbours.specs.Covers.{LiesAgainst}
use Rattle.cello_neighbours.proofs.NearSides.{Contains-LiesAgainst, BoxesMeet-IsBeyond, BoxesMeet-LiesAgainst}

module _ (grid : Grid) (mesh : List Cube) (g : IsDomain grid) (m : IsMesh grid mesh) (bal : IsBalanced grid mesh) (b : ℕ) (a q : Cube) (d : Offset) (s : slice_get mesh b ≡ Some a) (w : IsDirection d) (h : IsBeyond grid a d q) (own : IsLeaf mesh q → ⊥) (up : 1 ≤ q.level → IsLeaf mesh (parent_of q) → ⊥) where
  in_a : IsInside grid a
  in_a = m.inside b a s

  split : (q.level + 1 ≤ grid.finest) × ((r : Cube) → Contains 1 q r → BoxesMeet grid r a → IsLeaf mesh r)
  split =
      elim (covers_beside grid mesh g m bal q a b s h.level (IsInside-IsBeyond grid a q d in_a h) (BoxesMeet-sym grid a q (BoxesMeet-IsBeyond grid a q d in_a w h (finest_limit grid a g in_a)))) [
        | inl leaf ↦ absurd (own leaf)
        | inr other ↦ elim other [ inl over ↦ absurd (up (omega (arith, over.0)) over.1) | inr down ↦ down ]
      ]

  pub below_finest : q.level < grid.finest
  below_finest = omega (arith, split.0)

  pub IsLeaf-LiesAgainst : (r : Cube) → LiesAgainst d q r → IsLeaf mesh r
  IsLeaf-LiesAgainst r k =
      let top : r.level ≤ 6 = omega (arith, split.0, k.finer, g.finest) in
      split.1 r (Contains-LiesAgainst d q r k) (BoxesMeet-sym grid a r (BoxesMeet-LiesAgainst grid a q d in_a w h r top k))
