-- A region is a box, for every even edge.
use Rattle.std.proofs.Common.{◌≡◌, ℕ, ◌+◌, true, ◌*◌, ◌/◌, ◌%◌, ◌≤◌, ◌<◌, ◌⊎◌, inl, inr, List, Some, slice_get, sym, ap, ◌∙◌, subst, arith, ◌↔◌}
use Rattle.std.proofs.lemmas.Option.{same_Some}
use Rattle.block_index.specs.Places.{Cube, Grid, IsDomain}
use Rattle.block_index.specs.Touching.{Touches}
use Rattle.leaf_set.specs.Meshes.{IsMesh, IsBalanced}
use Rattle.leaf_set.proofs.Boxes.{Touches-sym}
use Rattle.cello_neighbours.specs.Directions.{IsDirection}
use Rattle.ghost_pieces.specs.Ghosts.{Local}
use Rattle.ghost_pieces.specs.Boxes.{IsInBox, has_region, region_box, reached_box}
use Rattle.ghost_pieces.specs.Regions.{Region, IsRegion, IsRegionCell}
use Rattle.ghost_pieces.proofs.Owed.{region_touches, box-cell, cell-box, ghost_direction, in_has_cells}
use Rattle.ghost_pieces.proofs.SameBoxes.{reached-region}

module _ (grid : Grid) (leaves : List Cube) (n d : ℕ) (r : Region) (b s : Cube) (dom : IsDomain grid) (mesh : IsMesh grid leaves) (balanced : IsBalanced grid leaves) (even : n % 2 ≡ 0) (deep : 2 * d ≤ n) (there : slice_get leaves r.receiver ≡ Some b) (at : slice_get leaves r.sender ≡ Some s) where
  -- the two leaves of a region are one or touch
  pub leaves_near : IsRegion grid n d leaves r → (s ≡ b) ⊎ Touches grid s b
  leaves_near (e, x) = nearby (region_touches grid leaves dom mesh balanced n d even deep r e x)
    where
      eb : x.block ≡ b
      eb = same_Some x.block b (sym x.receives ∙ there)

      es : x.source ≡ s
      es = same_Some x.source s (sym x.sends ∙ at)

      nearby : (r.sender ≡ r.receiver) ⊎ Touches grid x.block x.source → (s ≡ b) ⊎ Touches grid s b
      nearby (inl f) = inl (same_Some s b (sym at ∙ ap (slice_get leaves) f ∙ there))
      nearby (inr t) = inr (Touches-sym grid b s (subst (λ u. Touches grid u s) eb (subst (Touches grid x.block) es t)))

  -- at most one level apart
  pub leaves_level : IsRegion grid n d leaves r → (s.level ≤ b.level + 1) × (b.level ≤ s.level + 1)
  leaves_level x =
      elim (leaves_near x) [
        | inl e ↦ let l = ap (λ (c : Cube). c.level) e in (omega arith, omega arith)
        | inr t ↦ (balanced r.sender r.receiver s b at there t, balanced r.receiver r.sender b s there at (Touches-sym grid s b t))
      ]

  pub region_direction : IsRegion grid n d leaves r → IsDirection r.direction
  region_direction (e, x) = subst IsDirection x.direction (ghost_direction n d e x.ghost)

  module _ (some : 0 < n) where
    reached : (g : Local) → IsRegion grid n d leaves r → (IsRegionCell grid n d leaves r g ↔ IsInBox (reached_box grid n d b r.direction s) g)
    reached g x =
        let h = n / 2 in
        subst (λ u. IsRegionCell grid u d leaves r g ↔ IsInBox (reached_box grid u d b r.direction s) g) (let f : 2 * h ≡ n = omega arith in f)
        (λ y. cell-box grid leaves dom mesh balanced h d (omega arith) (omega arith) r b s g there at y, λ p. box-cell grid leaves dom mesh balanced h d (omega arith) (omega arith) r b s g there at (region_direction x) (leaves_near x) p)

    -- both places tell that there is a region
    pub region_found : IsRegion grid n d leaves r → has_region grid n d b r.direction s ≡ true
    region_found (e, x) = in_has_cells (reached_box grid n d b r.direction s) e ((reached e (e, x)).0 x)

    -- and its box
    pub region_is_box : (g : Local) → IsRegion grid n d leaves r → (IsRegionCell grid n d leaves r g ↔ IsInBox (region_box n d b r.direction s) g)
    region_is_box g x =
        subst (λ p. IsRegionCell grid n d leaves r g ↔ IsInBox p g) (reached-region grid n d b r.direction s (region_found x)) (reached g x)
