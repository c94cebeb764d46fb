-- The place beyond a leaf, and its children on the side that the step comes in by, meet the leaf.
use Rattle.std.proofs.Common.{◌≡◌, ℕ, ◌+◌, ◌-◌, ◌*◌, ◌/◌, ◌%◌, ◌^◌, ◌<◌, ◌≤◌, sym, ap, Bool, true, ◌&&◌, subst, arith, ℤ}
use Rattle.std.proofs.Math.Nat.{div-one}
use Rattle.std.proofs.lemmas.Nat.{pow-add}
use Rattle.block_index.specs.Places.{Cube, Grid, IsInside}
use Rattle.block_index.specs.Axes.{IsUnitStep, IsNext}
use Rattle.block_index.specs.Beyond.{Offset, IsBeyond}
use Rattle.block_index.specs.Touching.{MeetsOnAxis, width}
use Rattle.block_index.proofs.Meetings.{BoxesMeet}
use Rattle.block_index.proofs.Reaching.{MeetsOnAxis-over}
use Rattle.leaf_set.proofs.Containment.{Contains}
use Rattle.cello_neighbours.specs.Directions.{IsDirection}
use Rattle.cello_neighbours.specs.Covers.{LiesAgainst, is_near_half}
use Rattle.cello_neighbours.proofs.HalfSteps.{MeetsOnAxis-NearStep}

-- ---- along an axis

axis_beyond : (trees : ℕ) (wraps : Bool) (l : ℕ) (s : ℤ) (x q : ℕ) → IsUnitStep s → x < trees * 2 ^ l → l ≤ 6 → IsNext (trees * 2 ^ l) wraps s x q → MeetsOnAxis trees wraps (x * width l) (width l) (q * width l) (width l)
axis_beyond trees wraps l s x q h i o k =
    let none : 0 ≡ l - l = omega arith in
    MeetsOnAxis-over trees wraps l l x q o (omega arith) s q h i k (subst (λ d. q / 2 ^ d ≡ q) none (div-one q))

-- a child of a coordinate inside lies inside
in_child : (trees l q r : ℕ) → r / 2 ≡ q → q < trees * 2 ^ l → r < trees * 2 ^ (l + 1)
in_child trees l q r e i = omega (arith, ap (λ p. trees * p) (pow-add 2 l 1))

-- ---- places

-- the child lies right below q
pub Contains-LiesAgainst : (d : Offset) (q c : Cube) → LiesAgainst d q c → Contains 1 q c
Contains-LiesAgainst d q c h = record {
  level = h.finer;
  x = ap (λ (p : Cube). p.x) h.parent;
  y = ap (λ (p : Cube). p.y) h.parent;
  z = ap (λ (p : Cube). p.z) h.parent;
}

parts : (p q r : Bool) → (p && q && r) ≡ true → (p ≡ true) × (q ≡ true) × (r ≡ true)
parts p q r e = grind arith

module _ (grid : Grid) (a q : Cube) (d : Offset) (i : IsInside grid a) (w : IsDirection d) (h : IsBeyond grid a d q) where
  pub BoxesMeet-IsBeyond : a.level ≤ 6 → BoxesMeet grid a q
  BoxesMeet-IsBeyond o = record {
    on_x = subst (λ l. MeetsOnAxis grid.trees_x grid.wraps_x (a.x * width a.level) (width a.level) (q.x * width l) (width l)) (sym h.level) (axis_beyond grid.trees_x grid.wraps_x a.level d.x a.x q.x w.x i.x o h.x);
    on_y = subst (λ l. MeetsOnAxis grid.trees_y grid.wraps_y (a.y * width a.level) (width a.level) (q.y * width l) (width l)) (sym h.level) (axis_beyond grid.trees_y grid.wraps_y a.level d.y a.y q.y w.y i.y o h.y);
    on_z = subst (λ l. MeetsOnAxis grid.trees_z grid.wraps_z (a.z * width a.level) (width a.level) (q.z * width l) (width l)) (sym h.level) (axis_beyond grid.trees_z grid.wraps_z a.level d.z a.z q.z w.z i.z o h.z);
  }

  pub BoxesMeet-LiesAgainst : (c : Cube) → c.level ≤ 6 → LiesAgainst d q c → BoxesMeet grid a c
  BoxesMeet-LiesAgainst c o k =
      let e : a.level + 1 ≡ c.level = omega (arith, k.finer, h.level) in
      let u = Contains-LiesAgainst d q c k in
      let near = parts (is_near_half d.x (c.x % 2)) (is_near_half d.y (c.y % 2)) (is_near_half d.z (c.z % 2)) k.near in
      record {
        on_x = subst (λ l. MeetsOnAxis grid.trees_x grid.wraps_x (a.x * width a.level) (width a.level) (c.x * width l) (width l)) e (MeetsOnAxis-NearStep grid.trees_x grid.wraps_x a.level a.x c.x (omega arith) i.x (in_child grid.trees_x a.level q.x c.x u.x h.x.inside) d.x w.x (subst (IsNext (grid.trees_x * 2 ^ a.level) grid.wraps_x d.x a.x) (sym u.x) h.x) near.0);
        on_y = subst (λ l. MeetsOnAxis grid.trees_y grid.wraps_y (a.y * width a.level) (width a.level) (c.y * width l) (width l)) e (MeetsOnAxis-NearStep grid.trees_y grid.wraps_y a.level a.y c.y (omega arith) i.y (in_child grid.trees_y a.level q.y c.y u.y h.y.inside) d.y w.y (subst (IsNext (grid.trees_y * 2 ^ a.level) grid.wraps_y d.y a.y) (sym u.y) h.y) near.1);
        on_z = subst (λ l. MeetsOnAxis grid.trees_z grid.wraps_z (a.z * width a.level) (width a.level) (c.z * width l) (width l)) e (MeetsOnAxis-NearStep grid.trees_z grid.wraps_z a.level a.z c.z (omega arith) i.z (in_child grid.trees_z a.level q.z c.z u.z h.z.inside) d.z w.z (subst (IsNext (grid.trees_z * 2 ^ a.level) grid.wraps_z d.z a.z) (sym u.z) h.z) near.2);
      }
