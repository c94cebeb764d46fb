-- A coarser leaf covers the place beside a leaf exactly where the leaf lies on a side of the coarser one.
use Rattle.std.proofs.Common.{◌≡◌, ℕ, ◌+◌, ◌-◌, ◌*◌, ◌/◌, ◌%◌, ◌^◌, ◌<◌, ◌≤◌, Bool, true, false, cond, List, Some, refl, sym, ap, ◌∙◌, subst, arith, ℤ, pos, negsuc}
use Rattle.std.specs.Prelude.{Contains, slice_get}
use Rattle.std.proofs.lemmas.Int.{ints}
use Rattle.std.proofs.lemmas.Nat.{pow-add}
use Rattle.std.proofs.lemmas.Option.{same_Some}
use Rattle.block_index.specs.Axes.{IsNext}
use Rattle.block_index.specs.Beyond.{Offset, IsBeyond}
use Rattle.block_index.specs.Places.{Cube, Grid, IsInside, parent_of}
use Rattle.block_index.proofs.Beyond.{IsNext-none_self}
use Rattle.block_index.proofs.Reaching.{unit_down, unit_none, unit_up}
use Rattle.block_index.specs.Touching.{Touches}
use Rattle.leaf_set.specs.Tiling.{Tiling, IsTiling}
use Rattle.leaf_set.specs.TouchingLeaves.{AreTouching}
use Rattle.leaf_set.proofs.Containment.{Contains as Holds, Contains-covers, Contains-one, Contains-parent_of, covers-Contains, same_cube}
use Rattle.block_fields.proofs.Standings.{never_below}
use Rattle.cello_neighbours.specs.Directions.{IsDirection}
use Rattle.cello_neighbours.specs.Covers.{IsCover, IsCoverFrom, IsCoarserOver}
use Rattle.cello_neighbours.specs.declared.covers.Cover.{Cover}
use Rattle.cello_neighbours.specs.declared.covers.Cover.TheVariants.{Same, Coarser, Finer, Outside}
use Rattle.cello_neighbours.proofs.CoverLaws.{IsCover-one, Touches-IsCover}
use Rattle.grid_fluxes.specs.Axes.{Axis, along_x, along_y, along_z, coordinate, with_coordinate, trees_along, wraps_along, next_cell, previous_cell}
use Rattle.advect.specs.FaceFluxes.{IsSide, axis_of, is_end}
use Rattle.flux_register.specs.Faces.{FluxFace, IsFluxFace, opposite, side_number}
use Rattle.flux_register.proofs.SixSides.{one_side, side_of, number-side_of}
use Rattle.flux_register.proofs.Beside.{within, out, beside_coordinate, step_back, step-leads, steps_into, stays}

-- ---- the opposite sides

-- a step along one axis
abbrev pub step_along : Axis → ℤ → Offset
step_along along_x s = record { x = s; y = pos 0; z = pos 0 }
step_along along_y s = record { x = pos 0; y = s; z = pos 0 }
step_along along_z s = record { x = pos 0; y = pos 0; z = s }

opposite-side_of : (a : Axis) (end : Bool) → opposite (side_of a end) ≡ step_along a (step_back end)
opposite-side_of along_x true = refl
opposite-side_of along_x false = refl
opposite-side_of along_y true = refl
opposite-side_of along_y false = refl
opposite-side_of along_z true = refl
opposite-side_of along_z false = refl

opposite-side : (d : Offset) → IsSide d → opposite d ≡ step_along (axis_of d) (step_back (is_end d))
opposite-side d is = ap opposite (one_side d is) ∙ opposite-side_of (axis_of d) (is_end d)

some_down : negsuc 0 ≡ pos 0 → ⊥
some_down e = omega (arith, ints, e)

some_up : pos 1 ≡ pos 0 → ⊥
some_up e = omega (arith, ints, e)

is_direction : (a : Axis) (end : Bool) → IsDirection (step_along a (step_back end))
is_direction along_x true = record { x = unit_down; y = unit_none; z = unit_none; some = λ u v w. some_down u }
is_direction along_x false = record { x = unit_up; y = unit_none; z = unit_none; some = λ u v w. some_up u }
is_direction along_y true = record { x = unit_none; y = unit_down; z = unit_none; some = λ u v w. some_down v }
is_direction along_y false = record { x = unit_none; y = unit_up; z = unit_none; some = λ u v w. some_up v }
is_direction along_z true = record { x = unit_none; y = unit_none; z = unit_down; some = λ u v w. some_down w }
is_direction along_z false = record { x = unit_none; y = unit_none; z = unit_up; some = λ u v w. some_up w }

-- sides of one number are one
same-side : (d e : Offset) → IsSide d → IsSide e → side_number d ≡ side_number e → d ≡ e
same-side d e u v h =
    let same = number-side_of (axis_of e) (is_end e) d u (h ∙ ap side_number (one_side e v)) in
    one_side d u ∙ (ap (λ (a : Axis). side_of a (is_end d)) same.0 ∙ (ap (λ (b : Bool). side_of (axis_of e) b) same.1 ∙ sym (one_side e v)))

-- ---- by axes

-- the place beside a place
place-beside : (a : Axis) (end : Bool) (grid : Grid) (c : Cube) → cond end (next_cell a grid 1 c) (previous_cell a grid 1 c) ≡ with_coordinate a c (beside_coordinate end (wraps_along a grid) (trees_along a grid * 2 ^ c.level * 1) (coordinate a c))
place-beside a true grid c = refl
place-beside a false grid c = refl

twice : (t l : ℕ) → t * 2 ^ (l + 1) ≡ 2 * (t * 2 ^ l)
twice t l = omega (arith, pow-add 2 l 1, ap (λ (w : ℕ). t * w) (pow-add 2 l 1))

-- the place q, one step from p, lies in the parent of p, or in the place that p's parent lies beside
pub data Arrives (a : Axis) (end : Bool) (grid : Grid) (p q : Cube) : Type 0 where
  inside : parent_of q ≡ parent_of p → Arrives a end grid p q
  across : coordinate a p % 2 ≡ cond end 0 1 → parent_of p ≡ cond end (next_cell a grid 1 (parent_of q)) (previous_cell a grid 1 (parent_of q)) → Arrives a end grid p q

module _ (end : Bool) (grid : Grid) (p q : Cube) (l : ℕ) (fine : p.level ≡ l + 1) (level : q.level ≡ p.level) where
  up_p : p.level - 1 ≡ l
  up_p = omega (arith, fine)

  up_q : q.level - 1 ≡ l
  up_q = omega (arith, fine, level)

  small : (t u : ℕ) → u < t * 2 ^ p.level → u < 2 * (t * 2 ^ l)
  small t u h = let e = twice t l in let f : t * 2 ^ p.level ≡ t * 2 ^ (l + 1) = ap (λ (m : ℕ). t * 2 ^ m) fine in omega (arith, h, e, f)

  stepped : (t : ℕ) (w : Bool) (s : ℤ) (u v : ℕ) → IsNext (t * 2 ^ p.level) w s u v → IsNext (2 * (t * 2 ^ l)) w s u v
  stepped t w s u v h = subst (λ (m : ℕ). IsNext m w s u v) (ap (λ (m : ℕ). t * 2 ^ m) fine ∙ twice t l) h

  arrives : (a : Axis) → IsInside grid p → IsBeyond grid p (step_along a (step_back end)) q → Arrives a end grid p q
  arrives along_x in_p b =
      let y : q.y ≡ p.y = IsNext-none_self (grid.trees_y * 2 ^ p.level) grid.wraps_y p.y q.y in_p.y b.y in
      let z : q.z ≡ p.z = IsNext-none_self (grid.trees_z * 2 ^ p.level) grid.wraps_z p.z q.z in_p.z b.z in
      elim (step-leads end grid.wraps_x (grid.trees_x * 2 ^ l) p.x q.x (small grid.trees_x p.x in_p.x) (stepped grid.trees_x grid.wraps_x (step_back end) p.x q.x b.x)) [
        | within same ↦ inside (same_cube (parent_of q) (parent_of p) (up_q ∙ sym up_p) same (ap (λ (u : ℕ). u / 2) y) (ap (λ (u : ℕ). u / 2) z))
        | out near is ↦ across near (same_cube (parent_of p) (with_coordinate along_x (parent_of q) (beside_coordinate end grid.wraps_x (grid.trees_x * 2 ^ (q.level - 1) * 1) (q.x / 2))) (up_p ∙ sym up_q) (is ∙ ap (λ (m : ℕ). beside_coordinate end grid.wraps_x (grid.trees_x * 2 ^ m * 1) (q.x / 2)) (sym up_q)) (ap (λ (u : ℕ). u / 2) (sym y)) (ap (λ (u : ℕ). u / 2) (sym z)) ∙ sym (place-beside along_x end grid (parent_of q)))
      ]
  arrives along_y in_p b =
      let x : q.x ≡ p.x = IsNext-none_self (grid.trees_x * 2 ^ p.level) grid.wraps_x p.x q.x in_p.x b.x in
      let z : q.z ≡ p.z = IsNext-none_self (grid.trees_z * 2 ^ p.level) grid.wraps_z p.z q.z in_p.z b.z in
      elim (step-leads end grid.wraps_y (grid.trees_y * 2 ^ l) p.y q.y (small grid.trees_y p.y in_p.y) (stepped grid.trees_y grid.wraps_y (step_back end) p.y q.y b.y)) [
        | within same ↦ inside (same_cube (parent_of q) (parent_of p) (up_q ∙ sym up_p) (ap (λ (u : ℕ). u / 2) x) same (ap (λ (u : ℕ). u / 2) z))
        | out near is ↦ across near (same_cube (parent_of p) (with_coordinate along_y (parent_of q) (beside_coordinate end grid.wraps_y (grid.trees_y * 2 ^ (q.level - 1) * 1) (q.y / 2))) (up_p ∙ sym up_q) (ap (λ (u : ℕ). u / 2) (sym x)) (is ∙ ap (λ (m : ℕ). beside_coordinate end grid.wraps_y (grid.trees_y * 2 ^ m * 1) (q.y / 2)) (sym up_q)) (ap (λ (u : ℕ). u / 2) (sym z)) ∙ sym (place-beside along_y end grid (parent_of q)))
      ]
  arrives along_z in_p b =
      let x : q.x ≡ p.x = IsNext-none_self (grid.trees_x * 2 ^ p.level) grid.wraps_x p.x q.x in_p.x b.x in
      let y : q.y ≡ p.y = IsNext-none_self (grid.trees_y * 2 ^ p.level) grid.wraps_y p.y q.y in_p.y b.y in
      elim (step-leads end grid.wraps_z (grid.trees_z * 2 ^ l) p.z q.z (small grid.trees_z p.z in_p.z) (stepped grid.trees_z grid.wraps_z (step_back end) p.z q.z b.z)) [
        | within same ↦ inside (same_cube (parent_of q) (parent_of p) (up_q ∙ sym up_p) (ap (λ (u : ℕ). u / 2) x) (ap (λ (u : ℕ). u / 2) y) same)
        | out near is ↦ across near (same_cube (parent_of p) (with_coordinate along_z (parent_of q) (beside_coordinate end grid.wraps_z (grid.trees_z * 2 ^ (q.level - 1) * 1) (q.z / 2))) (up_p ∙ sym up_q) (ap (λ (u : ℕ). u / 2) (sym x)) (ap (λ (u : ℕ). u / 2) (sym y)) (is ∙ ap (λ (m : ℕ). beside_coordinate end grid.wraps_z (grid.trees_z * 2 ^ m * 1) (q.z / 2)) (sym up_q)) ∙ sym (place-beside along_z end grid (parent_of q)))
      ]

-- back: one step from a place that lies against a coarser one is a place in that
module _ (end : Bool) (grid : Grid) (p c : Cube) (fine : p.level ≡ c.level + 1) where
  limit : (t u : ℕ) → u < t * 2 ^ p.level → u < 2 * (t * 2 ^ c.level)
  limit t u h = let e = twice t c.level in let f : t * 2 ^ p.level ≡ t * 2 ^ (c.level + 1) = ap (λ (m : ℕ). t * 2 ^ m) fine in omega (arith, h, e, f)

  next : (t : ℕ) (w : Bool) (s : ℤ) (u v : ℕ) → IsNext (2 * (t * 2 ^ c.level)) w s u v → IsNext (t * 2 ^ p.level) w s u v
  next t w s u v h = subst (λ (m : ℕ). IsNext m w s u v) (sym (ap (λ (m : ℕ). t * 2 ^ m) fine ∙ twice t c.level)) h

  up : p.level - 1 ≡ c.level
  up = omega (arith, fine)

  comes_from : (a : Axis) → IsInside grid p → IsInside grid c → coordinate a p % 2 ≡ cond end 0 1 → parent_of p ≡ cond end (next_cell a grid 1 c) (previous_cell a grid 1 c) → (q : Cube) × IsBeyond grid p (step_along a (step_back end)) q × (parent_of q ≡ c)
  comes_from along_x in_p in_c near is =
      let e = is ∙ place-beside along_x end grid c in
      let s = steps_into end grid.wraps_x (grid.trees_x * 2 ^ c.level) p.x c.x (limit grid.trees_x p.x in_p.x) in_c.x near (ap (λ (v : Cube). v.x) e) in
      let q : Cube = record { level = p.level; x = s.0; y = p.y; z = p.z } in (
        q,
        record { level = refl; x = next grid.trees_x grid.wraps_x (step_back end) p.x s.0 s.1; y = stays (grid.trees_y * 2 ^ p.level) grid.wraps_y p.y in_p.y; z = stays (grid.trees_z * 2 ^ p.level) grid.wraps_z p.z in_p.z },
        same_cube (parent_of q) c up s.2 (ap (λ (v : Cube). v.y) e) (ap (λ (v : Cube). v.z) e),
      )
  comes_from along_y in_p in_c near is =
      let e = is ∙ place-beside along_y end grid c in
      let s = steps_into end grid.wraps_y (grid.trees_y * 2 ^ c.level) p.y c.y (limit grid.trees_y p.y in_p.y) in_c.y near (ap (λ (v : Cube). v.y) e) in
      let q : Cube = record { level = p.level; x = p.x; y = s.0; z = p.z } in (
        q,
        record { level = refl; x = stays (grid.trees_x * 2 ^ p.level) grid.wraps_x p.x in_p.x; y = next grid.trees_y grid.wraps_y (step_back end) p.y s.0 s.1; z = stays (grid.trees_z * 2 ^ p.level) grid.wraps_z p.z in_p.z },
        same_cube (parent_of q) c up (ap (λ (v : Cube). v.x) e) s.2 (ap (λ (v : Cube). v.z) e),
      )
  comes_from along_z in_p in_c near is =
      let e = is ∙ place-beside along_z end grid c in
      let s = steps_into end grid.wraps_z (grid.trees_z * 2 ^ c.level) p.z c.z (limit grid.trees_z p.z in_p.z) in_c.z near (ap (λ (v : Cube). v.z) e) in
      let q : Cube = record { level = p.level; x = p.x; y = p.y; z = s.0 } in (
        q,
        record { level = refl; x = stays (grid.trees_x * 2 ^ p.level) grid.wraps_x p.x in_p.x; y = stays (grid.trees_y * 2 ^ p.level) grid.wraps_y p.y in_p.y; z = next grid.trees_z grid.wraps_z (step_back end) p.z s.0 s.1 },
        same_cube (parent_of q) c up (ap (λ (v : Cube). v.x) e) (ap (λ (v : Cube). v.y) e) s.2,
      )

-- ---- of a mesh

module _ (t : Tiling) (tiles : IsTiling t) where
  -- from the cover to the face
  pub face-cover : (b to : ℕ) (p : Cube) (s : Offset) → IsSide s → slice_get t.places b ≡ Some p → IsCover t.grid t.places b (opposite s) (Coarser to) → IsFluxFace t.grid t.places (record { to = to; from = b; place = p; side = s })
  face-cover b to p s side leaf cover =
      let d : opposite s ≡ step_along (axis_of s) (step_back (is_end s)) = opposite-side s side in
      let same : cover.0 ≡ p = same_Some cover.0 p (sym cover.1 ∙ leaf) in
      of_place (subst (λ (v : Cube). IsCoverFrom t.grid t.places v (opposite s) (Coarser to)) same cover.2) d
    where
      of_place : IsCoverFrom t.grid t.places p (opposite s) (Coarser to) → opposite s ≡ step_along (axis_of s) (step_back (is_end s)) → IsFluxFace t.grid t.places (record { to = to; from = b; place = p; side = s })
      of_place (q, beyond, (c, over)) d =
          let level : q.level ≡ p.level = beyond.level in
          let less : c.level < q.level = over.coarser in
          let apart : to ≡ b → ⊥ = λ e.
          let one : c ≡ p = same_Some c p (sym over.leaf ∙ (ap (slice_get t.places) e ∙ leaf)) in
          omega (arith, less, level, ap (λ (v : Cube). v.level) one) in
          let whole : IsCover t.grid t.places b (opposite s) (Coarser to) = (p, leaf, (q, beyond, (c, over))) in
          let touch = Touches-IsCover t.grid t.places tiles.domain tiles.mesh b to p c (opposite s) (Coarser to) (subst IsDirection (sym d) (is_direction (axis_of s) (is_end s))) whole (0, (let z : 0 < 1 = omega arith in z), refl) apart leaf over.leaf in
          let balanced = tiles.balanced b to p c leaf over.leaf touch in
          let fine : p.level ≡ c.level + 1 = omega (arith, less, level, balanced) in
          let holds : Holds 1 c q = subst (λ (n : ℕ). Holds n c q) (let e : q.level - c.level ≡ 1 = omega (arith, level, fine) in e) (Contains-covers c q over.covers) in
          let one : c ≡ parent_of q = Contains-one 1 c (parent_of q) q holds (Contains-parent_of q (omega (arith, level, fine))) in
          let in_p = tiles.mesh.inside b p leaf in
          elim (arrives (is_end s) t.grid p q c.level fine level (axis_of s) in_p (subst (λ (o : Offset). IsBeyond t.grid p o q) d beyond)) [
            | inside parents ↦ absurd (never_below t.grid t.places tiles.domain tiles.mesh 1 1 c p (omega arith) (to, over.leaf) (b, leaf) (subst (λ (v : Cube). Holds 1 v p) (sym (one ∙ parents)) (Contains-parent_of p (omega (arith, fine)))))
            | across near is ↦ record {
              side = side;
              sends = leaf;
              receiver = c;
              receives = over.leaf;
              finer = fine;
              beside = subst (λ (v : Cube). parent_of p ≡ cond (is_end s) (next_cell (axis_of s) t.grid 1 v) (previous_cell (axis_of s) t.grid 1 v)) (sym one) is;
              near = near;
            }
          ]

  -- from the face to the cover
  pub cover-face : (face : FluxFace) → IsFluxFace t.grid t.places face → IsCover t.grid t.places face.from (opposite face.side) (Coarser face.to)
  cover-face face is =
      let p = face.place in
      let c = is.receiver in
      let from = comes_from (is_end face.side) t.grid p c is.finer (axis_of face.side) (tiles.mesh.inside face.from p is.sends) (tiles.mesh.inside face.to c is.receives) is.near is.beside in
      let q = from.0 in
      let level : q.level ≡ p.level = from.1.level in
      let finer = is.finer in
      let holds : Holds 1 c q = subst (λ (v : Cube). Holds 1 v q) from.2 (Contains-parent_of q (omega (arith, level, finer))) in
      let over : IsCoarserOver t.places q face.to c = record { leaf = is.receives; coarser = omega (arith, level, finer); covers = covers-Contains 1 c q holds } in
      (p, is.sends, (q, subst (λ (o : Offset). IsBeyond t.grid p o q) (sym (opposite-side face.side is.side)) from.1, (c, over)))

  -- a leaf has one such face on a side
  abbrev coarser_at : Cover → ℕ
  coarser_at (Same j) = 0
  coarser_at (Coarser j) = j
  coarser_at (Finer js) = 0
  coarser_at Outside = 0

  pub one_face : (b to : ℕ) (p : Cube) (s : Offset) (face : FluxFace) → IsSide s → slice_get t.places b ≡ Some p → IsCover t.grid t.places b (opposite s) (Coarser to) → IsFluxFace t.grid t.places face → face.from ≡ b → side_number face.side ≡ side_number s → record { to = to; from = b; place = p; side = s } ≡ face
  one_face b to p s face side leaf cover is from number =
      let sides : face.side ≡ s = same-side face.side s is.side side number in
      let other : IsCover t.grid t.places b (opposite s) (Coarser face.to) = subst (λ (o : Offset). IsCover t.grid t.places b (opposite o) (Coarser face.to)) sides (subst (λ (n : ℕ). IsCover t.grid t.places n (opposite face.side) (Coarser face.to)) from (cover-face face is)) in
      let one : to ≡ face.to = ap coarser_at (IsCover-one t.grid t.places tiles.domain tiles.mesh b (opposite s) (Coarser to) (Coarser face.to) cover other) in
      let place : p ≡ face.place = same_Some p face.place (sym leaf ∙ (ap (slice_get t.places) (sym from) ∙ is.sends)) in
      λ i. record { to = one i; from = sym from i; place = place i; side = sym sides i }

  -- any other cover says that there is none
  pub no_face : (b : ℕ) (s : Offset) (cover : Cover) (face : FluxFace) → IsSide s → IsCover t.grid t.places b (opposite s) cover → IsFluxFace t.grid t.places face → face.from ≡ b → side_number face.side ≡ side_number s → cover ≡ Coarser face.to
  no_face b s cover face side is_cover is from number =
      IsCover-one t.grid t.places tiles.domain tiles.mesh b (opposite s) cover (Coarser face.to) is_cover
      (subst (λ (o : Offset). IsCover t.grid t.places b (opposite o) (Coarser face.to)) (same-side face.side s is.side side number) (subst (λ (n : ℕ). IsCover t.grid t.places n (opposite face.side) (Coarser face.to)) from (cover-face face is)))

  -- where no leaf that touches a leaf is coarser, the leaf has no coarser leaf across any face
  pub none_coarser : (b : ℕ) (p : Cube) (js : List ℕ) → slice_get t.places b ≡ Some p → AreTouching t.grid t.places b js → ((j : ℕ) (c : Cube) → Contains js j → slice_get t.places j ≡ Some c → p.level ≤ c.level) → (face : FluxFace) → IsFluxFace t.grid t.places face → face.from ≡ b → ⊥
  none_coarser b p js leaf touching fine face is from =
      let c : Cube = is.receiver in
      let finer = is.finer in
      let place : face.place ≡ p = same_Some face.place p (sym is.sends ∙ (ap (slice_get t.places) from ∙ leaf)) in
      let direction : IsDirection (opposite face.side) = subst IsDirection (sym (opposite-side face.side is.side)) (is_direction (axis_of face.side) (is_end face.side)) in
      let apart : face.to ≡ face.from → ⊥ = λ e. (let one : c ≡ face.place = same_Some c face.place (sym is.receives ∙ (ap (slice_get t.places) e ∙ is.sends)) in omega (arith, finer, ap (λ (v : Cube). v.level) one)) in
      let touch = Touches-IsCover t.grid t.places tiles.domain tiles.mesh face.from face.to face.place c (opposite face.side) (Coarser face.to) direction (cover-face face is) (0, (let z : 0 < 1 = omega arith in z), refl) apart is.sends is.receives in
      let inside = touching.all face.to p c leaf is.receives (subst (λ (v : Cube). Touches t.grid v c) place touch) in
      let least = fine face.to c inside is.receives in
      omega (arith, least, finer, ap (λ (v : Cube). v.level) place)
