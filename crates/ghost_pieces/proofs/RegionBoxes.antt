-- The ghost cells of a region are a box.
use Rattle.std.proofs.Common.{◌≡◌, ℕ, zero, suc, ◌+◌, ◌-◌, ◌*◌, ◌/◌, ◌^◌, ◌<◌, ◌≤◌, Bool, sym, ap, ◌∙◌, subst, arith, ℤ, pos, ◌-ℤ◌, pow_pos}
use Rattle.block_index.proofs.Beyond.{at_steps}
use Rattle.block_index.specs.Places.{Cube, Grid, IsInside}
use Rattle.block_index.specs.Beyond.{Offset}
use Rattle.block_index.specs.Axes.{IsUnitStep}
use Rattle.cello_neighbours.specs.Directions.{IsDirection}
use Rattle.block_fields.specs.Samples.{moved}
use Rattle.ghost_pieces.specs.Ghosts.{Local, IsGhost, IsSource, step_of, steps_of, ghost_cell}
use Rattle.ghost_pieces.specs.Boxes.{IsWithin, IsInBox, stretch_of, reached_part, span, reached_box}
use Rattle.ghost_pieces.proofs.AxisParts.{within_own, own_step, is_step_of, into_part, from_part, step-middle}
use Rattle.ghost_pieces.proofs.SourceAxes.{IsSource-axes, axes-IsSource}

mul-pos : (a b : ℕ) → 0 < a → 0 < b → 0 < a * b
mul-pos (suc a) (suc b) h k = omega arith
mul-pos zero b h k = absurd (omega arith)
mul-pos (suc a) zero h k = absurd (omega arith)

module _ (grid : Grid) (h d : ℕ) (some : 0 < h) (deep : d ≤ h) (b s : Cube) (w : IsInside grid b) where
  wide : 0 < h * 2 ^ (b.level + 1 - s.level)
  wide = omega (arith, mul-pos h (2 ^ (b.level + 1 - s.level)) some (pow_pos (b.level + 1 - s.level)))

  spans : span (2 * h) b.level s.level ≡ h * 2 ^ (b.level + 1 - s.level)
  spans = ap (λ u. u * 2 ^ (b.level + 1 - s.level)) (let f : 2 * h / 2 ≡ h = omega arith in f)

  into_axis : (t : ℕ) (wr : Bool) (a g c : ℕ) → a < t → g < 2 * h + 2 * d → moved wr (t * (2 * h)) (pos (a * (2 * h) + g) -ℤ pos d) / (h * 2 ^ (b.level + 1 - s.level)) ≡ c → IsWithin (reached_part (2 * h) d t wr a (span (2 * h) b.level s.level) c (step_of (2 * h) d g)) g
  into_axis t wr a g c l k q =
      subst (λ u. IsWithin (reached_part (2 * h) d t wr a u c (step_of (2 * h) d g)) g) (sym spans)
      (into_part h d t a l deep some wr (2 ^ (b.level + 1 - s.level)) c wide g (step_of (2 * h) d g) (is_step_of (2 * h) d g) (within_own (2 * h) d g k) q)

  from_axis : (t : ℕ) (wr : Bool) (a g c : ℕ) (st : ℤ) → a < t → IsUnitStep st → IsWithin (reached_part (2 * h) d t wr a (span (2 * h) b.level s.level) c st) g → IsWithin (stretch_of (2 * h) d st) g × (moved wr (t * (2 * h)) (pos (a * (2 * h) + g) -ℤ pos d) / (h * 2 ^ (b.level + 1 - s.level)) ≡ c)
  from_axis t wr a g c st l i p =
      from_part h d t a l deep some wr (2 ^ (b.level + 1 - s.level)) c wide g st i
      (subst (λ u. IsWithin (reached_part (2 * h) d t wr a u c st) g) spans p)

  pub into_box : (g : Local) → IsGhost (2 * h) d g → IsSource (2 * h) s (ghost_cell grid (2 * h) d b g) → IsInBox (reached_box grid (2 * h) d b (steps_of (2 * h) d g) s) g
  into_box g gh source =
      let q = IsSource-axes h s (ghost_cell grid (2 * h) d b g) source in
      record {
        x = into_axis (grid.trees_x * 2 ^ b.level) grid.wraps_x b.x g.x s.x w.x gh.x q.x;
        y = into_axis (grid.trees_y * 2 ^ b.level) grid.wraps_y b.y g.y s.y w.y gh.y q.y;
        z = into_axis (grid.trees_z * 2 ^ b.level) grid.wraps_z b.z g.z s.z w.z gh.z q.z;
      }

  below : (st : ℤ) (g : ℕ) → IsUnitStep st → IsWithin (stretch_of (2 * h) d st) g → g < 2 * h + 2 * d
  below st g i =
      at_steps (λ st. IsWithin (stretch_of (2 * h) d st) g → g < 2 * h + 2 * d) (λ p. omega (arith, p.below)) (λ p. omega (arith, p.below)) (λ p. omega (arith, p.below)) st i

  same_steps : (p q : Offset) → p.x ≡ q.x → p.y ≡ q.y → p.z ≡ q.z → p ≡ q
  same_steps p q x y z = ap (λ u. record { x = u; y = p.y; z = p.z }) x ∙ ap (λ u. record { x = q.x; y = u; z = p.z }) y ∙ ap (λ u. record { x = q.x; y = q.y; z = u }) z

  pub from_box : (g : Local) (dir : Offset) → IsDirection dir → s.level ≤ b.level + 1 → b.level ≤ s.level + 1 → IsInBox (reached_box grid (2 * h) d b dir s) g → IsGhost (2 * h) d g × (steps_of (2 * h) d g ≡ dir) × IsSource (2 * h) s (ghost_cell grid (2 * h) d b g)
  from_box g dir i near far p =
      let x = from_axis (grid.trees_x * 2 ^ b.level) grid.wraps_x b.x g.x s.x dir.x w.x i.x p.x in
      let y = from_axis (grid.trees_y * 2 ^ b.level) grid.wraps_y b.y g.y s.y dir.y w.y i.y p.y in
      let z = from_axis (grid.trees_z * 2 ^ b.level) grid.wraps_z b.z g.z s.z dir.z w.z i.z p.z in
      let sx = own_step (2 * h) d g.x dir.x i.x x.0 in
      let sy = own_step (2 * h) d g.y dir.y i.y y.0 in
      let sz = own_step (2 * h) d g.z dir.z i.z z.0 in (
        record {
          x = below dir.x g.x i.x x.0;
          y = below dir.y g.y i.y y.0;
          z = below dir.z g.z i.z z.0;
          outside = λ x0 x1 y0 y1 z0 z1.
              i.some (sym sx ∙ step-middle (2 * h) d g.x x0 x1) (sym sy ∙ step-middle (2 * h) d g.y y0 y1) (sym sz ∙ step-middle (2 * h) d g.z z0 z1);
        },
        same_steps (steps_of (2 * h) d g) dir sx sy sz,
        axes-IsSource h s (ghost_cell grid (2 * h) d b g) (record { least = near; most = far; x = x.1; y = y.1; z = z.1 }),
      )
