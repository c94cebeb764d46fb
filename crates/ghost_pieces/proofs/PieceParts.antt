-- The amounts of a region's piece, from its parts along the axes.
use Rattle.std.proofs.Common.{◌≡◌, ℕ, zero, suc, ◌+◌, ◌-◌, ◌*◌, ◌/◌, ◌%◌, ◌^◌, ◌<◌, ◌≤◌, Bool, true, false, cond, ◌==◌, sym, ap, ◌∙◌, subst, arith, ℤ, pos, ◌-ℤ◌, List, map}
use Rattle.std.specs.List.{range_with_len}
use Rattle.std.proofs.lemmas.Nat.{div-add-mod', mod_below}
use Rattle.block_index.specs.Places.{Cube, Grid}
use Rattle.block_index.specs.Beyond.{Offset}
use Rattle.block_index.specs.Axes.{IsUnitStep}
use Rattle.block_index.proofs.Beyond.{at_steps}
use Rattle.block_fields.specs.Samples.{moved}
use Rattle.ghost_pieces.specs.Boxes.{Box, IsWithin, reached_part, span, region_box, cell_in, box_size}
use Rattle.ghost_pieces.specs.Sent.{offset_of, offset, sent, piece_amounts}
use Rattle.ghost_pieces.specs.Lemmas.Parts.{runs, further, box_amounts, FitsIn, IsPart, Follows}
use Rattle.ghost_pieces.proofs.AxisParts.{from_part}
use Rattle.ghost_pieces.proofs.Pieces.{same_map}
use Rattle.ghost_pieces.proofs.Rows.{offset_on}
use Rattle.ghost_pieces.proofs.SentBounds.{box_places}

module _ (h d t a : ℕ) (inside_axis : a < t) (deep : d ≤ h) (some : 0 < h) (w : Bool) (k b : ℕ) (more : 0 < h * k) (s : ℤ) (step : IsUnitStep s) (first count start : ℕ) (goes : Bool) (part : IsPart (2 * h) d t w a (h * k) b s first count start goes) where
  abbrev to : ℕ → ℕ
  to g = moved w (t * (2 * h)) (pos (a * (2 * h) + g) -ℤ pos d)

  in_part : (i : ℕ) → i < count → IsWithin (reached_part (2 * h) d t w a (h * k) b s) (first + i)
  in_part i l = let f = part.first_is in let g = part.count_is in record { from = omega arith; below = omega arith }

  starts : (v : ℕ) → v / (h * k) ≡ b → b * (h * k) ≤ v
  starts v e = let q = div-add-mod' v (h * k) in let f = ap (λ u. u * (h * k)) e in omega arith

  ends : (v : ℕ) → v / (h * k) ≡ b → v - b * (h * k) < h * k
  ends v e = let q = div-add-mod' v (h * k) in let f = ap (λ u. u * (h * k)) e in let r = mod_below v (h * k) more in omega arith

  -- the offset of each coordinate of the part
  pub further-offset : (i : ℕ) → i < count → further start goes i ≡ offset_of (2 * h) d t w a (h * k) b (first + i)
  further-offset i l =
      let p = from_part h d t a inside_axis deep some w k b more first s step (subst (IsWithin (reached_part (2 * h) d t w a (h * k) b s)) (let e : first + 0 ≡ first = omega arith in e) (in_part 0 (omega arith))) in
      let q = from_part h d t a inside_axis deep some w k b more (first + i) s step (in_part i l) in
      let o = offset_on (2 * h) d t a inside_axis (omega arith) w s (h * k) b first (first + i) step (omega arith) p.0 q.0 (starts (to first) p.1) in
      ap (λ u. u + cond goes 1 0 * i) (part.start_is (omega arith))
      ∙ ap (λ u. offset_of (2 * h) d t w a (h * k) b first + u * i) part.goes_is
      ∙ ap (λ u. offset_of (2 * h) d t w a (h * k) b first + runs t w a s * u) (let e : i ≡ first + i - first = omega arith in e)
      ∙ sym o

  pub further-below : (i : ℕ) → i < count → further start goes i < h * k
  further-below i l =
      let q = from_part h d t a inside_axis deep some w k b more (first + i) s step (in_part i l) in
      subst (λ u. u < h * k) (sym (further-offset i l)) (ends (to (first + i)) q.1)

part_few : (n d t a c b : ℕ) (w : Bool) (s : ℤ) → IsUnitStep s → d ≤ n → (reached_part n d t w a c b s).count ≤ n
part_few n d t a c b w s step h =
    at_steps (λ s. (reached_part n d t w a c b s).count ≤ n) (few (moved w (t * n) (pos (a * n + 0) -ℤ pos d) / c == b)) (omega arith) (few (moved w (t * n) (pos (a * n + (n + d)) -ℤ pos d) / c == b)) s step
  where
    few : (p : Bool) → cond p d 0 ≤ n
    few true = omega arith
    few false = omega arith

-- the same for an even edge, at the width of a span
pub IsPart-Follows : (n d t a k b : ℕ) (w : Bool) (s : ℤ) (first count start : ℕ) (goes : Bool) → a < t → n % 2 ≡ 0 → 0 < n → 2 * d ≤ n → 0 < k → IsUnitStep s → IsPart n d t w a (n / 2 * k) b s first count start goes → Follows n d t w a (n / 2 * k) b first count start goes
IsPart-Follows n d t a k b w s first count start goes inside_axis even some deep more step part =
    let h = n / 2 in
    let e : 2 * h ≡ n = omega arith in
    let wide : 0 < h * k = mul_some h k (omega arith) more in
    subst (λ u. IsPart u d t w a (h * k) b s first count start goes → Follows u d t w a (h * k) b first count start goes) e
    (λ p. record {
      offsets = further-offset h d t a inside_axis (omega arith) (omega arith) w k b wide s step first count start goes p;
      below = further-below h d t a inside_axis (omega arith) (omega arith) w k b wide s step first count start goes p;
    })
    part
  where
    mul_some : (a b : ℕ) → 0 < a → 0 < b → 0 < a * b
    mul_some (suc a) (suc b) h k = omega arith
    mul_some zero b h k = absurd (omega arith)
    mul_some (suc a) zero h k = absurd (omega arith)

pub IsPart-FitsIn : (n d t a c b : ℕ) (w : Bool) (s : ℤ) (first count start : ℕ) (goes : Bool) → IsUnitStep s → d ≤ n → n ≤ 16 → c ≤ 32 → IsPart n d t w a c b s first count start goes → Follows n d t w a c b first count start goes → FitsIn c start goes count
IsPart-FitsIn n d t a c b w s first count start goes step h most wide part follows = record {
  few = (let f = part_few n d t a c b w s step h in let g = part.count_is in omega arith);
  near = λ some. (let f = follows.below 0 some in omega arith);
  within = follows.below;
}

module _ (grid : Grid) (n d : ℕ) (b s : Cube) (dir : Offset) (q : List ℕ) (fx cx x fy cy y fz cz z : ℕ) (rx ry rz : Bool) where
  abbrev PartX : Type 0
  PartX = Follows n d (grid.trees_x * 2 ^ b.level) grid.wraps_x b.x (span n b.level s.level) s.x fx cx x rx

  abbrev PartY : Type 0
  PartY = Follows n d (grid.trees_y * 2 ^ b.level) grid.wraps_y b.y (span n b.level s.level) s.y fy cy y ry

  abbrev PartZ : Type 0
  PartZ = Follows n d (grid.trees_z * 2 ^ b.level) grid.wraps_z b.z (span n b.level s.level) s.z fz cz z rz

  -- the box of a region from the parts along the axes
  pub record Boxed (p : Box) : Type 0 where
    pub first_x : fx ≡ p.x.first
    pub count_x : cx ≡ p.x.count
    pub first_y : fy ≡ p.y.first
    pub count_y : cy ≡ p.y.count
    pub first_z : fz ≡ p.z.first
    pub count_z : cz ≡ p.z.count

  abbrev made : Box
  made = record { x = record { first = fx; count = cx }; y = record { first = fy; count = cy }; z = record { first = fz; count = cz } }

  Boxed-made : (p : Box) → Boxed p → made ≡ p
  Boxed-made p e =
      ap (λ u. record { x = record { first = u; count = cx }; y = record { first = fy; count = cy }; z = record { first = fz; count = cz } }) e.first_x
      ∙ ap (λ u. record { x = record { first = p.x.first; count = u }; y = record { first = fy; count = cy }; z = record { first = fz; count = cz } }) e.count_x
      ∙ ap (λ u. record { x = p.x; y = record { first = u; count = cy }; z = record { first = fz; count = cz } }) e.first_y
      ∙ ap (λ u. record { x = p.x; y = record { first = p.y.first; count = u }; z = record { first = fz; count = cz } }) e.count_y
      ∙ ap (λ u. record { x = p.x; y = p.y; z = record { first = u; count = cz } }) e.first_z
      ∙ ap (λ u. record { x = p.x; y = p.y; z = record { first = p.z.first; count = u } }) e.count_z

  pub piece-box : Boxed (region_box n d b dir s) → PartX → PartY → PartZ → box_amounts n b.level s.level q x rx cx y ry cy z rz cz ≡ piece_amounts grid n d b dir s q
  piece-box e px py pz =
      same_map (λ i. sent n b.level s.level q (record { x = further x rx (i % cx); y = further y ry (i / cx % cy); z = further z rz (i / cx / cy) }))
      (λ i. sent n b.level s.level q (offset grid n d b s (cell_in made i))) (cz * cy * cx) (λ i l.
      let o = box_places i cx cy cz l in
      ap (λ u. sent n b.level s.level q (record { x = u; y = further y ry (i / cx % cy); z = further z rz (i / cx / cy) })) (px.offsets (i % cx) o.0)
      ∙ ap (λ u. sent n b.level s.level q (record { x = (offset grid n d b s (cell_in made i)).x; y = u; z = further z rz (i / cx / cy) })) (py.offsets (i / cx % cy) o.1)
      ∙ ap (λ u. sent n b.level s.level q (record { x = (offset grid n d b s (cell_in made i)).x; y = (offset grid n d b s (cell_in made i)).y; z = u })) (pz.offsets (i / cx / cy) o.2))
      ∙ ap (λ p. map (λ i. sent n b.level s.level q (offset grid n d b s (cell_in p i))) (range_with_len 0 (box_size p))) (Boxed-made (region_box n d b dir s) e)
