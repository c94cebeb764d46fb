-- Where there is a region, its box is told by both places alone.
use Rattle.std.proofs.Common.{◌≡◌, ℕ, ◌*◌, ◌^◌, Bool, true, false, cond, ◌&&◌, nat_lt, refl, ap, ◌∙◌, ℤ}
use Rattle.std.proofs.lemmas.Bool.{and_parts, false≢true}
use Rattle.block_index.specs.Beyond.{Offset}
use Rattle.block_index.specs.Places.{Cube, Grid}
use Rattle.ghost_pieces.specs.Boxes.{part_of, reaches, reached_part, span, region_box, reached_box, has_region}

all_reached : (r : Bool) (c : ℕ) → nat_lt 0 (cond r c 0) ≡ true → cond r c 0 ≡ c
all_reached true c h = refl
all_reached false c h = absurd (false≢true h)

same_part : (n d t : ℕ) (w : Bool) (a c b : ℕ) (s : ℤ) → nat_lt 0 (reached_part n d t w a c b s).count ≡ true → reached_part n d t w a c b s ≡ part_of n d a c b s
same_part n d t w a c b s h =
    ap (λ u. record { first = (part_of n d a c b s).first; count = u }) (all_reached (reaches n d t w a c b s) (part_of n d a c b s).count h)

pub reached-region : (grid : Grid) (n d : ℕ) (b : Cube) (dir : Offset) (s : Cube) → has_region grid n d b dir s ≡ true → reached_box grid n d b dir s ≡ region_box n d b dir s
reached-region grid n d b dir s h =
    let p = reached_box grid n d b dir s in
    let q = region_box n d b dir s in
    let o = and_parts (nat_lt 0 p.x.count && nat_lt 0 p.y.count) (nat_lt 0 p.z.count) h in
    let i = and_parts (nat_lt 0 p.x.count) (nat_lt 0 p.y.count) o.0 in
    let c = span n b.level s.level in
    let x = same_part n d (grid.trees_x * 2 ^ b.level) grid.wraps_x b.x c s.x dir.x i.0 in
    let y = same_part n d (grid.trees_y * 2 ^ b.level) grid.wraps_y b.y c s.y dir.y i.1 in
    let z = same_part n d (grid.trees_z * 2 ^ b.level) grid.wraps_z b.z c s.z dir.z o.1 in
    ap (λ u. record { x = u; y = p.y; z = p.z }) x ∙ ap (λ u. record { x = q.x; y = u; z = p.z }) y ∙ ap (λ u. record { x = q.x; y = q.y; z = u }) z
