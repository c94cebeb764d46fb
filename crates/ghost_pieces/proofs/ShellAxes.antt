-- Along an axis, local coordinates as a block counts them: their side, and their position among the cells there.
use Rattle.std.proofs.Common.{◌≡◌, ℕ, suc, ◌+◌, ◌-◌, ◌*◌, ◌<◌, ◌≤◌, true, nat_le, nat_lt, sym, ap, ◌∙◌, subst, arith, inl, inr, ℤ, pos, negsuc}
use Rattle.std.proofs.lemmas.Bool.{and_from, and_parts, cases_lt, cond-true, cond-false, le-leb, leb-true, lt-ltb, ltb-true, le-ltb}
use Rattle.std.proofs.lemmas.Int.{ints}
use Rattle.block_index.specs.Axes.{IsUnitStep}
use Rattle.block_index.proofs.Beyond.{at_steps}
use Rattle.block_fields.specs.Shells.{IsAround, position_of, side_length, side_of}
use Rattle.ghost_pieces.specs.Ghosts.{counted}
use Rattle.ghost_pieces.specs.Boxes.{IsWithin, Stretch, part_of, stretch_of}
use Rattle.ghost_pieces.specs.Filing.{is_within, listed_part, side_of_step}

from_low : (d g : ℕ) → g < d → counted d g ≡ negsuc (d - 1 - g)
from_low d g h = omega (arith, ints)

from_high : (d g : ℕ) → d ≤ g → counted d g ≡ pos (g - d)
from_high d g h = omega (arith, ints)

pub counted-around : (n d g : ℕ) → g < n + 2 * d → IsAround n d (counted d g)
counted-around n d g h =
    elim (cases_lt g d) [
      | inl few ↦ subst (IsAround n d) (sym (from_low d g few)) (let e : d - 1 - g < d = omega arith in e)
      | inr more ↦ subst (IsAround n d) (sym (from_high d g more)) (let e : g - d < n + d = omega arith in e)
    ]

inner_side : (n u : ℕ) → u < n → side_of n (pos u) ≡ 1
inner_side n u h = cond-true (nat_lt u n) 1 2 (lt-ltb u n h)

outer_side : (n u : ℕ) → n ≤ u → side_of n (pos u) ≡ 2
outer_side n u h = cond-false (nat_lt u n) 1 2 (le-ltb u n h)

inner_position : (n d u : ℕ) → u < n → position_of n d (pos u) ≡ u
inner_position n d u h = cond-true (nat_lt u n) u (u - n) (lt-ltb u n h)

outer_position : (n d u : ℕ) → n ≤ u → position_of n d (pos u) ≡ u - n
outer_position n d u h = cond-false (nat_lt u n) u (u - n) (le-ltb u n h)

-- a coordinate to which a step leads
pub record OnSide (n d g : ℕ) (s : ℤ) : Type 0 where
  pub side : side_of n (counted d g) ≡ side_of_step s
  pub position : position_of n d (counted d g) ≡ g - (stretch_of n d s).first
  pub below : g - (stretch_of n d s).first < side_length n d (side_of_step s)

pub on_side : (n d g : ℕ) (s : ℤ) → IsUnitStep s → IsWithin (stretch_of n d s) g → OnSide n d g s
on_side n d g s h =
    at_steps (λ s. IsWithin (stretch_of n d s) g → OnSide n d g s)
    (λ w. let few : g < d = omega (arith, w.below) in record {
      side = ap (side_of n) (from_low d g few);
      position = ap (position_of n d) (from_low d g few) ∙ (let e : d - suc (d - 1 - g) ≡ g - 0 = omega arith in e);
      below = omega arith;
    })
    (λ w. let few : g - d < n = omega (arith, w.from, w.below) in record {
      side = ap (side_of n) (from_high d g w.from) ∙ inner_side n (g - d) few;
      position = ap (position_of n d) (from_high d g w.from) ∙ inner_position n d (g - d) few;
      below = few;
    })
    (λ w. let more : n ≤ g - d = omega (arith, w.from) in let up : d ≤ g = omega (arith, w.from) in record {
      side = ap (side_of n) (from_high d g up) ∙ outer_side n (g - d) more;
      position = ap (position_of n d) (from_high d g up) ∙ outer_position n d (g - d) more ∙ (let e : g - d - n ≡ g - (n + d) = omega arith in e);
      below = omega (arith, w.from, w.below);
    })
    s h

-- ---- a part of the stretch of a step

pub part_within : (n d a c b : ℕ) (s : ℤ) (g : ℕ) → IsUnitStep s → IsWithin (part_of n d a c b s) g → IsWithin (stretch_of n d s) g
part_within n d a c b s g h =
    at_steps (λ s. IsWithin (part_of n d a c b s) g → IsWithin (stretch_of n d s) g) (λ w. w)
    (λ w. record { from = omega (arith, w.from); below = omega (arith, w.from, w.below) })
    (λ w. w)
    s h

-- a coordinate of a stretch is one of the block with its shell
pub in_stretch : (n d : ℕ) (s : ℤ) (g : ℕ) → IsUnitStep s → IsWithin (stretch_of n d s) g → g < n + 2 * d
in_stretch n d s g h =
    at_steps (λ s. IsWithin (stretch_of n d s) g → g < n + 2 * d) (λ w. omega (arith, w.below)) (λ w. omega (arith, w.below)) (λ w. omega (arith, w.below)) s h

pub part_first : (n d a c b : ℕ) (s : ℤ) → IsUnitStep s → (stretch_of n d s).first ≤ (part_of n d a c b s).first
part_first n d a c b s h =
    at_steps (λ s. (stretch_of n d s).first ≤ (part_of n d a c b s).first) (omega arith) (omega arith) (omega arith) s h

module _ (n d a c b : ℕ) (s : ℤ) (h : IsUnitStep s) (g : ℕ) where
  abbrev first : ℕ
  first = (stretch_of n d s).first

  abbrev listed : Stretch
  listed = listed_part n d a c b s

  pub within-listed : IsWithin (part_of n d a c b s) g → is_within (listed_part n d a c b s) (g - (stretch_of n d s).first) ≡ true
  within-listed w =
      let f = part_first n d a c b s h in
      let x = g - first in
      and_from (nat_le listed.first x) (nat_lt x (listed.first + listed.count)) (le-leb listed.first x (omega (arith, w.from)))
      (lt-ltb x (listed.first + listed.count) (omega (arith, w.from, w.below)))

  pub listed-within : first ≤ g → is_within (listed_part n d a c b s) (g - (stretch_of n d s).first) ≡ true → IsWithin (part_of n d a c b s) g
  listed-within l t =
      let f = part_first n d a c b s h in
      let x = g - first in
      let o = and_parts (nat_le listed.first x) (nat_lt x (listed.first + listed.count)) t in
      let p = leb-true listed.first x o.0 in
      let q = ltb-true x (listed.first + listed.count) o.1 in
      record { from = omega arith; below = omega arith }
