-- Along an axis a region goes on cell by cell, or stays at one cell.
use Rattle.std.proofs.Common.{◌≡◌, ℕ, ◌+◌, ◌-◌, ◌*◌, ◌<◌, ◌≤◌, inl, inr, Bool, true, false, cond, ◌||◌, nat_lt, refl, ap, ◌∙◌, arith, ℤ, pos, negsuc, ◌-ℤ◌}
use Rattle.std.proofs.lemmas.Bool.{cond-true, cond-false, lt-ltb, le-ltb, false≢true}
use Rattle.std.proofs.lemmas.Int.{ints}
use Rattle.block_index.specs.Axes.{IsUnitStep, IsNext}
use Rattle.block_index.proofs.Beyond.{at_steps}
use Rattle.block_fields.specs.Samples.{moved}
use Rattle.ghost_pieces.specs.Boxes.{IsWithin, stretch_of}
use Rattle.ghost_pieces.specs.Sent.{offset_of}
use Rattle.ghost_pieces.specs.Lemmas.Parts.{runs}
use Rattle.ghost_pieces.proofs.AxisCells.{low, high, middle}

-- a step over the end of an axis wraps
down_wraps : (t a p : ℕ) (w : Bool) → IsNext t w (negsuc 0) a p → (w || nat_lt 0 a) ≡ true
down_wraps t a p true n = refl
down_wraps t a p false n = elim n.at [ inl e ↦ lt-ltb 0 a (omega (arith, ints)) | inr r ↦ absurd (false≢true (r.0)) ]

up_wraps : (t a p : ℕ) (w : Bool) → IsNext t w (pos 1) a p → (w || nat_lt (a + 1) t) ≡ true
up_wraps t a p true n = refl
up_wraps t a p false n = let i = n.inside in elim n.at [ inl e ↦ lt-ltb (a + 1) t (omega (arith, ints)) | inr r ↦ absurd (false≢true (r.0)) ]

module _ (n d t a : ℕ) (inside_axis : a < t) (deep : 2 * d ≤ n) (w : Bool) where
  abbrev to : ℕ → ℕ
  to g = moved w (t * n) (pos (a * n + g) -ℤ pos d)

  abbrev Runs : ℤ → Type 0
  Runs s = (e g : ℕ) → e ≤ g → IsWithin (stretch_of n d s) e → IsWithin (stretch_of n d s) g → to g ≡ to e + runs t w a s * (g - e)

  once_more : (r e g : ℕ) → r ≡ 1 → r * (g - e) ≡ g - e
  once_more r e g f = ap (λ u. u * (g - e)) f ∙ (let k : 1 * (g - e) ≡ g - e = omega arith in k)

  not_once : (r e g : ℕ) → r ≡ 0 → r * (g - e) ≡ 0
  not_once r e g f = ap (λ u. u * (g - e)) f ∙ (let k : 0 * (g - e) ≡ 0 = omega arith in k)

  down : Runs (negsuc 0)
  down e g l p q =
      let r : ℕ = cond (w || nat_lt 0 a) 1 0 in
      elim (low n d t a inside_axis deep w) [
        | inl b ↦
            let x = b.2 e (omega (arith, p.below)) in
            let y = b.2 g (omega (arith, q.below)) in
            let m = once_more r e g (cond-true (w || nat_lt 0 a) 1 0 (down_wraps t a b.0 w b.1)) in
            omega (arith, p.below, q.below)
        | inr b ↦
            let x = b.2 e (omega (arith, p.below)) in
            let y = b.2 g (omega (arith, q.below)) in
            let none : (w || nat_lt 0 a) ≡ false = ap (λ u. u || nat_lt 0 a) b.1 ∙ le-ltb 0 a (omega (arith, b.0)) in
            let m = not_once r e g (cond-false (w || nat_lt 0 a) 1 0 none) in
            omega arith
      ]

  stay : Runs (pos 0)
  stay e g l p q =
      let x = middle n d t a inside_axis deep w e p.from (omega (arith, p.below)) in
      let y = middle n d t a inside_axis deep w g q.from (omega (arith, q.below)) in
      let m = once_more 1 e g refl in
      omega (arith, p.from)

  up : Runs (pos 1)
  up e g l p q =
      let r : ℕ = cond (w || nat_lt (a + 1) t) 1 0 in
      elim (high n d t a inside_axis deep w) [
        | inl b ↦
            let x = b.2 e p.from (omega (arith, p.below)) in
            let y = b.2 g q.from (omega (arith, q.below)) in
            let m = once_more r e g (cond-true (w || nat_lt (a + 1) t) 1 0 (up_wraps t a b.0 w b.1)) in
            omega (arith, p.from, q.from)
        | inr b ↦
            let x = b.2 e p.from (omega (arith, p.below)) in
            let y = b.2 g q.from (omega (arith, q.below)) in
            let none : (w || nat_lt (a + 1) t) ≡ false = ap (λ u. u || nat_lt (a + 1) t) b.1 ∙ le-ltb (a + 1) t (omega (arith, b.0)) in
            let m = not_once r e g (cond-false (w || nat_lt (a + 1) t) 1 0 none) in
            omega arith
      ]

  pub runs_on : (s : ℤ) → IsUnitStep s → Runs s
  runs_on s h = at_steps Runs down stay up s h

  -- the offset of a later coordinate, where the first is moved into the block b
  pub offset_on : (s : ℤ) (c b e g : ℕ) → IsUnitStep s → e ≤ g → IsWithin (stretch_of n d s) e → IsWithin (stretch_of n d s) g → b * c ≤ to e → offset_of n d t w a c b g ≡ offset_of n d t w a c b e + runs t w a s * (g - e)
  offset_on s c b e g h l p q k =
      let f = runs_on s h e g l p q in
      let m = runs t w a s * (g - e) in
      omega arith
