-- Samples that are no more than a sample may be, and how far they are apart.
use Rattle.std.proofs.Common.{◌≡◌, ℕ, ◌+◌, ◌<◌, ◌≤◌, sym, subst, arith, length, pos}
use Rattle.block_fields.specs.Blocks.{BlockState, seen_at}
use Rattle.criteria.specs.Cells.{gap}
use Rattle.criteria.specs.Samples.{IsSmall, before, most_amount}
use Rattle.criteria.proofs.Agreeing.{around-before, around-next, around-own}

pub gap-most : (a b m : ℕ) → a ≤ m → b ≤ m → gap a b ≤ m
gap-most a b m ha hb = omega arith

module _ (b : BlockState) (f x y z q : ℕ) (small : IsSmall b) (hf : f < length b.amounts) (hx : x < b.edge) (hy : y < b.edge + 2) (hz : z < b.edge + 2) where
  pub small-before : q ≡ seen_at b f (before x) (before y) (before z) → q ≤ most_amount
  small-before e =
      subst (λ k. k ≤ most_amount) (sym e)
      (small f (before x) (before y) (before z) hf (around-before b.edge x (omega arith)) (around-before b.edge y hy) (around-before b.edge z hz))

  pub small-own : q ≡ seen_at b f (pos x) (before y) (before z) → q ≤ most_amount
  small-own e =
      subst (λ k. k ≤ most_amount) (sym e)
      (small f (pos x) (before y) (before z) hf (around-own b.edge x hx) (around-before b.edge y hy) (around-before b.edge z hz))

  pub small-next : q ≡ seen_at b f (pos (x + 1)) (before y) (before z) → q ≤ most_amount
  small-next e =
      subst (λ k. k ≤ most_amount) (sym e)
      (small f (pos (x + 1)) (before y) (before z) hf (around-next b.edge x hx) (around-before b.edge y hy) (around-before b.edge z hz))
