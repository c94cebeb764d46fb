-- Refine is the greatest wish.
use Rattle.std.proofs.Common.{◌≡◌, ◌-◌, ◌∙◌, ℕ, max, min, ap, slice_index, arith}
use Rattle.block_index.specs.declared.wish.Wish.{Wish}
use Rattle.criteria.specs.Lemmas.CellWishes.{number_wish}
use Rattle.criteria.specs.Lemmas.Rows.{greatest_three, least_three}
use Rattle.criteria.proofs.GreatestWishes.{wish_below-stops}
use Rattle.criteria.proofs.contrast.spread_row.Goals as goal

pub returns-then-is_refine : goal.returns-then-is_refine
returns-then-is_refine c =
    let g = c.args.greatest.now in
    let l = c.args.least.now in
    let cell : ℕ → Wish = λ x. number_wish c.args.refine c.args.coarsen (greatest_three (slice_index g) x - least_three (slice_index l) x) in
    let x = c.loop-x.x in
    let most : c.max-most.result ≡ greatest_three (slice_index g) x = c.max-most.ensures ∙ ap (max (slice_index g x)) c.max.ensures in
    let fewest : c.min-fewest.result ≡ least_three (slice_index l) x = c.min-fewest.ensures ∙ ap (min (slice_index l x)) c.min.ensures in
    record {
      wish = wish_below-stops c.args.n x cell c.loop-x.wish c.number_wish.result c.greater-wish.result (omega arith) c.loop-x.invariant
          (c.number_wish.ensures.wish ∙ ap (number_wish c.args.refine c.args.coarsen) (c.saturating_sub.ensures ∙ (λ i. most i - fewest i)))
          c.greater-wish.ensures.wish (c.is_refine.ensures.refine.0 c.if-is_refine.true);
    }
