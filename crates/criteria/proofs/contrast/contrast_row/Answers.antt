-- The greatest and the least of nine, by those of three.
use Rattle.std.proofs.Common.{◌-◌, ◌+◌, ◌∙◌, ℕ, max, min, slice_index, arith}
use Rattle.block_index.specs.declared.wish.Wish.{Wish}
use Rattle.criteria.specs.Lemmas.CellWishes.{number_wish}
use Rattle.criteria.specs.Lemmas.Rows.{greatest_three, least_three}
use Rattle.criteria.proofs.CellRows.{greatest_three-same, least_three-same}
use Rattle.criteria.proofs.GreatestWishes.{wish_below-same}
use Rattle.criteria.proofs.contrast.contrast_row.Goals as goal

pub returns : goal.returns
returns c =
    let low = c.args.low.now in
    let here = c.args.here.now in
    let high = c.args.high.now in
    let g = c.greatest_of-greatest.result in
    let l = c.least_of-least.result in
    let most : ℕ → ℕ = λ u. max (slice_index low.greatest u) (max (slice_index here.greatest u) (slice_index high.greatest u)) in
    let fewest : ℕ → ℕ = λ u. min (slice_index low.least u) (min (slice_index here.least u) (slice_index high.least u)) in
    let wish : ℕ → Wish = λ x. number_wish c.args.refine c.args.coarsen (greatest_three most x - least_three fewest x) in
    let sum : ℕ → Wish = λ x. number_wish c.args.refine c.args.coarsen (greatest_three (slice_index g) x - least_three (slice_index l) x) in
    let few = c.requires.most in
    record {
      wish = c.spread_row.ensures.wish
          ∙ wish_below-same c.args.n sum wish
          (λ x h.
          let a = greatest_three-same (slice_index g) most x (c.greatest_of-greatest.ensures.greatest x (omega arith))
          (c.greatest_of-greatest.ensures.greatest (x + 1) (omega arith)) (c.greatest_of-greatest.ensures.greatest (x + 2) (omega arith)) in
          let b = least_three-same (slice_index l) fewest x (c.least_of-least.ensures.least x (omega arith))
          (c.least_of-least.ensures.least (x + 1) (omega arith)) (c.least_of-least.ensures.least (x + 2) (omega arith)) in
          λ i. number_wish c.args.refine c.args.coarsen (a i - b i));
    }
