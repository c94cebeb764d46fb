-- The greatest amount gives the greatest wish.
use Rattle.std.proofs.Common.{◌∙◌, ap, length, get_or}
use Rattle.criteria.specs.Lemmas.CellWishes.{number_wish, wish_below}
use Rattle.criteria.proofs.GreatestAmounts.{mass-block, number_wish-below}
use Rattle.criteria.proofs.mass.mass_wish.Goals as goal

pub returns : goal.returns
returns c =
    let r = c.args.refine in
    let k = c.args.coarsen in
    let list = c.field.result.now in
    record {
      wish = c.number_wish.ensures.wish
          ∙ ap (number_wish r k) c.greatest_amount.ensures.greatest
          ∙ number_wish-below r k (length list) (λ x. get_or list x 0)
          ∙ (λ i. wish_below (c.field.ensures.cells i) (λ x. number_wish r k (get_or (c.field.ensures.amounts i) x 0)))
          ∙ mass-block c.args.block.now c.args.field r k;
    }
