-- The wish of the cells that have been looked at.
use Rattle.std.proofs.Common.{◌≡◌, ◌-◌, slice_index}
use Rattle.criteria.specs.Lemmas.CellWishes.{number_wish, wish_below}
use Rattle.criteria.specs.Lemmas.Rows.{greatest_three, least_three}
use Rattle.criteria.proofs.contrast.spread_row.Given as goal

abbrev pub invariant-loop-x : goal.invariant-loop-x
invariant-loop-x l =
    l.wish ≡ wish_below l.x (λ x. number_wish l.refine l.coarsen (greatest_three (slice_index l.greatest) x - least_three (slice_index l.least) x))
