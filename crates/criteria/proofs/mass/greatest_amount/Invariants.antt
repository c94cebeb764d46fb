-- The greatest of the amounts that have been looked at.
use Rattle.std.proofs.Common.{◌≡◌, get_or}
use Rattle.criteria.specs.Lemmas.CellWishes.{greatest_below}
use Rattle.criteria.proofs.mass.greatest_amount.Given as goal

abbrev pub invariant-loop-q : goal.invariant-loop-q
invariant-loop-q l = l.greatest ≡ greatest_below l.q-index (λ x. get_or l.amounts x 0)
