-- The greatest wish so far, and that of the criteria behind.
use Rattle.std.proofs.Common.{◌≡◌, drop}
use Rattle.block_fields.specs.Blocks.{seen_at}
use Rattle.criteria.specs.Wishes.{greater, criteria_wish}
use Rattle.criteria.proofs.deciding.criteria_wish.Given as goal

abbrev pub invariant-loop-criterion : goal.invariant-loop-criterion
invariant-loop-criterion l = record {
  wish : greater l.wish (criteria_wish l.block.edge l.phase (drop l.criterion-index l.criteria) (seen_at l.block) l.block.place)
      ≡ criteria_wish l.block.edge l.phase l.criteria (seen_at l.block) l.block.place;
}
