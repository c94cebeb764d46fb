use Rattle.std.proofs.Common.{sym}
use Rattle.quiet_table.proofs.Giving.{cell_below, stays}
use Rattle.quiet_table.proofs.board.Board.give_cell.Goals as goal

pub give_slot-requires-clause-kind : goal.give_slot-requires-clause-kind
give_slot-requires-clause-kind g c = let b = c.args.self.now in sym (cell_below c.args.shard b.shards b.table.shared.table_id.slots c.requires.within b.sized.1)

pub returns-clause-stays : goal.returns-clause-stays
returns-clause-stays g c = stays c.args.seat.now.place.me.0.hands _ _ c.requires.may c.give_slot.ensures.goes.1
