use Rattle.std.proofs.Common.{rules, ◌+◌}
use Rattle.quiet_table.proofs.Trading.{may_trade, trade_held}
use Rattle.quiet_table.proofs.visits.trade.Goals as goal

pub give_box-requires-clause-may : goal.give_box-requires-clause-may
give_box-requires-clause-may c =
    let h = c.requires.held in
    may_trade c.take_box.new.seat.place.me.0.hands c.args.seat.now.place.me.0.hands (c.args.board.now.shards + c.args.at) c.args.shard c.args.purse.credits c.in-Taken.tray.envelopes.items h.0 c.args.purse.envelopes.items c.move_all-tray.result.0.items c.move_all-tray.result.1.items (search rules) h.1 h.2 (search rules)

pub returns-in-Taken-clause-held : goal.returns-in-Taken-clause-held
returns-in-Taken-clause-held c =
    let h = c.requires.held in
    trade_held c.take_box.new.seat.place.me.0.hands c.args.seat.now.place.me.0.hands c.give_box.new.seat.place.me.0.hands (c.args.board.now.shards + c.args.at) c.args.shard c.args.purse.credits c.in-Taken.tray.envelopes.items h.0 c.args.purse.envelopes.items c.move_all-tray.result.0.items c.move_all-tray.result.1.items (search rules) h.1 h.2 (search rules) c.give_box.ensures.goes c.give_box.ensures.stays
