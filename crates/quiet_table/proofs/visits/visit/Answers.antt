use Rattle.quiet_table.proofs.Trading.{serves}
use Rattle.quiet_table.proofs.visits.visit.Goals as goal

pub count-requires-clause-turn : goal.count-requires-clause-turn
count-requires-clause-turn c =
    let h = c.trade-purse.ensures.held in
    serves c.trade-purse.new.seat.place.me.0.hands c.args.shard c.trade-purse.result.credits h.0 c.trade-purse.result.envelopes.items _ _ _ _ h.1 h.2 c.serve-purse.ensures.turn
