use Rattle.std.proofs.Common.{◌∙◌, arith}
use Rattle.quiet_table.proofs.WaveLoops.{second_fits, second_more}
use Rattle.quiet_table.proofs.board.Board.second_wave.Goals as goal

pub overflow_add-sent : goal.overflow_add-sent
overflow_add-sent g c = let h = second_fits c.loop-k.place.me.0.second c.read_second-sent.result c.loop-k.sent c.loop-k.invariant.sum c.read_second-sent.ensures.small in omega arith

pub loop-k-preserved : goal.loop-k-preserved
loop-k-preserved g c =
    let inv = c.loop-k.invariant in
    let call = c.read_second-sent in
    let more = second_more c.args.place.now.me.0 c.args.place.now.me.1 c.loop-k.place.me call.new.place.me c.loop-k.k call.result c.loop-k.sent inv.told inv.long inv.sum call.ensures.told in
    record {
      own = call.ensures.own.0 ∙ inv.own;
      id = call.ensures.own.1 ∙ inv.id;
      told = more.0;
      long = more.1;
      sum = more.2;
    }
