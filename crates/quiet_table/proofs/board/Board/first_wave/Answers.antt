use Rattle.std.proofs.Common.{◌∙◌, arith}
use Rattle.quiet_table.proofs.WaveLoops.{first_fits, first_more}
use Rattle.quiet_table.proofs.board.Board.first_wave.Goals as goal

pub overflow_add-handled : goal.overflow_add-handled
overflow_add-handled g c = let h = first_fits c.loop-k.place.me.0.first c.loop-k.k c.read_first-handled-in-loop-k.result c.loop-k.handled c.loop-k.invariant.long c.loop-k.invariant.sum c.read_first-handled-in-loop-k.ensures.small in omega arith

pub loop-k-preserved : goal.loop-k-preserved
loop-k-preserved g c =
    let inv = c.loop-k.invariant in
    let call = c.read_first-handled-in-loop-k in
    let more = first_more c.args.place.now.me.0 c.args.place.now.me.1 c.loop-k.place.me call.new.place.me c.loop-k.k call.result c.loop-k.handled inv.told inv.long inv.sum call.ensures.told in
    record {
      own = call.ensures.own.0 ∙ inv.own;
      id = call.ensures.own.1 ∙ inv.id;
      told = more.0;
      long = more.1;
      sum = more.2;
    }
