use Rattle.std.proofs.Common.{sym}
use Rattle.std.specs.Mem.Slots.{slots_items}
use Rattle.quiet_table.proofs.Emptying.{at_or}
use Rattle.quiet_table.proofs.board.closing.word_at.Goals as goal

pub returns : goal.returns
returns g c = sym (at_or (slots_items c.args.closed.now.words) c.args.word c.word.result 0 c.word.ensures)
