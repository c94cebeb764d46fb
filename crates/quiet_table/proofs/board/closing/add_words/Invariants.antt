use Rattle.std.proofs.Common.{◌≡◌, ◌*◌}
use Rattle.std.specs.Mem.Slots.{slots_items}
use Rattle.quiet_table.specs.Words.{span}
use Rattle.quiet_table.proofs.board.closing.add_words.Given as goal

abbrev pub invariant-loop-k : goal.invariant-loop-k
invariant-loop-k g l = l.total ≡ span (slots_items l.fn.closed.words) (3 * l.fn.shards) l.k
