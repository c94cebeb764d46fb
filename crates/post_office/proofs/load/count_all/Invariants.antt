use Rattle.std.proofs.Common.{◌≡◌, length, take}
use Rattle.quiet_table.specs.Contents.{pool}
use Rattle.post_office.proofs.load.count_all.Given as goal

abbrev pub invariant-loop-k : goal.invariant-loop-k
invariant-loop-k g l = l.total ≡ length (pool (take l.k l.mail.items))
