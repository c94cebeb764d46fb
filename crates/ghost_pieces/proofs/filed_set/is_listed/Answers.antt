use Rattle.std.proofs.Common.{sym, arith}
use Rattle.ghost_pieces.specs.Filing.{is_same_source}
use Rattle.ghost_pieces.proofs.FiledLists.{none_any}
use Rattle.ghost_pieces.proofs.filed_set.is_listed.Goals as goal

pub returns : goal.returns
returns c =
    record { listed = sym (none_any (is_same_source c.args.source) c.args.sources.now c.args.source (λ k h. c.loop-other.invariant k (omega (arith, c.loop-other-test.false)))) }
