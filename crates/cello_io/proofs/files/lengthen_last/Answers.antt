-- What is left of the proof of this function.
use Rattle.std.proofs.Common.{◌-◌, arith}
use Rattle.cello_io.specs.StoredFiles.{longer}
use Rattle.cello_io.proofs.MadeFiles.{set-last}
use Rattle.cello_io.proofs.files.lengthen_last.Goals as goal

pub returns-clause-last : goal.returns-clause-last
returns-clause-last c =
    set-last (longer c.args.count) c.args.made.now.items (c.len-last.result - 1) c.index_mut.result.now (omega (arith, c.requires.some, c.len-last.ensures)) c.index_mut.ensures.value
