use Rattle.std.proofs.Common.{length, sym}
use Rattle.cello_bench.proofs.Fitting.{AllFit-size}
use Rattle.cello_bench.proofs.ghosts.add_owed_at.Goals as goal

pub add_owed-requires-clause-fit : goal.add_owed-requires-clause-fit
add_owed-requires-clause-fit c =
    let b = c.index-blocks-at.result in
    let s = c.args.size in
    let y = c.if-is_at.true in
    let is = c.is_at.ensures in
    AllFit-size c.args.set.now s.edge b.edge s.depth b.depth s.fields (length b.amounts) (sym (is.edge y)) (sym (is.depth y)) (sym (is.fields y)) c.args.found.now.items c.requires.fit

pub returns-in_ok-add_owed : goal.returns-in_ok-add_owed
returns-in_ok-add_owed c =
    let b = c.index-blocks-at.result in
    let s = c.args.size in
    let y = c.if-is_at.true in
    let is = c.is_at.ensures in
    record { fit = AllFit-size c.args.set.now b.edge s.edge b.depth s.depth (length b.amounts) s.fields (is.edge y) (is.depth y) (is.fields y) c.add_owed.new.found.items c.in_ok-add_owed.ensures.fit }
