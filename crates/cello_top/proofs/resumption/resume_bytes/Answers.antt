-- A state that was read, and bytes that are none.
use Rattle.cello_top.proofs.CommandEnds.{run-unwritten}
use Rattle.cello_top.proofs.Resumed.{goes_on_from, read-ends, read-whole, unread-ends}
use Rattle.cello_top.proofs.resumption.resume_bytes.Goals as goal

pub resume_state-requires-clause-from : goal.resume_state-requires-clause-from
resume_state-requires-clause-from g c =
    let s = c.in-Ok.state in
    goes_on_from s.params s.cycle s.set s.blocks.items s.ledger c.in-Ok.ensures.blocks c.args.bytes.now c.in-Ok.ensures.read c.in-Ok.ensures.grid c.in-Ok.ensures.ledger
    c.four_each.ensures.total c.in-Ok.ensures.zero.0

pub returns-in-Ok-clause-whole : goal.returns-in-Ok-clause-whole
returns-in-Ok-clause-whole g c =
    let s = c.in-Ok.state in
    read-whole s.params s.cycle s.set s.blocks.items s.ledger c.in-Ok.ensures.blocks c.four_each.ensures.gone c.in-Ok.ensures.zero.1 c.args.bytes.now c.in-Ok.ensures.read
    c.args.until _ _ g.C.Crew.counts c.resume_state.result c.resume_state.ensures.whole

pub returns-in-Ok-clause-ended : goal.returns-in-Ok-clause-ended
returns-in-Ok-clause-ended g c =
    let s = c.in-Ok.state in
    read-ends s.params s.cycle s.set s.blocks.items s.ledger c.in-Ok.ensures.blocks c.four_each.ensures.gone c.in-Ok.ensures.zero.1 c.args.bytes.now c.in-Ok.ensures.read
    c.args.until _ _ c.resume_state.result c.resume_state.ensures.ended

pub returns-in-Ok-clause-unwritten : goal.returns-in-Ok-clause-unwritten
returns-in-Ok-clause-unwritten g c = run-unwritten _ _ _ _ _ c.resume_state.result c.resume_state.ensures.ended

pub returns-in-Ok-clause-unmade : goal.returns-in-Ok-clause-unmade
returns-in-Ok-clause-unmade g c = run-unwritten _ _ _ _ _ c.resume_state.result c.resume_state.ensures.ended

pub returns-in-Err-clause-ended : goal.returns-in-Err-clause-ended
returns-in-Err-clause-ended g c = unread-ends _ _ _ c.in-Err.fault c.fault_of_file.result c.in-Err.ensures.fault c.fault_of_file.ensures.memory c.fault_of_file.ensures.other
