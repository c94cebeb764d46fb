-- Each turn at a token, and the end.
use Rattle.std.proofs.Common.{arith}
use Rattle.params_syntax.proofs.ReadingSteps.{at_shorter, at_unformed, at_refused, at_more, token_at-shorter, at_end, first_of, tail_of, parts_of}
use Rattle.params_syntax.proofs.reading.read_short.Goals as goal

pub overflow_sub-offset : goal.overflow_sub-offset
overflow_sub-offset c = at_shorter c.args.text.now c.loop-here.state c.loop-here.here.now c.loop-here.invariant

pub returns-in-Err-clause-fault : goal.returns-in-Err-clause-fault
returns-in-Err-clause-fault c =
    let here = c.loop-here.here.now in
    rw c.fault.ensures.fault
    (at_unformed c.args.text.now c.loop-here.state here (first_of here) (tail_of here) c.in-Err.kind c.loop-here.invariant (parts_of here c.in-len1-up.len_at_least) c.in-Err.ensures.token)

pub returns-in-Err-advance-clause-fault : goal.returns-in-Err-advance-clause-fault
returns-in-Err-advance-clause-fault c =
    let here = c.loop-here.here.now in
    rw c.refused.ensures.refusal
    (at_refused c.args.text.now c.loop-here.state here (first_of here) (tail_of here) c.in-Ok.found.0 c.in-Ok.found.1.now c.in-Err-advance.refusal c.loop-here.invariant (parts_of here c.in-len1-up.len_at_least) c.in-Ok.ensures.token c.in-Err-advance.ensures.step)

pub loop-here-smaller : goal.loop-here-smaller
loop-here-smaller c =
    let here = c.loop-here.here.now in
    token_at-shorter here (first_of here) (tail_of here) c.in-Ok.found.0 c.in-Ok.found.1.now c.after_gap-here-in-len1-up.result.now (parts_of here c.in-len1-up.len_at_least) c.in-Ok.ensures.token c.after_gap-here-in-len1-up.ensures.rest

pub loop-here-preserved : goal.loop-here-preserved
loop-here-preserved c =
    let here = c.loop-here.here.now in
    at_more c.args.text.now c.loop-here.state here (first_of here) (tail_of here) c.in-Ok.found.0 c.in-Ok.found.1.now c.in-Ok-advance.next c.loop-here.invariant (parts_of here c.in-len1-up.len_at_least) c.in-Ok.ensures.token c.in-Ok-advance.ensures.step c.after_gap-here-in-len1-up.result.now c.after_gap-here-in-len1-up.ensures.rest

pub returns-clause-tree : goal.returns-clause-tree
returns-clause-tree c = (at_end c.args.text.now _ c.loop-here.here.now _ c.loop-here.invariant (omega arith) c.ended.ensures.end).tree

pub returns-clause-fault : goal.returns-clause-fault
returns-clause-fault c = (at_end c.args.text.now _ c.loop-here.here.now _ c.loop-here.invariant (omega arith) c.ended.ensures.end).fault
