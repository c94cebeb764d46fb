-- What the cycle tells was written, or a part of it.
use Rattle.std.proofs.Common.{ap}
use Rattle.run_core.specs.Works.{Standing}
use Rattle.cello_top.proofs.Counted.{counted-emit}
use Rattle.cello_top.proofs.EngineSteps.{cycle-part, cycle-whole}
use Rattle.cello_top.proofs.engine.tell_cycle.Goals as goal

pub returns-clause-told : goal.returns-clause-told
returns-clause-told g c = λ n before t.
    cycle-whole _ c.args.run.now c.done_emit.new.self n before _ _ t (ap (λ (x : Standing). x.course) c.done_emit.ensures.next) c.blocks-2.result.now
    (λ told is. c.done_emit.ensures.told told c.blocks-2.result.now is c.blocks-2.ensures.holds) c.params.result.now c.params.ensures.params c.cycle.result c.cycle.ensures.cycle
    c.ledger.result.now c.ledger.ensures.ledger c.emit-told.result (counted-emit _ c.args.run.now c.done_emit.new.self c.requires.work.step c.done_emit.ensures.next n t.counted) c.emit-told.ensures.acted

pub returns-clause-part : goal.returns-clause-part
returns-clause-part g c = λ n before t.
    cycle-part _ c.args.run.now c.done_emit.new.self n before _ _ t (ap (λ (x : Standing). x.course) c.done_emit.ensures.next) c.blocks-2.result.now
    (λ told is. c.done_emit.ensures.told told c.blocks-2.result.now is c.blocks-2.ensures.holds) c.params.result.now c.params.ensures.params c.cycle.result c.cycle.ensures.cycle
    c.ledger.result.now c.ledger.ensures.ledger c.requires.limits c.set-set.ensures.stands c.emit-told.result c.emit-told.ensures.acted
