-- One adapt phase more is counted.
use Rattle.cello_top.proofs.Counted.{counted-adapt}
use Rattle.cello_top.proofs.works.drive_phase.Goals as goal

pub returns-clause-counted : goal.returns-clause-counted
returns-clause-counted g c = λ n counted.
    counted-adapt _ c.args.run.now c.done_adapt.new.self c.args.phase c.args.cells.items c.requires.work _ c.set-set.ensures.grid c.set-set.ensures.stands
    c.in_ok-done_adapt.ensures.next n c.in_ok-quiet.quiet.handled c.handled-handled.result c.in_ok-quiet.ensures.counts c.handled-handled.ensures.handled counted
