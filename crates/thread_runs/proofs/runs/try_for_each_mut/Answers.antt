-- Places counted from 0.
use Rattle.thread_runs.proofs.Parts.{accepts_all, changes_each, refuses_one}
use Rattle.thread_runs.proofs.runs.try_for_each_mut.Goals as goal

pub returns-then-threads-eq1-clause-changed : goal.returns-then-threads-eq1-clause-changed
returns-then-threads-eq1-clause-changed g c = changes_each g.F.Fn c.args.f.now c.args.elements.now c.in_turn.new.elements c.in_turn.result c.in_turn.ensures.changed

pub returns-then-threads-eq1-clause-refused : goal.returns-then-threads-eq1-clause-refused
returns-then-threads-eq1-clause-refused g c = refuses_one g.F.Fn c.args.f.now c.args.elements.now c.in_turn.result c.in_turn.ensures.refused

pub side_by_side-requires-clause-accepts : goal.side_by_side-requires-clause-accepts
side_by_side-requires-clause-accepts g c κs within = accepts_all g.F.Fn c.args.f.now c.args.elements.now c.requires.accepts

pub returns-clause-changed : goal.returns-clause-changed
returns-clause-changed g c = changes_each g.F.Fn c.args.f.now c.args.elements.now c.side_by_side.new.elements c.side_by_side.result c.side_by_side.ensures.changed

pub returns-clause-refused : goal.returns-clause-refused
returns-clause-refused g c = refuses_one g.F.Fn c.args.f.now c.args.elements.now c.side_by_side.result c.side_by_side.ensures.refused
