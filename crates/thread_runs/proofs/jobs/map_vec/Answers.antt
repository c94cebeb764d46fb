-- The jobs in other words.
use Rattle.thread_runs.proofs.Parts.{gives, takes}
use Rattle.thread_runs.proofs.jobs.map_vec.Goals as goal

pub returns-then-len-eq1-clause-each : goal.returns-then-len-eq1-clause-each
returns-then-len-eq1-clause-each g c = gives g.F.Fn c.args.f.now c.args.jobs.items c.one_alone.result.items c.one_alone.ensures

pub all_at_once-requires-clause-accepts : goal.all_at_once-requires-clause-accepts
all_at_once-requires-clause-accepts g c κs within = takes g.F.Fn c.args.f.now c.args.jobs.items c.requires

pub returns-clause-each : goal.returns-clause-each
returns-clause-each g c = gives g.F.Fn c.args.f.now c.args.jobs.items c.all_at_once.result.items c.all_at_once.ensures.given
