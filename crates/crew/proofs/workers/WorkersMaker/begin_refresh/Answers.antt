-- As the closure says.
use Rattle.crew.proofs.workers.WorkersMaker.begin_refresh.Goals as goal

pub returns-clause-sizes : goal.returns-clause-sizes
returns-clause-sizes g c = c.requires.ready.11 _ _ _ _ c.begin_refresh.ensures

pub returns-clause-state : goal.returns-clause-state
returns-clause-state g c = c.requires.ready.12 _ _ _ _ c.begin_refresh.ensures
