-- As the closure says.
use Rattle.crew.proofs.workers.WorkersMaker.begin_flux.Goals as goal

pub returns-clause-sizes : goal.returns-clause-sizes
returns-clause-sizes g c = c.requires.ready.17 _ _ _ _ _ c.begin_flux.ensures

pub returns-clause-state : goal.returns-clause-state
returns-clause-state g c = c.requires.ready.18 _ _ _ _ _ c.begin_flux.ensures

pub returns-clause-made : goal.returns-clause-made
returns-clause-made g c = c.requires.ready.20 _ _ _ _ _ c.begin_flux.ensures
