-- What each call gives.
use Rattle.thread_runs.specs.Lemmas.Calls.{by_calls}
use Rattle.parallel_maps.specs.Advances.{WasAdvanced}
use Rattle.parallel_maps.proofs.moving.advance_each.Goals as goal

pub try_for_each_mut-requires-clause-accepts : goal.try_for_each_mut-requires-clause-accepts
try_for_each_mut-requires-clause-accepts g c κs within = λ i p here. c.requires.can i p.now here

pub returns-clause-each : goal.returns-clause-each
returns-clause-each g c =
    let calls = c.try_for_each_mut in
    by_calls _ _ (λ i m n. WasAdvanced c.args.params.now m.block n.block n.faces) (λ i p q call. call)
    c.args.moving.now calls.new.elements calls.result calls.ensures.changed
