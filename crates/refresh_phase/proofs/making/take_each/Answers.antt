-- What each call gives.
use Rattle.std.proofs.Common.{◌≡◌}
use Rattle.thread_runs.specs.Lemmas.Calls.{by_calls}
use Rattle.refresh_phase.specs.Lemmas.FirstCells.{IsFirstCell}
use Rattle.refresh_phase.proofs.making.take_each.Goals as goal

pub try_for_each_mut-requires-clause-accepts : goal.try_for_each_mut-requires-clause-accepts
try_for_each_mut-requires-clause-accepts g c κs within = λ i p here.
    let one = c.requires.each i p.now here in
    (one.0, (one.1, one.2))

pub returns-clause-each : goal.returns-clause-each
returns-clause-each g c =
    let set = c.args.set.now in
    let calls = c.try_for_each_mut in
    by_calls _ _ (λ i x y. IsFirstCell set.grid set.places i y × (y.block ≡ x.block)) (λ i p q call. (call.0, call.1))
    c.args.cells.now calls.new.elements calls.result calls.ensures.changed
