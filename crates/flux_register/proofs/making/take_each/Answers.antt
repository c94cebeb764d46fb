-- What each call gives.
use Rattle.std.proofs.Common.{◌≡◌}
use Rattle.thread_runs.specs.Lemmas.Calls.{by_calls}
use Rattle.flux_register.specs.Lemmas.FirstCells.{IsFirstCell}
use Rattle.flux_register.proofs.making.take_each.Goals as goal

pub try_for_each_mut-requires-clause-accepts : goal.try_for_each_mut-requires-clause-accepts
try_for_each_mut-requires-clause-accepts g c κs within = λ i p here. c.requires.each i p.now here

pub returns-clause-each : goal.returns-clause-each
returns-clause-each g c =
    let set = c.args.set.now in
    let calls = c.try_for_each_mut in
    by_calls _ _ (λ i x y. IsFirstCell set.grid set.places i y × (y.block ≡ x.block) × (y.faces ≡ x.faces)) (λ i p q call. (call.0, call.1.0, call.1.1))
    c.args.cells.now calls.new.elements calls.result calls.ensures.changed
