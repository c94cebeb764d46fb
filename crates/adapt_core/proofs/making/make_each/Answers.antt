-- What each call gives.
use Rattle.std.specs.Prelude.{IfSome}
use Rattle.thread_runs.specs.Lemmas.Calls.{after_calls}
use Rattle.adapt_core.specs.Lemmas.FirstCells.{IsFirstCell}
use Rattle.adapt_core.proofs.making.make_each.Goals as goal

pub returns-clause-each : goal.returns-clause-each
returns-clause-each g c =
    let set = c.args.set.now in
    let calls = c.try_for_each_mut in
    after_calls _ _ (λ i y. IfSome y (λ cell. IsFirstCell set.grid set.places c.args.wishes.now c.args.openings.now i cell)) (λ i p q call. call)
    c.args.slots.now calls.new.elements calls.result calls.ensures.many calls.ensures.changed
