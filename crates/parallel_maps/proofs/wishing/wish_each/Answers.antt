-- What each call gives.
use Rattle.std.proofs.Common.{◌≡◌, Some}
use Rattle.std.specs.Prelude.{slice_get}
use Rattle.thread_runs.specs.Lemmas.Calls.{after_calls}
use Rattle.block_fields.specs.Blocks.{BlockState, seen_at}
use Rattle.criteria.specs.Wishes.{criteria_wish}
use Rattle.parallel_maps.proofs.wishing.wish_each.Goals as goal

pub returns-clause-each : goal.returns-clause-each
returns-clause-each g c =
    let blocks = c.args.blocks.now in
    let calls = c.try_for_each_mut in
    after_calls _ _ (λ i w. (b : BlockState) → slice_get blocks i ≡ Some b → w ≡ criteria_wish b.edge c.args.phase c.args.criteria.now (seen_at b) b.place) (λ i p q call. call)
    c.args.wishes.now calls.new.elements calls.result calls.ensures.many calls.ensures.changed
