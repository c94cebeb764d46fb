use Rattle.std.proofs.Common.{refl}
use Rattle.post_office.proofs.DealtOut.{bare_push}
use Rattle.post_office.proofs.opening.empty_boxes.Goals as goal

pub loop-shard-preserved : goal.loop-shard-preserved
loop-shard-preserved g c =
    let x = c.in_ok-inbox.inbox in
    let about = c.in_ok-inbox.ensures.about in
    bare_push c.args.owners.now.items _ _ c.loop-shard.boxes.items _ x c.loop-shard.shard c.loop-shard.invariant c.in_ok-push.ensures.items (record { bare = refl; its_owners = about.0; its_shard = about.1 }) c.in_ok-inbox.ensures.bare
