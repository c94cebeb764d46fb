use Rattle.std.proofs.Common.{[], length}
use Rattle.std.specs.Prelude.{slice_index_or}
use Rattle.post_office.proofs.DealtOut.{begin_push, cell_begins, none_parcels}
use Rattle.post_office.proofs.opening.empty_cells.Goals as goal

pub loop-shard-preserved : goal.loop-shard-preserved
loop-shard-preserved g c =
    let x = c.in_ok-cell.cell in
    let about = c.in_ok-cell.ensures.about in
    let bare = c.in_ok-cell.ensures.bare in
    let k = c.loop-shard.shard in
    let owners = c.args.owners.now.items in
    let first = c.args.first.now.items in
    begin_push c.args.phase.now (g.P.Phase.problem c.args.phase.now first) owners g.P.Phase.start _ _ c.loop-shard.cells.items _ x k c.loop-shard.invariant c.in_ok-push.ensures.items
    (cell_begins g.P.Phase.problem c.args.phase.now x.phase.value first x.first.value.items x.cells.items owners x.owners.value.items k x.shard (length (slice_index_or x.mail.items x.shard [])) about.0 about.1 about.2 about.3 bare.0)
    (none_parcels x.mail.items x.fresh.items c.args.shards bare.1 bare.2)
