use Rattle.std.proofs.Common.{◌≡◌, ◌++◌, [], Some, length, sym, ap, ◌∙◌, arith}
use Rattle.std.specs.Prelude.{slice_get, slice_index_or}
use Rattle.quiet_table.specs.Contents.{pool}
use Rattle.post_office.specs.Posts.{stood}
use Rattle.post_office.proofs.Lists.{get_at, list_within}
use Rattle.post_office.proofs.DealtOut.{map_get, added_at}
use Rattle.post_office.proofs.dealing.add_at.Goals as goal

pub add-requires-clause-ours : goal.add-requires-clause-ours
add-requires-clause-ours g c =
    let items = c.args.posts.now.items in
    let post = c.index_mut-post.result.now in
    let at : slice_get items c.args.shard ≡ Some post = get_at items c.args.shard post c.requires.within ∙ ap (λ z. Some z) (sym c.index_mut-post.ensures.value) in
    c.requires.ours (record { owners = post.owners.value.items; shard = post.shard; waits = length (slice_index_or post.mail.items post.shard []); stood = Some (stood g.P.Phase.problem post.phase.value post.first.value.items post.cells.items) })
    (map_get (λ c. record { owners = c.owners.value.items; shard = c.shard; waits = length (slice_index_or c.mail.items c.shard []); stood = Some (stood g.P.Phase.problem c.phase.value c.first.value.items c.cells.items) }) items c.args.shard post at)

pub add-requires-clause-few : goal.add-requires-clause-few
add-requires-clause-few g c =
    let items = c.args.posts.now.items in
    let post = c.index_mut-post.result.now in
    let at : slice_get items c.args.shard ≡ Some post = get_at items c.args.shard post c.requires.within ∙ ap (λ z. Some z) (sym c.index_mut-post.ensures.value) in
    let w = list_within _ c.args.shard (pool post.mail.items ++ post.fresh.items) (map_get (λ c. pool c.mail.items ++ c.fresh.items) items c.args.shard post at) in
    omega (arith, w, c.requires.few)

pub returns : goal.returns
returns g c =
    let items = c.args.posts.now.items in
    let post = c.index_mut-post.result.now in
    let at : slice_get items c.args.shard ≡ Some post = get_at items c.args.shard post c.requires.within ∙ ap (λ z. Some z) (sym c.index_mut-post.ensures.value) in
    added_at {P = g.row.P.Denot} {Q = g.row.P-Problem.Denot} {C = g.row.P-Cell.Denot} {M = g.row.P-Msg.Denot} items c.args.shard post c.add.new.post
    (λ c. record { owners = c.owners.value.items; shard = c.shard; waits = length (slice_index_or c.mail.items c.shard []); stood = Some (stood g.P.Phase.problem c.phase.value c.first.value.items c.cells.items) }) (λ c. pool c.mail.items ++ c.fresh.items)
    c.args.cell c.args.envelope at c.in_ok-add.ensures
