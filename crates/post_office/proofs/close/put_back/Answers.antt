use Rattle.std.proofs.Common.{◌∙◌, [], Some, None, length, map, refl}
use Rattle.std.specs.Prelude.{slice_index_or}
use Rattle.post_office.specs.Posts.{stood}
use Rattle.post_office.proofs.DealtOut.{map_length}
use Rattle.post_office.proofs.Ending.{ends_box, rest_rows, settles}
use Rattle.post_office.proofs.close.put_back.Goals as goal

pub take_room-room-requires-clause-first : goal.take_room-room-requires-clause-first
take_room-room-requires-clause-first g c =
    let ph = g.P.Phase in
    let r = c.requires.rest in
    ends_box ph.problem ph.holds ph.weight ph.start_weight c.args.posts.items (λ c. record { owners = c.owners.value.items; shard = c.shard; waits = length (slice_index_or c.mail.items c.shard []); stood = Some (stood ph.problem c.phase.value c.first.value.items c.cells.items) })
    (map (λ b. record { owners = b.owners.value.items; shard = b.shard; waits = 0; stood = None }) c.args.boxes.items) [] c.args._handled r.legal c.args.owners.now
    (map_length (λ b. record { owners = b.owners.value.items; shard = b.shard; waits = 0; stood = None }) c.args.boxes.items ∙ c.requires.even.1) r.of_owners

pub gather-requires-clause-rows : goal.gather-requires-clause-rows
gather-requires-clause-rows g c =
    let ph = g.P.Phase in
    let r = c.requires.rest in
    let rows = rest_rows ph.problem ph.holds ph.weight ph.start_weight c.args._phase.now c.args._first.now.value.items c.args.owners.now c.args.posts.items (λ c. record { owners = c.owners.value.items; shard = c.shard; waits = length (slice_index_or c.mail.items c.shard []); stood = Some (stood ph.problem c.phase.value c.first.value.items c.cells.items) }) (λ c. c.cells.items)
    (map (λ b. record { owners = b.owners.value.items; shard = b.shard; waits = 0; stood = None }) c.args.boxes.items) c.args._handled r
    (map_length (λ b. record { owners = b.owners.value.items; shard = b.shard; waits = 0; stood = None }) c.args.boxes.items ∙ c.requires.even.1)
    (λ x. (stood ph.problem x.phase.value x.first.value.items x.cells.items, refl, refl)) in
    (r.legal.cells, rows.0, rows.1)

pub returns : goal.returns
returns g c =
    let ph = g.P.Phase in
    let r = c.requires.rest in
    let rows = rest_rows ph.problem ph.holds ph.weight ph.start_weight c.args._phase.now c.args._first.now.value.items c.args.owners.now c.args.posts.items (λ c. record { owners = c.owners.value.items; shard = c.shard; waits = length (slice_index_or c.mail.items c.shard []); stood = Some (stood ph.problem c.phase.value c.first.value.items c.cells.items) }) (λ c. c.cells.items)
    (map (λ b. record { owners = b.owners.value.items; shard = b.shard; waits = 0; stood = None }) c.args.boxes.items) c.args._handled r
    (map_length (λ b. record { owners = b.owners.value.items; shard = b.shard; waits = 0; stood = None }) c.args.boxes.items ∙ c.requires.even.1)
    (λ x. (stood ph.problem x.phase.value x.first.value.items x.cells.items, refl, refl)) in
    settles ph.problem ph.holds ph.weight ph.start_weight c.args._phase.now c.args._first.now.value.items c.args.owners.now _ c.args._handled r c.gather.result.items (c.gather.ensures r.legal.cells rows.0 rows.1)
