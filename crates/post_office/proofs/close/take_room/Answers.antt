use Rattle.std.proofs.Common.{◌≡◌, None, length, Some, sym, subst, ap, ◌∙◌, ◌≤◌}
use Rattle.std.specs.Prelude.{slice_get, vec_capacity}
use Rattle.post_office.proofs.Lists.{get_at}
use Rattle.post_office.proofs.DealtOut.{map_get}
use Rattle.post_office.proofs.close.take_room.Goals as goal

pub returns : goal.returns
returns g c =
    let boxes = c.args.boxes.items in
    let inbox = c.remove-inbox.result in
    let at : slice_get boxes 0 ≡ Some inbox = get_at boxes 0 inbox c.requires.some_box ∙ ap (λ z. Some z) (sym c.remove-inbox.ensures.value) in
    let is = c.requires.first (record { owners = inbox.owners.value.items; shard = inbox.shard; waits = 0; stood = None }) (map_get (λ b. record { owners = b.owners.value.items; shard = b.shard; waits = 0; stood = None }) boxes 0 inbox at) in
    (inbox.roomy.0, subst (λ o. length o ≤ vec_capacity inbox.room) is.1 (inbox.roomy.1 is.0))
