use Rattle.std.proofs.Common.{◌≡◌, ◌∙◌, Some, sym, ap, arith}
use Rattle.std.specs.Prelude.{slice_get}
use Rattle.post_office.proofs.Lists.{get_at, list_within}
use Rattle.post_office.proofs.merging.pour_out.Goals as goal

pub append-requires : goal.append-requires
append-requires g c =
    let mail = c.args.mail.now.items in
    let pile = c.index_mut-pile.result.now in
    let at : slice_get mail c.args.shard ≡ Some pile = get_at mail c.args.shard pile c.requires.within ∙ ap (λ z. Some z) (sym c.index_mut-pile.ensures.value) in
    let few = list_within mail c.args.shard pile at in
    record { few = omega (arith, few, c.requires.few) }
