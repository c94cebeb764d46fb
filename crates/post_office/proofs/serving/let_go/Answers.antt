use Rattle.std.proofs.Common.{◌≡◌, ◌∙◌, Some, sym, ap}
use Rattle.std.specs.Prelude.{slice_get, slice_set}
use Rattle.post_office.specs.Lemmas.PartLaws.{put_same}
use Rattle.post_office.proofs.Lists.{get_at}
use Rattle.post_office.proofs.serving.let_go.Goals as goal

pub returns : goal.returns
returns g c =
    let mail = c.args.mail.now.items in
    let pile = c.index_mut-pile.result.now in
    let at : slice_get mail c.args.shard ≡ Some pile = get_at mail c.args.shard pile c.requires.within ∙ ap (λ z. Some z) (sym c.index_mut-pile.ensures.value) in
    ap (λ l. slice_set mail c.args.shard l) c.let_go.ensures ∙ put_same mail c.args.shard pile at
