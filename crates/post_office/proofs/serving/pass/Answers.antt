use Rattle.std.proofs.Common.{◌≡◌, ◌≤◌, ◌∙◌, Some, drop, length, sym, ap, subst, arith}
use Rattle.std.specs.Prelude.{slice_get, slice_set}
use Rattle.std.proofs.lemmas.Option.{same_Some, slice_get_within}
use Rattle.post_office.proofs.Lists.{get_at}
use Rattle.post_office.proofs.serving.pass.Goals as goal

pub index_mut-pile-requires : goal.index_mut-pile-requires
index_mut-pile-requires g c = let low = slice_get_within c.args.mail.now.items c.args.shard c.requires.within.0 c.requires.within.1 in omega (arith, low, c.args.mail.now.ok.0)

pub pass-requires : goal.pass-requires
pass-requires g c =
    let mail = c.args.mail.now.items in
    let pile = c.index_mut-pile.result.now in
    let es = c.requires.within.0 in
    let low = slice_get_within mail c.args.shard es c.requires.within.1 in
    let at : slice_get mail c.args.shard ≡ Some pile = get_at mail c.args.shard pile low ∙ ap (λ z. Some z) (sym c.index_mut-pile.ensures.value) in
    let same : es ≡ pile = same_Some es pile (sym c.requires.within.1 ∙ at) in
    record { within = subst (λ l. c.args.count ≤ length l) same c.requires.within.2 }

pub returns : goal.returns
returns g c = λ es here.
    let mail = c.args.mail.now.items in
    let pile = c.index_mut-pile.result.now in
    let low = slice_get_within mail c.args.shard es here in
    let at : slice_get mail c.args.shard ≡ Some pile = get_at mail c.args.shard pile low ∙ ap (λ z. Some z) (sym c.index_mut-pile.ensures.value) in
    let same : pile ≡ es = same_Some pile es (sym at ∙ here) in
    ap (λ l. slice_set mail c.args.shard l) (c.pass.ensures ∙ ap (λ l. drop c.args.count l) same)
