use Rattle.std.proofs.Common.{rules, ◌<◌, ◌∙◌, length, sym, ap, arith, Some}
use Rattle.std.proofs.lemmas.Grind.{common_steps}
use Rattle.std.proofs.lemmas.Option.{slice_get_within, same_Some}
use Rattle.post_office.proofs.Lists.{get_at, nothing}
use Rattle.post_office.proofs.boxes.has_some.Goals as goal

pub returns-then-at-len-clause-no : goal.returns-then-at-len-clause-no
returns-then-at-len-clause-no g c = λ full es at.
    let mail = c.args.mail.now.items in
    let list = c.index.result.now in
    let low : c.args.at < length mail = slice_get_within mail c.args.at es at in
    let here = get_at mail c.args.at list low ∙ ap (λ z. Some z) (sym c.index.ensures) in
    same_Some es list (sym at ∙ here) ∙ nothing list (first_of (search rules, grind (arith, common_steps)))

pub returns-else-at-len-clause-no : goal.returns-else-at-len-clause-no
returns-else-at-len-clause-no g c = λ _ es at.
    let low : c.args.at < length c.args.mail.now.items = slice_get_within c.args.mail.now.items c.args.at es at in
    absurd (first_of (search rules, grind (arith, common_steps)))
