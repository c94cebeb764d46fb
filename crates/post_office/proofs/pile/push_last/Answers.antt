use Rattle.std.proofs.Common.{rules, ◌≡◌, ◌<◌, ◌-◌, ◌+◌, ◌++◌, ◌∷◌, [], length, ◌∙◌, ap, arith}
use Rattle.std.proofs.lemmas.Grind.{common_steps}
use Rattle.post_office.proofs.Pages.{if_none_map, last_at}
use Rattle.post_office.proofs.pile.push_last.Goals as goal

pub returns-in-Some-clause-done : goal.returns-in-Some-clause-done
returns-in-Some-clause-done g c =
    let pages = c.args.pages.now in
    let page = c.in-Some.page.now in
    let low : 0 < length pages = first_of (search rules, grind (arith, common_steps)) in
    let n : (length pages - 1) + 1 ≡ length pages = omega (arith, low) in
    let r = last_at pages (length pages - 1) page c.push.new.self n c.in-Some.ensures.value in
    if_none_map c.push.result c.push.ensures.done (λ q. (r.0, page, r.1, r.2 ∙ ap (λ p. r.0 ++ p ∷ []) q))
