use Rattle.std.proofs.Common.{◌≡◌, ◌++◌, ◌∷◌, [], sym, ◌∙◌, ap}
use Rattle.quiet_table.specs.Contents.{pool}
use Rattle.post_office.proofs.Pages.{if_none_map, pool_push, pool_last}
use Rattle.post_office.proofs.pile.Pile.push.Goals as goal

pub returns-in-None-clause-done : goal.returns-in-None-clause-done
returns-in-None-clause-done g c =
    let e = c.args.envelope in
    let r = c.in-None.ensures.done in
    let was : pool c.self.inside.pages ≡ c.args.self.now = c.self.view_is in
    ap pool r.3 ∙ (pool_last r.0 r.1 (e ∷ []) ∙ ap (λ l. l ++ e ∷ []) (ap pool (sym r.2) ∙ was))

pub returns-in-Some-clause-done : goal.returns-in-Some-clause-done
returns-in-Some-clause-done g c =
    let e = c.in-Some.envelope in
    let back = c.in-Some.ensures.back in
    let was : pool c.self.inside.pages ≡ c.args.self.now = c.self.view_is in
    if_none_map c.push_page.result c.push_page.ensures.done (λ q. ap pool q ∙ (pool_push c.push_last.new.pages (e ∷ []) ∙ (λ i. (ap pool back.1 ∙ was) i ++ back.0 i ∷ [])))
