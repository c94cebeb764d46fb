use Rattle.std.proofs.Common.{rules, ◌≡◌, ◌<◌, ◌≤◌, ◌∷◌, length, drop, sym, ◌∙◌, ap, subst, arith}
use Rattle.std.specs.Prelude.{All}
use Rattle.std.proofs.lemmas.Grind.{common_steps}
use Rattle.std.proofs.lemmas.List.{length-drop}
use Rattle.std.proofs.lemmas.List.Elements.{All-cons, All-head, All-tail}
use Rattle.std.proofs.Math.Seq.{drop-append_seam}
use Rattle.quiet_table.specs.Contents.{pool}
use Rattle.post_office.proofs.Lists.{head_tail}
use Rattle.post_office.proofs.Pages.{pool_drop}
use Rattle.post_office.proofs.pile.Pile.pass_some.Goals as goal

pub invariant_of-self-inside : goal.invariant_of-self-inside
invariant_of-self-inside g c =
    let pages = c.self.inside.pages in
    let page = c.unwrap.result.now in
    let count = c.args.count in
    let low : 0 < length pages = first_of (search rules, grind (arith, common_steps)) in
    let is : pages ≡ page ∷ drop 1 pages = head_tail pages page low (first_of (search rules, grind (arith, common_steps))) in
    let n = length-drop count page in
    let more : 0 < length (drop count page) = omega (arith, n, c.len-len.ensures, c.if-count-len.true) in
    let others = All-tail (λ p. 0 < length p) page (drop 1 pages) (subst (All (λ p. 0 < length p)) is c.self.inside.filled) in
    (subst (All (λ p. 0 < length p)) (sym (c.pass_within.ensures page (drop 1 pages) is)) (All-cons (λ p. 0 < length p) (drop count page) (drop 1 pages) more others), tt)

pub returns-then-count-len : goal.returns-then-count-len
returns-then-count-len g c =
    let pages = c.self.inside.pages in
    let page = c.unwrap.result.now in
    let count = c.args.count in
    let low : 0 < length pages = first_of (search rules, grind (arith, common_steps)) in
    let is : pages ≡ page ∷ drop 1 pages = head_tail pages page low (first_of (search rules, grind (arith, common_steps))) in
    let was : pool pages ≡ c.args.self.now = c.self.view_is in
    let within : count ≤ length page = omega (arith, c.len-len.ensures, c.if-count-len.true) in
    (count, c.requires.within.0, omega arith, ap pool (c.pass_within.ensures page (drop 1 pages) is) ∙ (pool_drop page (drop 1 pages) count within ∙ ap (λ l. drop count l) (ap pool (sym is) ∙ was)))

pub invariant_of-self-inside-2 : goal.invariant_of-self-inside-2
invariant_of-self-inside-2 g c =
    let pages = c.self.inside.pages in
    let page = c.unwrap.result.now in
    let low : 0 < length pages = first_of (search rules, grind (arith, common_steps)) in
    let is : pages ≡ page ∷ drop 1 pages = head_tail pages page low (first_of (search rules, grind (arith, common_steps))) in
    let others = All-tail (λ p. 0 < length p) page (drop 1 pages) (subst (All (λ p. 0 < length p)) is c.self.inside.filled) in
    (subst (All (λ p. 0 < length p)) (sym c.pop_front.ensures.rest) others, tt)

pub returns : goal.returns
returns g c =
    let pages = c.self.inside.pages in
    let page = c.unwrap.result.now in
    let len = length page in
    let low : 0 < length pages = first_of (search rules, grind (arith, common_steps)) in
    let is : pages ≡ page ∷ drop 1 pages = head_tail pages page low (first_of (search rules, grind (arith, common_steps))) in
    let was : pool pages ≡ c.args.self.now = c.self.view_is in
    let some : 0 < len = All-head (λ p. 0 < length p) page (drop 1 pages) (subst (All (λ p. 0 < length p)) is c.self.inside.filled) in
    (len, some, omega (arith, c.len-len.ensures, c.if-count-len.false), ap pool c.pop_front.ensures.rest ∙ (sym (drop-append_seam page (pool (drop 1 pages))) ∙ ap (λ l. drop len l) (ap pool (sym is) ∙ was)))
