use Rattle.std.proofs.Common.{◌≡◌, ◌++◌, length, ◌∙◌, ap, arith}
use Rattle.quiet_table.specs.Contents.{pool}
use Rattle.post_office.proofs.Lists.{false_true}
use Rattle.post_office.proofs.Pages.{pages_few, pool_join}
use Rattle.post_office.proofs.pile.Pile.append.Goals as goal

pub unreachable-requires : goal.unreachable-requires
unreachable-requires g c =
    let a = pages_few c.self.inside.pages c.self.inside.filled in
    let b = pages_few c.other.inside.pages c.other.inside.filled in
    let x : pool c.self.inside.pages ≡ c.args.self.now = c.self.view_is in
    let y : pool c.other.inside.pages ≡ c.args.other.now = c.other.view_is in
    let n : length (pool c.self.inside.pages) ≡ length c.args.self.now = ap length x in
    let m : length (pool c.other.inside.pages) ≡ length c.args.other.now = ap length y in
    false_true (c.in-Err.ensures.succeeds (omega (arith, a, b, n, m, c.requires.few)))

pub returns-clause-moved : goal.returns-clause-moved
returns-clause-moved g c =
    let x : pool c.self.inside.pages ≡ c.args.self.now = c.self.view_is in
    let y : pool c.other.inside.pages ≡ c.args.other.now = c.other.view_is in
    ap pool c.in-Ok.ensures.items ∙ (pool_join c.self.inside.pages c.other.inside.pages ∙ (λ i. x i ++ y i))
