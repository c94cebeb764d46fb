use Rattle.std.proofs.Common.{◌*◌, ◌^◌, ◌≤◌, nat_abs, sym, ◌∙◌, subst}
use Rattle.advect.specs.Flows.{velocity_along}
use Rattle.advect.specs.Lemmas.Lines.{axis_named}
use Rattle.advect.proofs.Speeds.{along-den, shifted}
use Rattle.advect.proofs.flow.share_along.Goals as goal

pub new-requires-clause-small : goal.new-requires-clause-small
new-requires-clause-small c =
    let p = c.args.params.now in
    let a = axis_named c.args.line in
    let v = c.speed_along-speed.ensures.speed in
    subst (λ t. t ≤ c.den-den.result) (sym (shifted p c.den-den.ensures.limits c.args.level c.requires.level a c.speed_along-speed.result v))
    (subst (λ t. nat_abs (velocity_along p.velocity a) * 2 ^ c.args.level ≤ t) (sym c.den-den.ensures.den) (along-den p c.den-den.ensures.limits c.args.level c.requires.level a))

pub returns-clause-parts : goal.returns-clause-parts
returns-clause-parts c =
    let p = c.args.params.now in
    let a = axis_named c.args.line in
    let v = c.speed_along-speed.ensures.speed in
    c.new.ensures.parts ∙ shifted p c.den-den.ensures.limits c.args.level c.requires.level a c.speed_along-speed.result v
