use Rattle.std.proofs.Common.{◌+◌, ◌-◌, ◌*◌, ◌/◌, ◌^◌, ◌≤◌, ap, ◌∙◌, sym, subst, arith}
use Rattle.std.proofs.lemmas.Nat.{mul-le}
use Rattle.advect.proofs.Quotients.{one_product, rounded_up, halved}
use Rattle.advect.proofs.Shares.{carried_le}
use Rattle.advect.proofs.share.Share.of.Goals as goal

pub returns : goal.returns
returns c =
    let d = c.args.self.den in
    let b = rounded_up (c.args.self.parts * 2 ^ 63) d c.args.self.some in
    let m : c.args.q * d ≤ 2 ^ 42 * 2 ^ 20 = mul-le c.args.q d (2 ^ 42) (2 ^ 20) c.requires.small c.args.self.most in
    let e = halved c.args.q c.args.self.factor
    ∙ ap (λ f. c.args.q * f / 2 ^ 63) c.args.self.rounded_up
    ∙ one_product c.args.q c.args.self.parts d ((c.args.self.parts * 2 ^ 63 + d - 1) / d) (2 ^ 63) c.args.self.some b.0 b.1 (omega arith) in
    record { share = e; within = subst (λ u. u ≤ c.args.q) (sym e) (carried_le c.args.self c.args.q) }
