use Rattle.std.proofs.Common.{◌≡◌, ◌+◌, ◌-◌, length, drop, ◌∙◌, ap, arith}
use Rattle.std.proofs.lemmas.List.{drop-drop, length-drop}
use Rattle.post_office.proofs.pile.Pile.pass.Goals as goal

pub loop-left-preserved : goal.loop-left-preserved
loop-left-preserved g c =
    let inv = c.loop-left.invariant in
    let r = c.pass_some-left.ensures in
    let left = c.loop-left.left in
    let was = c.loop-left.self in
    let n : length c.pass_some-left.new.self ≡ length was - r.0 = ap length r.3 ∙ length-drop r.0 was in
    let sum : (c.args.count - left) + r.0 ≡ c.args.count - c.pass_some-left.result = omega (arith, r.2, inv.low) in
    record {
      within = omega (arith, n, r.2, inv.within);
      low = omega (arith, r.2, inv.low);
      rest = r.3 ∙ (ap (λ l. drop r.0 l) inv.rest ∙ (drop-drop r.0 (c.args.count - left) c.args.self.now ∙ ap (λ m. drop m c.args.self.now) sum));
    }
