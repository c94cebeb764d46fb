use Rattle.std.proofs.Common.{◌<◌, length, sym, subst, ap, arith, ◌∙◌}
use Rattle.std.specs.Prelude.{All}
use Rattle.std.proofs.lemmas.List.Elements.{All-nil}
use Rattle.post_office.specs.Shares.{Sorted}
use Rattle.post_office.proofs.DealtOut.{few_none, length_none, sorted_none}
use Rattle.post_office.proofs.opening.empty_cell.Goals as goal

pub invariant_of-result : goal.invariant_of-result
invariant_of-result g c =
    let mail = c.in_ok-mail.mail.items in
    let is = c.in_ok-mail.ensures in
    let none = c.new.ensures.items in
    let owners = c.of-3.result.value.items in
    let wide = ap length is ∙ length_none _ c.args.shards in
    let few = few_none mail c.new.result.items c.args.shards is none in
    record {
      few = omega (arith, few);
      within = (rw wide c.requires.within.0, rw (wide, c.of-3.ensures) c.requires.within.1);
      sorted = subst (Sorted owners) (sym is) (sorted_none owners c.args.shards);
      addressed = subst (All (λ e. e.to < length owners)) (sym none) (All-nil (λ e. e.to < length owners));
    }
