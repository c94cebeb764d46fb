use Rattle.std.proofs.Common.{◌<◌, ◌++◌, length, sym, subst, arith, length-append}
use Rattle.std.specs.Prelude.{All}
use Rattle.quiet_table.specs.Contents.{pool}
use Rattle.post_office.specs.Shares.{Sorted}
use Rattle.post_office.specs.Posts.{Standing, stood}
use Rattle.post_office.proofs.Handling.{few_after}
use Rattle.post_office.proofs.serving.serve.Goals as goal

pub invariant_of-served : goal.invariant_of-served
invariant_of-served g c =
    let ph = g.P.Phase in
    let law = g.met.P.Phase in
    let sh = c.args.served in
    let owners = c.args.owners.now in
    let call = c.serve_all-tally in
    let is = c.requires.about.1 in
    let st0 = stood ph.problem c.args.phase.now sh.first.value.items sh.cells.items in
    let st1 = stood ph.problem c.args.phase.now sh.first.value.items call.new.cells.items in
    let es0 = pool sh.mail.items ++ sh.fresh.items in
    let es1 = pool call.new.mail.items ++ call.new.fresh.items in
    let stands : Standing ph.problem ph.holds ph.weight ph.start_weight owners sh.shard st0 es0 = subst (λ o. Standing ph.problem ph.holds ph.weight ph.start_weight o sh.shard st0 es0) is (subst (λ q. Standing ph.problem ph.holds ph.weight ph.start_weight sh.owners.value.items sh.shard (stood ph.problem q sh.first.value.items sh.cells.items) es0) c.requires.about.0 c.requires.stands) in
    let few = few_after ph.problem ph.holds ph.weight ph.start_weight ph.react (record { keeps = law.keeps; lowers = law.lowers; same = law.same_problem; order = law.holds_in_any_order; same_weight = law.weighs_in_any_order; addressed = law.addressed; small = law.start_weight_fits }) owners sh.shard st0 es0 call.result.sent call.result.handled st1 es1 stands call.ensures.turns in
    let n = length-append (pool call.new.mail.items) call.new.fresh.items in
    let wide = call.ensures.count in
    record {
      few = omega (arith, few.0, n);
      within = (rw wide sh.within.0, rw wide sh.within.1);
      sorted = subst (λ o. Sorted o call.new.mail.items) (sym is) call.ensures.sorted;
      addressed = subst (λ o. All (λ e. e.to < length o) call.new.fresh.items) (sym is) call.ensures.addressed;
    }
