use Rattle.std.proofs.Common.{take, ◌+◌, sym, ap, subst}
use Rattle.post_office.specs.Posts.{stood}
use Rattle.post_office.specs.Lemmas.Handled.{HandledInOrder}
use Rattle.post_office.proofs.InOrder.{in_order_push, next_stands, take_more, its_own}
use Rattle.post_office.proofs.serving.handle_page.Goals as goal

pub handle_one-requires-clause-ours : goal.handle_one-requires-clause-ours
handle_one-requires-clause-ours g c =
    its_own c.args.owners.now c.args.shard c.args.page.now c.loop-envelope.envelope-index c.envelope-item.result c.loop-envelope-test.true c.envelope-item.is c.requires.ours

pub handle_one-requires-clause-stands : goal.handle_one-requires-clause-stands
handle_one-requires-clause-stands g c =
    let ph = g.P.Phase in
    let law = g.met.P.Phase in
    next_stands ph.problem ph.holds ph.weight ph.start_weight ph.react (record { keeps = law.keeps; lowers = law.lowers; same = law.same_problem; order = law.holds_in_any_order; same_weight = law.weighs_in_any_order; addressed = law.addressed; small = law.start_weight_fits }) c.args.owners.now c.args.shard
    (stood ph.problem c.args.phase.now c.args.first.now.value.items c.args.cells.now.items) c.args.page.now c.requires.stands.0 c.loop-envelope.envelope-index c.envelope-item.result c.loop-envelope-test.true c.envelope-item.is c.loop-envelope.cells.items c.loop-envelope.out.items c.loop-envelope.invariant.in_order c.requires.stands.1

pub loop-envelope-preserved : goal.loop-envelope-preserved
loop-envelope-preserved g c =
    let ph = g.P.Phase in
    let inv = c.loop-envelope.invariant in
    let i = c.loop-envelope.envelope-index in
    let page = c.args.page.now in
    let e = c.envelope-item.result in
    let react = ph.react (ph.problem c.args.phase.now c.args.first.now.value.items) in
    let done = c.in-Ok.ensures.done in
    record {
      count = ap (λ n. n + 1) inv.count;
      in_order = subst (λ l. HandledInOrder react c.args.owners.now c.args.shard l c.args.cells.now.items c.handle_one.new.cells.items c.handle_one.new.out.items) (sym (take_more page i e c.loop-envelope-test.true c.envelope-item.is))
          (in_order_push react c.args.owners.now c.args.shard (take i page) c.args.cells.now.items c.loop-envelope.cells.items c.loop-envelope.out.items inv.in_order e done.0 (its_own c.args.owners.now c.args.shard page i e c.loop-envelope-test.true c.envelope-item.is c.requires.ours) done.1 c.handle_one.new.cells.items done.2 c.handle_one.new.out.items done.3);
    }
