use Rattle.std.proofs.Common.{rules, ◌≡◌, ◌<◌, ◌∙◌, ◌++◌, ◌+◌, [], length, refl, subst, ap, arith, append-nil}
use Rattle.std.proofs.lemmas.Grind.{common_steps}
use Rattle.quiet_table.specs.Contents.{pool}
use Rattle.post_office.specs.Posts.{Standing, Turns, stood}
use Rattle.post_office.specs.Lemmas.PartLaws.{length_put}
use Rattle.post_office.proofs.Sorting.{all_back, still_sorted}
use Rattle.post_office.proofs.Handling.{stands_after, stands_perm, few_after, addressed_now, turns_end}
use Rattle.post_office.proofs.InOrder.{serves_more}
use Rattle.post_office.proofs.serving.serve_all.Goals as goal

pub handle_round-round-requires-clause-stands : goal.handle_round-round-requires-clause-stands
handle_round-round-requires-clause-stands g c =
    let ph = g.P.Phase in
    let law = g.met.P.Phase in
    let owners = c.args.owners.now in
    let s = c.args.shard in
    let st0 = stood ph.problem c.args.phase.now c.args.first.now.value.items c.args.cells.now.items in
    let st1 = stood ph.problem c.args.phase.now c.args.first.now.value.items c.loop-alloc.cells.items in
    let es0 = pool c.args.mail.now.items ++ c.args.fresh.now.items in
    let es1 = pool c.loop-alloc.mail.items ++ c.loop-alloc.fresh.items in
    let mail1 = c.sort_out.new.mail.items in
    let fresh1 = c.sort_out.new.fresh.items in
    let t = c.loop-alloc.invariant.turns in
    let sorted = c.sort_out.ensures.same in
    let none : fresh1 ≡ [] = first_of (search rules, grind (arith, common_steps)) in
    let now : Standing ph.problem ph.holds ph.weight ph.start_weight owners s st1 (pool mail1 ++ fresh1) = stands_perm ph.problem ph.holds ph.weight ph.start_weight ph.react (record { keeps = law.keeps; lowers = law.lowers; same = law.same_problem; order = law.holds_in_any_order; same_weight = law.weighs_in_any_order; addressed = law.addressed; small = law.start_weight_fits }) owners s st1 es1 (pool mail1 ++ fresh1) sorted (stands_after ph.problem ph.holds ph.weight ph.start_weight ph.react (record { keeps = law.keeps; lowers = law.lowers; same = law.same_problem; order = law.holds_in_any_order; same_weight = law.weighs_in_any_order; addressed = law.addressed; small = law.start_weight_fits }) owners s st0 es0 c.loop-alloc.sent c.loop-alloc.handled st1 es1 c.requires.stands t) in
    subst (Standing ph.problem ph.holds ph.weight ph.start_weight owners s st1) (ap (λ l. pool mail1 ++ l) none ∙ append-nil (pool mail1)) now

pub overflow_add-handled : goal.overflow_add-handled
overflow_add-handled g c =
    let ph = g.P.Phase in
    let law = g.met.P.Phase in
    let owners = c.args.owners.now in
    let s = c.args.shard in
    let st0 = stood ph.problem c.args.phase.now c.args.first.now.value.items c.args.cells.now.items in
    let st1 = stood ph.problem c.args.phase.now c.args.first.now.value.items c.loop-alloc.cells.items in
    let es0 = pool c.args.mail.now.items ++ c.args.fresh.now.items in
    let es1 = pool c.loop-alloc.mail.items ++ c.loop-alloc.fresh.items in
    let mail1 = c.sort_out.new.mail.items in
    let fresh1 = c.sort_out.new.fresh.items in
    let t = c.loop-alloc.invariant.turns in
    let sorted = c.sort_out.ensures.same in
    let none : fresh1 ≡ [] = first_of (search rules, grind (arith, common_steps)) in
    let round = c.handle_round-round in
    let f = round.ensures.handled in
    let mail2 = round.new.mail.items in
    let fresh2 = c.swap.new.other.items in
    let st2 = stood ph.problem c.args.phase.now c.args.first.now.value.items round.new.cells.items in
    let sent2 = c.loop-alloc.sent + length fresh2 in
    let handled2 = c.loop-alloc.handled + round.result.handled in
    let next : Turns ph.react owners s st0 es0 sent2 handled2 st2 (pool mail2 ++ fresh2) = (serves_more ph.react owners s st0 es0 c.loop-alloc.sent c.loop-alloc.handled st1 es1 t mail1 fresh1 sorted none round.result.handled mail2 round.new.cells.items round.new.out.items f st2 refl fresh2 c.swap.ensures.other) in
    let few = few_after ph.problem ph.holds ph.weight ph.start_weight ph.react (record { keeps = law.keeps; lowers = law.lowers; same = law.same_problem; order = law.holds_in_any_order; same_weight = law.weighs_in_any_order; addressed = law.addressed; small = law.start_weight_fits }) owners s st0 es0 sent2 handled2 st2 (pool mail2 ++ fresh2) c.requires.stands next in
    omega (arith, few.0)

pub overflow_add-sent : goal.overflow_add-sent
overflow_add-sent g c =
    let ph = g.P.Phase in
    let law = g.met.P.Phase in
    let owners = c.args.owners.now in
    let s = c.args.shard in
    let st0 = stood ph.problem c.args.phase.now c.args.first.now.value.items c.args.cells.now.items in
    let st1 = stood ph.problem c.args.phase.now c.args.first.now.value.items c.loop-alloc.cells.items in
    let es0 = pool c.args.mail.now.items ++ c.args.fresh.now.items in
    let es1 = pool c.loop-alloc.mail.items ++ c.loop-alloc.fresh.items in
    let mail1 = c.sort_out.new.mail.items in
    let fresh1 = c.sort_out.new.fresh.items in
    let t = c.loop-alloc.invariant.turns in
    let sorted = c.sort_out.ensures.same in
    let none : fresh1 ≡ [] = first_of (search rules, grind (arith, common_steps)) in
    let round = c.handle_round-round in
    let f = round.ensures.handled in
    let mail2 = round.new.mail.items in
    let fresh2 = c.swap.new.other.items in
    let st2 = stood ph.problem c.args.phase.now c.args.first.now.value.items round.new.cells.items in
    let counted : length fresh2 ≡ c.len.result = omega (arith, c.len.ensures, c.swap.new.other.ok.0) in
    let sent2 = c.loop-alloc.sent + c.len.result in
    let handled2 = c.loop-alloc.handled + round.result.handled in
    let next : Turns ph.react owners s st0 es0 sent2 handled2 st2 (pool mail2 ++ fresh2) = subst (λ n. Turns ph.react owners s st0 es0 (c.loop-alloc.sent + n) handled2 st2 (pool mail2 ++ fresh2)) counted (serves_more ph.react owners s st0 es0 c.loop-alloc.sent c.loop-alloc.handled st1 es1 t mail1 fresh1 sorted none round.result.handled mail2 round.new.cells.items round.new.out.items f st2 refl fresh2 c.swap.ensures.other) in
    let few = few_after ph.problem ph.holds ph.weight ph.start_weight ph.react (record { keeps = law.keeps; lowers = law.lowers; same = law.same_problem; order = law.holds_in_any_order; same_weight = law.weighs_in_any_order; addressed = law.addressed; small = law.start_weight_fits }) owners s st0 es0 sent2 handled2 st2 (pool mail2 ++ fresh2) c.requires.stands next in
    omega (arith, few.2)

pub loop-alloc-smaller : goal.loop-alloc-smaller
loop-alloc-smaller g c =
    let ph = g.P.Phase in
    let law = g.met.P.Phase in
    let owners = c.args.owners.now in
    let s = c.args.shard in
    let st0 = stood ph.problem c.args.phase.now c.args.first.now.value.items c.args.cells.now.items in
    let st1 = stood ph.problem c.args.phase.now c.args.first.now.value.items c.loop-alloc.cells.items in
    let es0 = pool c.args.mail.now.items ++ c.args.fresh.now.items in
    let es1 = pool c.loop-alloc.mail.items ++ c.loop-alloc.fresh.items in
    let mail1 = c.sort_out.new.mail.items in
    let fresh1 = c.sort_out.new.fresh.items in
    let t = c.loop-alloc.invariant.turns in
    let sorted = c.sort_out.ensures.same in
    let none : fresh1 ≡ [] = first_of (search rules, grind (arith, common_steps)) in
    let round = c.handle_round-round in
    let f = round.ensures.handled in
    let mail2 = round.new.mail.items in
    let fresh2 = c.swap.new.other.items in
    let st2 = stood ph.problem c.args.phase.now c.args.first.now.value.items round.new.cells.items in
    let counted : length fresh2 ≡ c.len.result = omega (arith, c.len.ensures, c.swap.new.other.ok.0) in
    let sent2 = c.loop-alloc.sent + c.len.result in
    let handled2 = c.loop-alloc.handled + round.result.handled in
    let next : Turns ph.react owners s st0 es0 sent2 handled2 st2 (pool mail2 ++ fresh2) = subst (λ n. Turns ph.react owners s st0 es0 (c.loop-alloc.sent + n) handled2 st2 (pool mail2 ++ fresh2)) counted (serves_more ph.react owners s st0 es0 c.loop-alloc.sent c.loop-alloc.handled st1 es1 t mail1 fresh1 sorted none round.result.handled mail2 round.new.cells.items round.new.out.items f st2 refl fresh2 c.swap.ensures.other) in
    let few = few_after ph.problem ph.holds ph.weight ph.start_weight ph.react (record { keeps = law.keeps; lowers = law.lowers; same = law.same_problem; order = law.holds_in_any_order; same_weight = law.weighs_in_any_order; addressed = law.addressed; small = law.start_weight_fits }) owners s st0 es0 sent2 handled2 st2 (pool mail2 ++ fresh2) c.requires.stands next in
    omega (arith, few.1)

pub loop-alloc-preserved : goal.loop-alloc-preserved
loop-alloc-preserved g c =
    let ph = g.P.Phase in
    let law = g.met.P.Phase in
    let owners = c.args.owners.now in
    let s = c.args.shard in
    let st0 = stood ph.problem c.args.phase.now c.args.first.now.value.items c.args.cells.now.items in
    let st1 = stood ph.problem c.args.phase.now c.args.first.now.value.items c.loop-alloc.cells.items in
    let es0 = pool c.args.mail.now.items ++ c.args.fresh.now.items in
    let es1 = pool c.loop-alloc.mail.items ++ c.loop-alloc.fresh.items in
    let mail1 = c.sort_out.new.mail.items in
    let fresh1 = c.sort_out.new.fresh.items in
    let t = c.loop-alloc.invariant.turns in
    let sorted = c.sort_out.ensures.same in
    let none : fresh1 ≡ [] = first_of (search rules, grind (arith, common_steps)) in
    let round = c.handle_round-round in
    let f = round.ensures.handled in
    let mail2 = round.new.mail.items in
    let fresh2 = c.swap.new.other.items in
    let st2 = stood ph.problem c.args.phase.now c.args.first.now.value.items round.new.cells.items in
    let counted : length fresh2 ≡ c.len.result = omega (arith, c.len.ensures, c.swap.new.other.ok.0) in
    let sent2 = c.loop-alloc.sent + c.len.result in
    let handled2 = c.loop-alloc.handled + round.result.handled in
    let next : Turns ph.react owners s st0 es0 sent2 handled2 st2 (pool mail2 ++ fresh2) = subst (λ n. Turns ph.react owners s st0 es0 (c.loop-alloc.sent + n) handled2 st2 (pool mail2 ++ fresh2)) counted (serves_more ph.react owners s st0 es0 c.loop-alloc.sent c.loop-alloc.handled st1 es1 t mail1 fresh1 sorted none round.result.handled mail2 round.new.cells.items round.new.out.items f st2 refl fresh2 c.swap.ensures.other) in
    record {
      none_sent = c.swap.ensures.items ∙ none;
      turns = next;
      addressed = all_back (λ x. x.to < length owners) (pool mail2) fresh2 (addressed_now ph.problem ph.holds ph.weight ph.start_weight ph.react (record { keeps = law.keeps; lowers = law.lowers; same = law.same_problem; order = law.holds_in_any_order; same_weight = law.weighs_in_any_order; addressed = law.addressed; small = law.start_weight_fits }) owners s st2 (pool mail2 ++ fresh2) (stands_after ph.problem ph.holds ph.weight ph.start_weight ph.react (record { keeps = law.keeps; lowers = law.lowers; same = law.same_problem; order = law.holds_in_any_order; same_weight = law.weighs_in_any_order; addressed = law.addressed; small = law.start_weight_fits }) owners s st0 es0 sent2 handled2 st2 (pool mail2 ++ fresh2) c.requires.stands next));
      sorted = still_sorted owners s mail1 mail2 f.es f.rest f.first f.left c.sort_out.ensures.sorted;
      count = ap length f.left ∙ (length_put mail1 s f.rest ∙ (c.sort_out.ensures.count ∙ c.loop-alloc.invariant.count));
    }

pub returns-then-round-eq0-clause-turns : goal.returns-then-round-eq0-clause-turns
returns-then-round-eq0-clause-turns g c =
    let ph = g.P.Phase in
    let law = g.met.P.Phase in
    let owners = c.args.owners.now in
    let s = c.args.shard in
    let st0 = stood ph.problem c.args.phase.now c.args.first.now.value.items c.args.cells.now.items in
    let st1 = stood ph.problem c.args.phase.now c.args.first.now.value.items c.loop-alloc.cells.items in
    let es0 = pool c.args.mail.now.items ++ c.args.fresh.now.items in
    let es1 = pool c.loop-alloc.mail.items ++ c.loop-alloc.fresh.items in
    let mail1 = c.sort_out.new.mail.items in
    let fresh1 = c.sort_out.new.fresh.items in
    let t = c.loop-alloc.invariant.turns in
    let sorted = c.sort_out.ensures.same in
    let none : fresh1 ≡ [] = first_of (search rules, grind (arith, common_steps)) in
    let round = c.handle_round-round in
    let f = round.ensures.handled in
    let mail2 = round.new.mail.items in
    let fresh2 = c.swap.new.other.items in
    let st2 = stood ph.problem c.args.phase.now c.args.first.now.value.items round.new.cells.items in
    let counted : length fresh2 ≡ c.len.result = omega (arith, c.len.ensures, c.swap.new.other.ok.0) in
    let sent2 = c.loop-alloc.sent + c.len.result in
    let handled2 = c.loop-alloc.handled + round.result.handled in
    let next : Turns ph.react owners s st0 es0 sent2 handled2 st2 (pool mail2 ++ fresh2) = subst (λ n. Turns ph.react owners s st0 es0 (c.loop-alloc.sent + n) handled2 st2 (pool mail2 ++ fresh2)) counted (serves_more ph.react owners s st0 es0 c.loop-alloc.sent c.loop-alloc.handled st1 es1 t mail1 fresh1 sorted none round.result.handled mail2 round.new.cells.items round.new.out.items f st2 refl fresh2 c.swap.ensures.other) in
    next

pub returns-then-round-eq0-clause-addressed : goal.returns-then-round-eq0-clause-addressed
returns-then-round-eq0-clause-addressed g c =
    let ph = g.P.Phase in
    let law = g.met.P.Phase in
    let owners = c.args.owners.now in
    let s = c.args.shard in
    let st0 = stood ph.problem c.args.phase.now c.args.first.now.value.items c.args.cells.now.items in
    let st1 = stood ph.problem c.args.phase.now c.args.first.now.value.items c.loop-alloc.cells.items in
    let es0 = pool c.args.mail.now.items ++ c.args.fresh.now.items in
    let es1 = pool c.loop-alloc.mail.items ++ c.loop-alloc.fresh.items in
    let mail1 = c.sort_out.new.mail.items in
    let fresh1 = c.sort_out.new.fresh.items in
    let t = c.loop-alloc.invariant.turns in
    let sorted = c.sort_out.ensures.same in
    let none : fresh1 ≡ [] = first_of (search rules, grind (arith, common_steps)) in
    let round = c.handle_round-round in
    let f = round.ensures.handled in
    let mail2 = round.new.mail.items in
    let fresh2 = c.swap.new.other.items in
    let st2 = stood ph.problem c.args.phase.now c.args.first.now.value.items round.new.cells.items in
    let counted : length fresh2 ≡ c.len.result = omega (arith, c.len.ensures, c.swap.new.other.ok.0) in
    let sent2 = c.loop-alloc.sent + c.len.result in
    let handled2 = c.loop-alloc.handled + round.result.handled in
    let next : Turns ph.react owners s st0 es0 sent2 handled2 st2 (pool mail2 ++ fresh2) = subst (λ n. Turns ph.react owners s st0 es0 (c.loop-alloc.sent + n) handled2 st2 (pool mail2 ++ fresh2)) counted (serves_more ph.react owners s st0 es0 c.loop-alloc.sent c.loop-alloc.handled st1 es1 t mail1 fresh1 sorted none round.result.handled mail2 round.new.cells.items round.new.out.items f st2 refl fresh2 c.swap.ensures.other) in
    all_back (λ x. x.to < length owners) (pool mail2) fresh2 (addressed_now ph.problem ph.holds ph.weight ph.start_weight ph.react (record { keeps = law.keeps; lowers = law.lowers; same = law.same_problem; order = law.holds_in_any_order; same_weight = law.weighs_in_any_order; addressed = law.addressed; small = law.start_weight_fits }) owners s st2 (pool mail2 ++ fresh2) (stands_after ph.problem ph.holds ph.weight ph.start_weight ph.react (record { keeps = law.keeps; lowers = law.lowers; same = law.same_problem; order = law.holds_in_any_order; same_weight = law.weighs_in_any_order; addressed = law.addressed; small = law.start_weight_fits }) owners s st0 es0 sent2 handled2 st2 (pool mail2 ++ fresh2) c.requires.stands next))

pub returns-then-round-eq0-clause-sorted : goal.returns-then-round-eq0-clause-sorted
returns-then-round-eq0-clause-sorted g c =
    let ph = g.P.Phase in
    let law = g.met.P.Phase in
    let owners = c.args.owners.now in
    let s = c.args.shard in
    let st0 = stood ph.problem c.args.phase.now c.args.first.now.value.items c.args.cells.now.items in
    let st1 = stood ph.problem c.args.phase.now c.args.first.now.value.items c.loop-alloc.cells.items in
    let es0 = pool c.args.mail.now.items ++ c.args.fresh.now.items in
    let es1 = pool c.loop-alloc.mail.items ++ c.loop-alloc.fresh.items in
    let mail1 = c.sort_out.new.mail.items in
    let fresh1 = c.sort_out.new.fresh.items in
    let t = c.loop-alloc.invariant.turns in
    let sorted = c.sort_out.ensures.same in
    let none : fresh1 ≡ [] = first_of (search rules, grind (arith, common_steps)) in
    let round = c.handle_round-round in
    let f = round.ensures.handled in
    let mail2 = round.new.mail.items in
    let fresh2 = c.swap.new.other.items in
    let st2 = stood ph.problem c.args.phase.now c.args.first.now.value.items round.new.cells.items in
    let counted : length fresh2 ≡ c.len.result = omega (arith, c.len.ensures, c.swap.new.other.ok.0) in
    let sent2 = c.loop-alloc.sent + c.len.result in
    let handled2 = c.loop-alloc.handled + round.result.handled in
    let next : Turns ph.react owners s st0 es0 sent2 handled2 st2 (pool mail2 ++ fresh2) = subst (λ n. Turns ph.react owners s st0 es0 (c.loop-alloc.sent + n) handled2 st2 (pool mail2 ++ fresh2)) counted (serves_more ph.react owners s st0 es0 c.loop-alloc.sent c.loop-alloc.handled st1 es1 t mail1 fresh1 sorted none round.result.handled mail2 round.new.cells.items round.new.out.items f st2 refl fresh2 c.swap.ensures.other) in
    still_sorted owners s mail1 mail2 f.es f.rest f.first f.left c.sort_out.ensures.sorted

pub returns-then-not-round-clause-turns : goal.returns-then-not-round-clause-turns
returns-then-not-round-clause-turns g c =
    let ph = g.P.Phase in
    let law = g.met.P.Phase in
    let owners = c.args.owners.now in
    let s = c.args.shard in
    let st0 = stood ph.problem c.args.phase.now c.args.first.now.value.items c.args.cells.now.items in
    let st1 = stood ph.problem c.args.phase.now c.args.first.now.value.items c.loop-alloc.cells.items in
    let es0 = pool c.args.mail.now.items ++ c.args.fresh.now.items in
    let es1 = pool c.loop-alloc.mail.items ++ c.loop-alloc.fresh.items in
    let mail1 = c.sort_out.new.mail.items in
    let fresh1 = c.sort_out.new.fresh.items in
    let t = c.loop-alloc.invariant.turns in
    let sorted = c.sort_out.ensures.same in
    let none : fresh1 ≡ [] = first_of (search rules, grind (arith, common_steps)) in
    let round = c.handle_round-round in
    let f = round.ensures.handled in
    let mail2 = round.new.mail.items in
    let fresh2 = c.swap.new.other.items in
    let st2 = stood ph.problem c.args.phase.now c.args.first.now.value.items round.new.cells.items in
    let counted : length fresh2 ≡ c.len.result = omega (arith, c.len.ensures, c.swap.new.other.ok.0) in
    let sent2 = c.loop-alloc.sent + c.len.result in
    let handled2 = c.loop-alloc.handled + round.result.handled in
    let next : Turns ph.react owners s st0 es0 sent2 handled2 st2 (pool mail2 ++ fresh2) = subst (λ n. Turns ph.react owners s st0 es0 (c.loop-alloc.sent + n) handled2 st2 (pool mail2 ++ fresh2)) counted (serves_more ph.react owners s st0 es0 c.loop-alloc.sent c.loop-alloc.handled st1 es1 t mail1 fresh1 sorted none round.result.handled mail2 round.new.cells.items round.new.out.items f st2 refl fresh2 c.swap.ensures.other) in
    next

pub returns-then-not-round-clause-addressed : goal.returns-then-not-round-clause-addressed
returns-then-not-round-clause-addressed g c =
    let ph = g.P.Phase in
    let law = g.met.P.Phase in
    let owners = c.args.owners.now in
    let s = c.args.shard in
    let st0 = stood ph.problem c.args.phase.now c.args.first.now.value.items c.args.cells.now.items in
    let st1 = stood ph.problem c.args.phase.now c.args.first.now.value.items c.loop-alloc.cells.items in
    let es0 = pool c.args.mail.now.items ++ c.args.fresh.now.items in
    let es1 = pool c.loop-alloc.mail.items ++ c.loop-alloc.fresh.items in
    let mail1 = c.sort_out.new.mail.items in
    let fresh1 = c.sort_out.new.fresh.items in
    let t = c.loop-alloc.invariant.turns in
    let sorted = c.sort_out.ensures.same in
    let none : fresh1 ≡ [] = first_of (search rules, grind (arith, common_steps)) in
    let round = c.handle_round-round in
    let f = round.ensures.handled in
    let mail2 = round.new.mail.items in
    let fresh2 = c.swap.new.other.items in
    let st2 = stood ph.problem c.args.phase.now c.args.first.now.value.items round.new.cells.items in
    let counted : length fresh2 ≡ c.len.result = omega (arith, c.len.ensures, c.swap.new.other.ok.0) in
    let sent2 = c.loop-alloc.sent + c.len.result in
    let handled2 = c.loop-alloc.handled + round.result.handled in
    let next : Turns ph.react owners s st0 es0 sent2 handled2 st2 (pool mail2 ++ fresh2) = subst (λ n. Turns ph.react owners s st0 es0 (c.loop-alloc.sent + n) handled2 st2 (pool mail2 ++ fresh2)) counted (serves_more ph.react owners s st0 es0 c.loop-alloc.sent c.loop-alloc.handled st1 es1 t mail1 fresh1 sorted none round.result.handled mail2 round.new.cells.items round.new.out.items f st2 refl fresh2 c.swap.ensures.other) in
    all_back (λ x. x.to < length owners) (pool mail2) fresh2 (addressed_now ph.problem ph.holds ph.weight ph.start_weight ph.react (record { keeps = law.keeps; lowers = law.lowers; same = law.same_problem; order = law.holds_in_any_order; same_weight = law.weighs_in_any_order; addressed = law.addressed; small = law.start_weight_fits }) owners s st2 (pool mail2 ++ fresh2) (stands_after ph.problem ph.holds ph.weight ph.start_weight ph.react (record { keeps = law.keeps; lowers = law.lowers; same = law.same_problem; order = law.holds_in_any_order; same_weight = law.weighs_in_any_order; addressed = law.addressed; small = law.start_weight_fits }) owners s st0 es0 sent2 handled2 st2 (pool mail2 ++ fresh2) c.requires.stands next))

pub returns-then-not-round-clause-sorted : goal.returns-then-not-round-clause-sorted
returns-then-not-round-clause-sorted g c =
    let ph = g.P.Phase in
    let law = g.met.P.Phase in
    let owners = c.args.owners.now in
    let s = c.args.shard in
    let st0 = stood ph.problem c.args.phase.now c.args.first.now.value.items c.args.cells.now.items in
    let st1 = stood ph.problem c.args.phase.now c.args.first.now.value.items c.loop-alloc.cells.items in
    let es0 = pool c.args.mail.now.items ++ c.args.fresh.now.items in
    let es1 = pool c.loop-alloc.mail.items ++ c.loop-alloc.fresh.items in
    let mail1 = c.sort_out.new.mail.items in
    let fresh1 = c.sort_out.new.fresh.items in
    let t = c.loop-alloc.invariant.turns in
    let sorted = c.sort_out.ensures.same in
    let none : fresh1 ≡ [] = first_of (search rules, grind (arith, common_steps)) in
    let round = c.handle_round-round in
    let f = round.ensures.handled in
    let mail2 = round.new.mail.items in
    let fresh2 = c.swap.new.other.items in
    let st2 = stood ph.problem c.args.phase.now c.args.first.now.value.items round.new.cells.items in
    let counted : length fresh2 ≡ c.len.result = omega (arith, c.len.ensures, c.swap.new.other.ok.0) in
    let sent2 = c.loop-alloc.sent + c.len.result in
    let handled2 = c.loop-alloc.handled + round.result.handled in
    let next : Turns ph.react owners s st0 es0 sent2 handled2 st2 (pool mail2 ++ fresh2) = subst (λ n. Turns ph.react owners s st0 es0 (c.loop-alloc.sent + n) handled2 st2 (pool mail2 ++ fresh2)) counted (serves_more ph.react owners s st0 es0 c.loop-alloc.sent c.loop-alloc.handled st1 es1 t mail1 fresh1 sorted none round.result.handled mail2 round.new.cells.items round.new.out.items f st2 refl fresh2 c.swap.ensures.other) in
    still_sorted owners s mail1 mail2 f.es f.rest f.first f.left c.sort_out.ensures.sorted

pub returns-after-loop-alloc-clause-turns : goal.returns-after-loop-alloc-clause-turns
returns-after-loop-alloc-clause-turns g c =
    let ph = g.P.Phase in
    let law = g.met.P.Phase in
    let owners = c.args.owners.now in
    let s = c.args.shard in
    let st0 = stood ph.problem c.args.phase.now c.args.first.now.value.items c.args.cells.now.items in
    let st1 = stood ph.problem c.args.phase.now c.args.first.now.value.items c.loop-alloc.cells.items in
    let es0 = pool c.args.mail.now.items ++ c.args.fresh.now.items in
    let es1 = pool c.loop-alloc.mail.items ++ c.loop-alloc.fresh.items in
    let mail1 = c.sort_out.new.mail.items in
    let fresh1 = c.sort_out.new.fresh.items in
    let t = c.loop-alloc.invariant.turns in
    let sorted = c.sort_out.ensures.same in
    turns_end ph.react owners s st0 es0 c.loop-alloc.sent c.loop-alloc.handled st1 es1 (pool mail1 ++ fresh1) sorted t
