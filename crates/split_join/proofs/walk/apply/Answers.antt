use Rattle.std.proofs.Common.{◌≡◌, ◌+◌, [], Some, slice_get, length, sym, ap, ◌∙◌, subst, arith}
use Rattle.std.specs.Vec.Iter.{into_iter_items}
use Rattle.prolong_restrict.specs.Families.{FieldsFit}
use Rattle.split_join.proofs.Lists.{nothing_left}
use Rattle.split_join.proofs.Walks.{Walk, Walk-begin, Walk-turn, next_within, IsFamily-waiting, waiting_at, places_of_next}
use Rattle.split_join.proofs.Adapted.{AreBlocksOf-next, state-adapted, total-next, same_block, made_of_zeros, fields_fit}
use Rattle.split_join.proofs.walk.apply.Goals as goal

pub loop-block-init : goal.loop-block-init
loop-block-init c =
    let t = c.len-leaves.ensures.tiles in
    let blocks = c.args.blocks.items in
    let rest = into_iter_items c.into_iter-block-iterator.result in
    let gives = c.into_iter-block-iterator.ensures.into_iter_gives in
    record {
      walk = λ wishes levels sol e.
          subst (λ r. Walk c.args.old.now.places levels blocks c.args.new.now.places c.in_ok-family.family.items c.in_ok-next.next.items r) (sym gives.0)
          (subst (λ f. Walk c.args.old.now.places levels blocks c.args.new.now.places f c.in_ok-next.next.items blocks) (sym c.in_ok-family.ensures.items)
          (subst (λ x. Walk c.args.old.now.places levels blocks c.args.new.now.places [] x blocks) (sym c.in_ok-next.ensures.items)
          (Walk-begin c.args.old.now.grid c.args.old.now.places t.domain t.mesh wishes levels sol blocks c.args.new.now.places e)));
      long = (let v = c.args.blocks.ok in let l = ap length gives.0 in omega (arith, gives.1, v.0));
    }

pub place-at-requires : goal.place-at-requires
place-at-requires c =
    let t = c.len-leaves.ensures.tiles in
    let at = c.loop-block in
    let old = c.args.old.now in
    let blocks = c.args.blocks.items in
    let phase = c.requires.next in
    let size = c.requires.blocks in
    let rest = into_iter_items c.next.new.self in
    let w = subst (λ r. Walk old.places phase.1 blocks c.args.new.now.places at.family.items at.next.items r) c.in-Some.ensures.steps.0 (at.invariant.walk phase.0 phase.1 phase.2 phase.3) in
    let h = next_within old.grid old.places t.domain t.mesh phase.0 phase.1 phase.2 blocks c.args.new.now.places size.3.places at.family.items at.next.items rest c.in-Some.block w in
    record { inside = omega (arith, c.len-in-loop-block.ensures, at.next.ok.0, h) }

pub step-requires-clause-family : goal.step-requires-clause-family
step-requires-clause-family c = λ h seven.
    let t = c.len-leaves.ensures.tiles in
    let at = c.loop-block in
    let old = c.args.old.now in
    let blocks = c.args.blocks.items in
    let phase = c.requires.next in
    let size = c.requires.blocks in
    let rest = into_iter_items c.next.new.self in
    let w = subst (λ r. Walk old.places phase.1 blocks c.args.new.now.places at.family.items at.next.items r) c.in-Some.ensures.steps.0 (at.invariant.walk phase.0 phase.1 phase.2 phase.3) in
    let count : length at.next.items ≡ c.len-in-loop-block.result = omega (arith, c.len-in-loop-block.ensures, at.next.ok.0) in
    let here : slice_get c.args.new.now.places (length at.next.items) ≡ Some c.place-at.result = ap (slice_get c.args.new.now.places) count ∙ c.place-at.ensures.leaf in
    (size.0, size.1, size.2, IsFamily-waiting old.grid old.places t.domain t.mesh phase.0 phase.1 phase.2 blocks c.args.new.now.places size.3.places at.family.items at.next.items rest c.in-Some.block w c.place-at.result here h seven size.0 size.1 size.2 size.3)

pub step-requires-clause-few : goal.step-requires-clause-few
step-requires-clause-few c = λ k f x e.
    let t = c.len-leaves.ensures.tiles in
    let at = c.loop-block in
    let old = c.args.old.now in
    let blocks = c.args.blocks.items in
    let phase = c.requires.next in
    let size = c.requires.blocks in
    let rest = into_iter_items c.next.new.self in
    let w = subst (λ r. Walk old.places phase.1 blocks c.args.new.now.places at.family.items at.next.items r) c.in-Some.ensures.steps.0 (at.invariant.walk phase.0 phase.1 phase.2 phase.3) in
    let fit : FieldsFit blocks = fields_fit old.grid old.places t.domain t.mesh t.balanced size.0 size.1 size.2 blocks size.3 size.4 in
    fit (w.at + k) f x (waiting_at old.grid old.places t.domain t.mesh phase.0 phase.1 phase.2 blocks c.args.new.now.places size.3.places at.family.items at.next.items rest c.in-Some.block w k x e)

pub loop-block-preserved : goal.loop-block-preserved
loop-block-preserved c =
    let t = c.len-leaves.ensures.tiles in
    let at = c.loop-block in
    let old = c.args.old.now in
    let blocks = c.args.blocks.items in
    let phase = c.requires.next in
    let size = c.requires.blocks in
    let rest = into_iter_items c.next.new.self in
    let count : length at.next.items ≡ c.len-in-loop-block.result = omega (arith, c.len-in-loop-block.ensures, at.next.ok.0) in
    let here : slice_get c.args.new.now.places (length at.next.items) ≡ Some c.place-at.result = ap (slice_get c.args.new.now.places) count ∙ c.place-at.ensures.leaf in
    let steps = c.in-Some.ensures.steps in
    record {
      walk = λ wishes levels sol e.
          let w = subst (λ r. Walk old.places levels blocks c.args.new.now.places at.family.items at.next.items r) steps.0 (at.invariant.walk wishes levels sol e) in
          Walk-turn old.grid old.places t.domain t.mesh wishes levels sol blocks c.args.new.now.places size.3.places at.family.items at.next.items rest c.in-Some.block w c.place-at.result here c.step.new.family.items c.step.new.next.items c.in_ok-step.ensures size.0 size.1 size.2 size.3;
      long = (let was = at.invariant.long in let gone = steps.1 in let short = ap length steps.0 in omega arith);
    }

pub returns-clause-blocks : goal.returns-clause-blocks
returns-clause-blocks c = λ n fields depth each.
    let t = c.len-leaves.ensures.tiles in
    let at = c.loop-block in
    let old = c.args.old.now in
    let blocks = c.args.blocks.items in
    let phase = c.requires.next in
    let size = c.requires.blocks in
    let none = c.in-None.ensures.steps in
    let empty : into_iter_items at.block-iterator ≡ [] = nothing_left (into_iter_items at.block-iterator) (sym at.invariant.long ∙ none.0) in
    let w = subst (λ r. Walk old.places phase.1 blocks c.args.new.now.places at.family.items at.next.items r) empty (at.invariant.walk phase.0 phase.1 phase.2 phase.3) in
    let places = places_of_next old.grid old.places t.domain t.mesh phase.0 phase.1 phase.2 blocks c.args.new.now.places size.3.places at.family.items at.next.items w in
    AreBlocksOf-next old.grid old.places t.domain t.mesh t.balanced n fields depth blocks each c.args.new.now.places at.next.items places w.origins

pub returns-clause-adapted : goal.returns-clause-adapted
returns-clause-adapted c = λ n fields depth wishes levels each sol e.
    let t = c.len-leaves.ensures.tiles in
    let at = c.loop-block in
    let old = c.args.old.now in
    let blocks = c.args.blocks.items in
    let phase = c.requires.next in
    let size = c.requires.blocks in
    let none = c.in-None.ensures.steps in
    let empty : into_iter_items at.block-iterator ≡ [] = nothing_left (into_iter_items at.block-iterator) (sym at.invariant.long ∙ none.0) in
    let w = subst (λ r. Walk old.places phase.1 blocks c.args.new.now.places at.family.items at.next.items r) empty (at.invariant.walk phase.0 phase.1 phase.2 phase.3) in
    let places = places_of_next old.grid old.places t.domain t.mesh phase.0 phase.1 phase.2 blocks c.args.new.now.places size.3.places at.family.items at.next.items w in
    state-adapted old.grid old.places t.domain t.mesh t.balanced n fields depth blocks each c.args.new.now.places at.next.items places w.origins levels e

pub returns-clause-totals : goal.returns-clause-totals
returns-clause-totals c = λ n fields depth f each h.
    let t = c.len-leaves.ensures.tiles in
    let at = c.loop-block in
    let old = c.args.old.now in
    let blocks = c.args.blocks.items in
    let phase = c.requires.next in
    let size = c.requires.blocks in
    let none = c.in-None.ensures.steps in
    let empty : into_iter_items at.block-iterator ≡ [] = nothing_left (into_iter_items at.block-iterator) (sym at.invariant.long ∙ none.0) in
    let w = subst (λ r. Walk old.places phase.1 blocks c.args.new.now.places at.family.items at.next.items r) empty (at.invariant.walk phase.0 phase.1 phase.2 phase.3) in
    let places = places_of_next old.grid old.places t.domain t.mesh phase.0 phase.1 phase.2 blocks c.args.new.now.places size.3.places at.family.items at.next.items w in
    total-next old.grid old.places t.domain t.mesh t.balanced n fields depth blocks each c.args.new.now.places at.next.items places w.origins phase.0 phase.1 f phase.2 phase.3 h

pub returns-clause-kept : goal.returns-clause-kept
returns-clause-kept c = λ i j a b e s here.
    let t = c.len-leaves.ensures.tiles in
    let at = c.loop-block in
    let old = c.args.old.now in
    let blocks = c.args.blocks.items in
    let phase = c.requires.next in
    let size = c.requires.blocks in
    let none = c.in-None.ensures.steps in
    let empty : into_iter_items at.block-iterator ≡ [] = nothing_left (into_iter_items at.block-iterator) (sym at.invariant.long ∙ none.0) in
    let w = subst (λ r. Walk old.places phase.1 blocks c.args.new.now.places at.family.items at.next.items r) empty (at.invariant.walk phase.0 phase.1 phase.2 phase.3) in
    same_block old.grid old.places t.domain t.mesh t.balanced size.0 size.1 size.2 blocks size.3 i a b e (w.origins j b s) here

pub returns-clause-fresh : goal.returns-clause-fresh
returns-clause-fresh c = λ j b e none_there.
    let t = c.len-leaves.ensures.tiles in
    let at = c.loop-block in
    let old = c.args.old.now in
    let blocks = c.args.blocks.items in
    let phase = c.requires.next in
    let size = c.requires.blocks in
    let none = c.in-None.ensures.steps in
    let empty : into_iter_items at.block-iterator ≡ [] = nothing_left (into_iter_items at.block-iterator) (sym at.invariant.long ∙ none.0) in
    let w = subst (λ r. Walk old.places phase.1 blocks c.args.new.now.places at.family.items at.next.items r) empty (at.invariant.walk phase.0 phase.1 phase.2 phase.3) in
    made_of_zeros old.grid old.places t.domain t.mesh t.balanced size.0 size.1 size.2 blocks size.3 b (w.origins j b e) none_there
