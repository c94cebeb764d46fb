use Rattle.std.proofs.Common.{rules, ◌≡◌, ◌+◌, ◌++◌, [], ◌∷◌, map, drop, Some, sym, ap, refl, ◌∙◌}
use Rattle.std.specs.Mem.Slots.{slots_items}
use Rattle.quiet_table.specs.declared.item.Item.TheVariants.{Cell, Inbox}
use Rattle.quiet_table.proofs.Emptying.{take_more, map_more, at_drop}
use lib.ListN.{get_elem?}
use Rattle.quiet_table.proofs.board.closing.take_boxes.Goals as goal
use mathlib.Core.Option.{some, some-injective}

pub unreachable-requires : goal.unreachable-requires
unreachable-requires g c =
    let r = c.requires.boxes c.loop-k.k c.loop-k-test.true in
    let q = sym (some-injective _ _ (sym (ap (λ l. get_elem? l (c.args.shards + c.loop-k.k)) (sym c.loop-k.invariant.items) ∙ c.take.ensures.value) ∙ r.1)) in
    let z : Some (Inbox r.0) ≡ Some (Cell c.in-Cell.field-0) = q ∙ c.in-Cell.ensures in
    absurd cc

pub unwrap-item-requires : goal.unwrap-item-requires
unwrap-item-requires g c =
    let r = c.requires.boxes c.loop-k.k c.loop-k-test.true in
    let q = some-injective _ _ (sym (ap (λ l. get_elem? l (c.args.shards + c.loop-k.k)) (sym c.loop-k.invariant.items) ∙ c.take.ensures.value) ∙ r.1) in
    rw q refl

pub loop-k-preserved : goal.loop-k-preserved
loop-k-preserved g c =
    let inv = c.loop-k.invariant in
    let k = c.loop-k.k in
    let push = c.push_reserved.ensures in
    let row = drop c.args.shards (slots_items c.args.closed.now.slots) in
    let there = ap (λ l. get_elem? l (c.args.shards + k)) (sym inv.items) ∙ c.take.ensures.value in
    record {
      full = search rules;
      below = search rules;
      items = c.take.ensures.others.0 ∙ inv.items;
      len = c.take.ensures.others.2 ∙ inv.len;
      words = c.take.ensures.others.3 ∙ inv.words;
      laid = ap (λ l. map (λ c'. Some (Inbox c')) l) push.items ∙ (map_more (λ c'. Some (Inbox c')) c.loop-k.boxes.items c.in-Inbox.inbox ∙ (ap (λ l. l ++ Some (Inbox c.in-Inbox.inbox) ∷ []) inv.laid ∙ sym (take_more row k (Some (Inbox c.in-Inbox.inbox)) (at_drop (slots_items c.args.closed.now.slots) c.args.shards k ∙ (there ∙ ap (λ z. some z) c.in-Inbox.ensures)))));
      count = search rules;
      room = search rules;
    }
