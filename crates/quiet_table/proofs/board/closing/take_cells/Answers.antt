use Rattle.std.proofs.Common.{rules, ◌≡◌, ◌++◌, [], ◌∷◌, map, Some, sym, ap, refl, ◌∙◌}
use Rattle.std.specs.Mem.Slots.{slots_items}
use Rattle.quiet_table.specs.declared.item.Item.TheVariants.{Cell, Inbox}
use Rattle.quiet_table.proofs.Emptying.{take_more, map_more}
use lib.ListN.{get_elem?}
use Rattle.quiet_table.proofs.board.closing.take_cells.Goals as goal
use mathlib.Core.Option.{some, some-injective}

pub unreachable-requires : goal.unreachable-requires
unreachable-requires g c =
    let r = c.requires.cells c.loop-k.k c.loop-k-test.true in
    let q = sym (some-injective _ _ (sym (ap (λ l. get_elem? l c.loop-k.k) (sym c.loop-k.invariant.items) ∙ c.take.ensures.value) ∙ r.1)) in
    let z : Some (Cell r.0) ≡ Some (Inbox c.in-Inbox.field-0) = q ∙ c.in-Inbox.ensures in
    absurd cc

pub unwrap-item-requires : goal.unwrap-item-requires
unwrap-item-requires g c =
    let r = c.requires.cells c.loop-k.k c.loop-k-test.true in
    let q = some-injective _ _ (sym (ap (λ l. get_elem? l c.loop-k.k) (sym c.loop-k.invariant.items) ∙ c.take.ensures.value) ∙ r.1) in
    rw q refl

pub loop-k-preserved : goal.loop-k-preserved
loop-k-preserved g c =
    let inv = c.loop-k.invariant in
    let k = c.loop-k.k in
    let push = c.push_reserved.ensures in
    let row = slots_items c.args.closed.now.slots in
    let there = ap (λ l. get_elem? l k) (sym inv.items) ∙ c.take.ensures.value in
    record {
      full = search rules;
      below = search rules;
      items = c.take.ensures.others.0 ∙ inv.items;
      len = c.take.ensures.others.2 ∙ inv.len;
      words = c.take.ensures.others.3 ∙ inv.words;
      laid = ap (λ l. map (λ c'. Some (Cell c')) l) push.items ∙ (map_more (λ c'. Some (Cell c')) c.loop-k.cells.items c.in-Cell.cell ∙ (ap (λ l. l ++ Some (Cell c.in-Cell.cell) ∷ []) inv.laid ∙ sym (take_more row k (Some (Cell c.in-Cell.cell)) (there ∙ ap (λ z. some z) c.in-Cell.ensures))));
      count = search rules;
      room = search rules;
    }
