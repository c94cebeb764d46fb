use Rattle.std.proofs.Common.{◌≡◌, [], length, map, slice_index_or, sym, ap, ◌∙◌, arith}
use Rattle.std.proofs.lemmas.List.FromFn.{fill_by_all}
use Rattle.block_fields.specs.Blocks.{BlockState}
use Rattle.block_fields.specs.Divisions.{join_amounts, sums_of}
use Rattle.prolong_restrict.specs.Lemmas.JoinNumbers.{join_list}
use Rattle.prolong_restrict.proofs.JoinNumbers.{sums_of-join_list}
use Rattle.prolong_restrict.proofs.cells.join_cells.Goals as goal

pub join_field-requires-clause-children : goal.join_field-requires-clause-children
join_field-requires-clause-children c = record {
  eight = c.requires.family.eight;
  edge = λ k b e. (c.requires.family.each k b e).edge ∙ sym c.edge-n.ensures.edge;
  field = λ k b e. omega (arith, (c.requires.family.each k b e).fields, c.loop-f-test.true, c.fields-f-end.ensures.fields);
  small = λ k b e. c.requires.few k c.loop-f.f b e;
}

pub returns : goal.returns
returns c =
    let parent = c.args.parent.now in
    let blocks = c.args.children.now in
    let now = c.loop-f.parent.amounts in
    let limits = c.edge-n.ensures.limits in
    let n = parent.edge in
    let all : now ≡ join_amounts n (length parent.amounts) parent.place (map (λ (b : BlockState). b.amounts) blocks) =
    fill_by_all (λ f. sums_of n parent.place (map (λ b. slice_index_or b f []) (map (λ (b : BlockState). b.amounts) blocks))) now (length parent.amounts) [] c.loop-f.invariant.long (λ g h.
    c.loop-f.invariant.written g (omega (arith, c.loop-f-test.false, c.fields-f-end.ensures.fields))
    ∙ ap (λ n. join_list n g blocks) c.edge-n.ensures.edge
    ∙ sym (sums_of-join_list n g parent.place blocks limits.even (let e = limits.least in omega arith))) in
    record { sums = c.loop-f.invariant.same ∙ ap (λ a. record parent { amounts = a }) all }
