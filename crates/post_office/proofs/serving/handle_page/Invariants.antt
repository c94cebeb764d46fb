use Rattle.std.proofs.Common.{◌≡◌, take}
use Rattle.post_office.specs.Lemmas.Handled.{HandledInOrder}
use Rattle.post_office.proofs.serving.handle_page.Given as goal

abbrev pub invariant-loop-envelope : goal.invariant-loop-envelope
invariant-loop-envelope g l = record {
  count : l.handled ≡ l.envelope-index;
  in_order : HandledInOrder (g.P.Phase.react (g.P.Phase.problem l.phase l.first.value.items)) l.owners l.shard (take l.envelope-index l.page) l.fn.cells.items l.cells.items l.out.items;
}
