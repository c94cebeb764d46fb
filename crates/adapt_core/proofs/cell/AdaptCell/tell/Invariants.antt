-- What was told so far, and room for the rest.
use Rattle.std.proofs.Common.{◌≡◌, ◌+◌, ◌≤◌, ◌++◌, map, take}
use Rattle.adapt_core.specs.declared.adapt_msg.AdaptMsg.TheVariants.{Level}
use Rattle.adapt_core.specs.Holds.{degree}
use Rattle.adapt_core.proofs.cell.AdaptCell.tell.Given as goal

abbrev pub invariant-loop-neighbour : goal.invariant-loop-neighbour
invariant-loop-neighbour l = record {
  said : l.out.items ≡ l.fn.out.items ++ map (λ j. record { to = j; msg = Level l.self.part.index l.level }) (take l.neighbour-index l.self.part.neighbours);
  room : degree l.self.part ≤ l.out.spare + l.neighbour-index;
}
