-- What is left of the proof of this function.
use Rattle.cello_neighbours.proofs.Additions.{IsAdded-other}
use Rattle.cello_neighbours.proofs.touching_list.Touching.add_leaf.Goals as goal

pub returns-then-leaf-b : goal.returns-then-leaf-b
returns-then-leaf-b c =
    let e = c.insert.ensures in
    record { added = IsAdded-other c.args.b c.args.leaf c.args.self.now c.insert.new.self c.if-leaf-b.true e.members (λ up. e.ascending) e.one_more }
