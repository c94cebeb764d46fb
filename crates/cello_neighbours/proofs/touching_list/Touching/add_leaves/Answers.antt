-- What is left of the proof of this function.
use Rattle.std.proofs.Common.{take, get_or, sym, subst, arith}
use Rattle.std.proofs.lemmas.List.{take_more, length-take, take_all}
use Rattle.cello_neighbours.specs.Lemmas.Added.{IsAdded}
use Rattle.cello_neighbours.proofs.Additions.{IsAdded-none, IsAdded-push}
use Rattle.cello_neighbours.proofs.touching_list.Touching.add_leaves.Goals as goal

pub loop-leaf-init : goal.loop-leaf-init
loop-leaf-init c = IsAdded-none c.args.b c.args.self.now

pub add_leaf-requires : goal.add_leaf-requires
add_leaf-requires c =
    let few = c.loop-leaf.invariant.few in
    record { room = omega (arith, few, length-take c.loop-leaf.leaf-index c.args.leaves.now, c.requires.room) }

pub loop-leaf-preserved : goal.loop-leaf-preserved
loop-leaf-preserved c =
    let i = c.loop-leaf.leaf-index in
    let xs = c.args.leaves.now in
    subst (λ names. IsAdded c.args.b names c.args.self.now c.add_leaf.new.self) (sym (take_more xs i 0 c.loop-leaf-test.true))
    (IsAdded-push c.args.b (get_or xs i 0) (take i xs) c.args.self.now c.loop-leaf.self c.add_leaf.new.self c.loop-leaf.invariant c.add_leaf.ensures.added)

pub returns : goal.returns
returns c = record {
  added = subst (λ names. IsAdded c.args.b names c.args.self.now c.loop-leaf.self) (take_all c.loop-leaf.leaf-index c.args.leaves.now c.loop-leaf-test.false) c.loop-leaf.invariant;
}
