-- What is left of the proof of this function.
use Rattle.std.proofs.Common.{sym, subst}
use Rattle.std.specs.List.{Contains}
use Rattle.std.specs.List.Sorted.{IsStrictlyIncreasing}
use Rattle.cello_neighbours.proofs.AscendingLists.{IsStrictlyIncreasing-push}
use Rattle.cello_neighbours.proofs.covers.FinerList.push.Goals as goal

pub invariant_of-self : goal.invariant_of-self
invariant_of-self c =
    subst IsStrictlyIncreasing (sym c.push.ensures.items)
    (IsStrictlyIncreasing-push c.self.inside.leaves.items c.args.leaf c.self.invariant (λ j h.
    c.requires.later j (subst (λ ys. Contains ys j) c.self.view_is h)))
