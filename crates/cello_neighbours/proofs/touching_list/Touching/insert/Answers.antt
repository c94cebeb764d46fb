-- What is left of the proof of this function.
use Rattle.std.proofs.Common.{◌≡◌, ◌⊎◌, ◌↔◌, Err, sym, subst}
use Rattle.std.specs.List.{Contains, insert}
use Rattle.std.specs.List.Sorted.{IsStrictlyIncreasing}
use Rattle.std.proofs.lemmas.List.Sorted.{searched}
use Rattle.cello_neighbours.proofs.Insertions.{Fits, IsStrictlyIncreasing-far, IsStrictlyIncreasing-insert, Contains-insert}
use Rattle.cello_neighbours.proofs.touching_list.Touching.insert.Goals as goal

fits : (c : goal.After-insert) → Fits c.self.inside.leaves.items c.in-Err.at c.args.leaf
fits c =
    let xs = c.self.inside.leaves.items in
    let e = c.as_slice.ensures.value in
    let up : IsStrictlyIncreasing c.as_slice.result.now = subst IsStrictlyIncreasing (sym e) c.self.invariant in
    let s = searched c.as_slice.result.now c.args.leaf (Err c.in-Err.at) c.in-Err.ensures.position (IsStrictlyIncreasing-far c.as_slice.result.now up) in
    subst (λ ys. Fits ys c.in-Err.at c.args.leaf) e (record { within = s.0; lower = s.1; higher = s.2 })

ascends : (c : goal.After-insert) → IsStrictlyIncreasing c.insert.new.self.items
ascends c =
    subst IsStrictlyIncreasing (sym c.insert.ensures.items)
    (IsStrictlyIncreasing-insert c.self.inside.leaves.items c.in-Err.at c.args.leaf (fits c) c.self.invariant)

pub invariant_of-self : goal.invariant_of-self
invariant_of-self c = ascends c

pub returns-in-Err-clause-members : goal.returns-in-Err-clause-members
returns-in-Err-clause-members c j =
    let xs = c.self.inside.leaves.items in
    let m = Contains-insert xs c.in-Err.at c.args.leaf (fits c) j in
    subst (λ ys. Contains ys j ↔ ((j ≡ c.args.leaf) ⊎ Contains c.args.self.now j)) (sym c.insert.ensures.items)
    (subst (λ ys. Contains (insert xs c.in-Err.at c.args.leaf) j ↔ ((j ≡ c.args.leaf) ⊎ Contains ys j)) c.self.view_is m)

pub returns-in-Err-clause-ascending : goal.returns-in-Err-clause-ascending
returns-in-Err-clause-ascending c = ascends c
