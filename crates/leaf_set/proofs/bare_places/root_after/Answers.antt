-- What is left of the proof of this function.
use Rattle.std.proofs.Common.{arith, ap, get_or}
use Rattle.leaf_set.proofs.Stretches.{root_in_row, root_in_next_row, root_in_next_plane, no_root_after}
use Rattle.leaf_set.proofs.Values.{IfSome-value}
use Rattle.leaf_set.proofs.bare_places.root_after.Goals as goal

pub returns-then-x-trees_x-clause-found : goal.returns-then-x-trees_x-clause-found
returns-then-x-trees_x-clause-found c =
    IfSome-value _ _ _ c.new.ensures.value
    (root_in_row c.args.domain.now c.args.root c.array.ensures.limits c.requires.inside c.requires.root _ _ _ (omega arith) (omega arith) (omega arith)
    (omega (arith, ap (λ trees. get_or trees 0 0) c.array.ensures.trees)))

pub returns-then-y-trees_y-clause-found : goal.returns-then-y-trees_y-clause-found
returns-then-y-trees_y-clause-found c =
    IfSome-value _ _ _ c.new-then-y-trees_y.ensures.value
    (root_in_next_row c.args.domain.now c.args.root c.array.ensures.limits c.requires.inside c.requires.root _ _ (omega (arith, ap (λ trees. get_or trees 0 0) c.array.ensures.trees)) (omega arith) (omega arith)
    (omega (arith, ap (λ trees. get_or trees 1 0) c.array.ensures.trees)))

pub returns-then-z-trees_z-clause-found : goal.returns-then-z-trees_z-clause-found
returns-then-z-trees_z-clause-found c =
    IfSome-value _ _ _ c.new-then-z-trees_z.ensures.value
    (root_in_next_plane c.args.domain.now c.args.root c.array.ensures.limits c.requires.inside c.requires.root _ (omega (arith, ap (λ trees. get_or trees 0 0) c.array.ensures.trees))
    (omega (arith, ap (λ trees. get_or trees 1 0) c.array.ensures.trees)) (omega arith) (omega (arith, ap (λ trees. get_or trees 2 0) c.array.ensures.trees)))

pub returns-else-z-trees_z-clause-none : goal.returns-else-z-trees_z-clause-none
returns-else-z-trees_z-clause-none c n =
    no_root_after c.args.domain.now c.args.root c.array.ensures.limits c.requires.inside c.requires.root (omega (arith, ap (λ trees. get_or trees 0 0) c.array.ensures.trees))
    (omega (arith, ap (λ trees. get_or trees 1 0) c.array.ensures.trees)) (omega (arith, ap (λ trees. get_or trees 2 0) c.array.ensures.trees))
