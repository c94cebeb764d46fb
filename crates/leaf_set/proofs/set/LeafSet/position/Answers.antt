-- What is left of the proof of this function.
use Rattle.std.proofs.Common.{position, ap, ◌∙◌}
use Rattle.std.specs.List.{list_any}
use Rattle.block_index.proofs.Equality.{place_eq, position-place_eq}
use Rattle.leaf_set.proofs.Positions.{position-none}
use Rattle.leaf_set.proofs.set.LeafSet.position.Goals as goal

pub returns-clause-found : goal.returns-clause-found
returns-clause-found c =
    position-place_eq _ _ _ (c.get_index_of.ensures.index ∙ ap (λ t. position (place_eq c.args.at) t.places) c.self.view_is)

pub returns-clause-none : goal.returns-clause-none
returns-clause-none c =
    position-none _ _ _ (returns-clause-found c)
    (c.get_index_of.ensures.found ∙ ap (λ t. list_any (place_eq c.args.at) t.places) c.self.view_is)
