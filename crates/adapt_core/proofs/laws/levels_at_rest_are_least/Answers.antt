-- The levels at rest.
use Rattle.adapt_core.proofs.Rest.{levels-IsLeast}
use Rattle.adapt_core.proofs.laws.levels_at_rest_are_least.Goals as goal

pub returns : goal.returns
returns c = record { least = levels-IsLeast }
