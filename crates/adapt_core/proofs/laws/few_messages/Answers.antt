-- A leaf adds little to the weight at the start.
use Rattle.adapt_core.specs.Lemmas.AdaptLaws.{start_weight_few}
use Rattle.adapt_core.proofs.laws.few_messages.Goals as goal

pub returns : goal.returns
returns c = record { few = start_weight_few }
