-- One state.
use Rattle.std.proofs.Common.{sym, ◌∙◌}
use Rattle.checkpoint.proofs.OneState.{one-state}
use Rattle.checkpoint.proofs.laws.one_state.Goals as goal

pub returns : goal.returns
returns c = record {
  one_state = λ bytes s t h k. one-state c.packing_is_one_to_one.ensures.one_place s t h.0 k.0 (sym h.1 ∙ k.1);
}
