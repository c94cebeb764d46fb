-- The law, from its lemma.
use Rattle.block_fields.proofs.FilledStates.{at-map}
use Rattle.block_fields.proofs.SamplesAround.{seen-samples}
use Rattle.block_fields.proofs.block_laws.samples_around_blocks.Goals as goal

pub returns-clause-leaf : goal.returns-clause-leaf
returns-clause-leaf c grid leaves n fields depth blocks i b w at = record {
  same_edge = (w.each i b at).same_edge;
  leaf = at-map (λ b. b.place) blocks i b at;
  held = at-map (λ b. b.amounts) blocks i b at;
}

pub returns-clause-seen : goal.returns-clause-seen
returns-clause-seen c s i b f x y z w k samples hf hx hy hz = seen-samples s w i b k samples f x y z hf hx hy hz
