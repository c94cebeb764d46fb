-- The law, from its lemma.
use Rattle.std.proofs.Common.{inl, inr}
use Rattle.block_index.proofs.Beyond.{IsBeyond-one, beyond_or_leaves, IsBeyond-LeavesDomain}
use Rattle.cello_neighbours.proofs.laws.one_place_beyond.Goals as goal

pub returns-clause-one : goal.returns-clause-one
returns-clause-one c = IsBeyond-one

pub returns-clause-none : goal.returns-clause-none
returns-clause-none c = λ grid a d i w. (
  (λ none. elim (beyond_or_leaves grid a d i w.x w.y w.z) [ inl next ↦ absurd (none next.0 next.1) | inr out ↦ out ]),
  (λ out q h. IsBeyond-LeavesDomain grid a q d out h),
)
