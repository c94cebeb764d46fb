-- What is left of the proof of this function.
use Rattle.std.proofs.Common.{refl}
use Rattle.leaf_set.proofs.BarePlaces.{IsMesh-CoverAll}
use Rattle.leaf_set.proofs.faults.mesh_fault.Goals as goal

pub returns-in-Some-first_outside-clause-found : goal.returns-in-Some-first_outside-clause-found
returns-in-Some-first_outside-clause-found c = (c.in_default.ensures.none refl, c.in-Some-first_outside.ensures.found)

pub first_overlap-requires-clause-in_order : goal.first_overlap-requires-clause-in_order
first_overlap-requires-clause-in_order c = c.in_default.ensures.none refl

pub first_overlap-requires-clause-limits : goal.first_overlap-requires-clause-limits
first_overlap-requires-clause-limits c = c.in_default.ensures.limits refl

pub returns-in-Some-first_overlap-clause-found : goal.returns-in-Some-first_overlap-clause-found
returns-in-Some-first_overlap-clause-found c =
    (c.in_default.ensures.none refl, c.in_default-first_outside.ensures.none refl, c.in-Some-first_overlap.ensures.found)

pub first_bare-requires-clause-in_order : goal.first_bare-requires-clause-in_order
first_bare-requires-clause-in_order c = c.in_default.ensures.none refl

pub first_bare-requires-clause-inside : goal.first_bare-requires-clause-inside
first_bare-requires-clause-inside c = c.in_default-first_outside.ensures.none refl

pub first_bare-requires-clause-apart : goal.first_bare-requires-clause-apart
first_bare-requires-clause-apart c = c.in_default-first_overlap.ensures.none refl

pub returns-in_err-at-clause-none : goal.returns-in_err-at-clause-none
returns-in_err-at-clause-none c none =
    IsMesh-CoverAll c.args.domain.now c.args.places.now c.first_bare.ensures.limits (c.in_default.ensures.none refl) (c.in_default-first_outside.ensures.none refl)
    (c.in_default-first_overlap.ensures.none refl)
    (c.in_err-at.ensures.none refl)

pub returns-clause-found : goal.returns-clause-found
returns-clause-found c = (
  c.in_default.ensures.none refl,
  c.in_default-first_outside.ensures.none refl,
  c.in_default-first_overlap.ensures.none refl,
  c.in_ok-at.ensures.found,
)
