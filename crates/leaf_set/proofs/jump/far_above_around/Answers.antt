-- What is left of the proof of this function.
use Rattle.std.proofs.Common.{sym, subst}
use Rattle.std.proofs.lemmas.Option.{none-some, same_Some, IfSome_then}
use Rattle.leaf_set.specs.Lemmas.JumpSearch.{IsFarOver}
use Rattle.leaf_set.proofs.jump.far_above_around.Goals as goal

pub returns-in_err-around_corner-clause-every : goal.returns-in_err-around_corner-clause-every
returns-in_err-around_corner-clause-every c u a j b v = absurd (none-some u (c.in_err-around_corner.ensures.every u b))

pub returns-clause-found : goal.returns-clause-found
returns-clause-found c =
    IfSome_then c.far_above.result c.far_above.ensures.found (λ j v. (c.in_ok-around_corner.field-0, v.0, c.in_ok-around_corner.ensures.found, v.1))

pub returns-clause-every : goal.returns-clause-every
returns-clause-every c u a j b v =
    let same = same_Some c.in_ok-around_corner.field-0 u (c.in_ok-around_corner.ensures.every u b) in
    c.far_above.ensures.every a j (subst (λ q. IsFarOver c.args.places.now.keys q j a) (sym same) v)
