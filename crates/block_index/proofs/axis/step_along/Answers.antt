-- What is left of the proof of this function.
use Rattle.std.proofs.Common.{◌≡◌, pos, negsuc, subst, arith}
use Rattle.std.proofs.lemmas.Int.{ints}
use Rattle.block_index.specs.Axes.{IsNext}
use Rattle.block_index.proofs.axis.step_along.Goals as goal

pub returns-in-minus1-clause-every : goal.returns-in-minus1-clause-every
returns-in-minus1-clause-every c q h =
    let e : c.args.step ≡ negsuc 0 = omega (arith, ints) in
    c.lower.ensures.every q (subst (λ s. IsNext c.args.length c.args.periodic s c.args.x q) e h)

pub returns-in_default-clause-every : goal.returns-in_default-clause-every
returns-in_default-clause-every c q h =
    let e : c.args.step ≡ pos 1 = omega (arith, ints) in
    c.upper.ensures.every q (subst (λ s. IsNext c.args.length c.args.periodic s c.args.x q) e h)
