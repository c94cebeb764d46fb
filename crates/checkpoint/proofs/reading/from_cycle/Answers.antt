-- The cycle: not there whole, or at fault.
use Rattle.std.proofs.Common.{[], refl, sym, subst, arith}
use Rattle.checkpoint.specs.Lemmas.Stages.{EndsRead, told}
use Rattle.checkpoint.specs.declared.part.Part.TheVariants as parts
use Rattle.checkpoint.proofs.Stages.{is-faulty, is-short, passed-on}
use Rattle.checkpoint.proofs.reading.from_cycle.Goals as goal

pub returns-then-left-lt4-clause-fault : goal.returns-then-left-lt4-clause-fault
returns-then-left-lt4-clause-fault c =
    subst (EndsRead c.args.file.now) (sym c.truncated.ensures.fault)
    (is-short parts.Cycle c.args.file.now (told c.args.params 0 [] [] [] []) c.args.left.now c.requires.stands c.if-left-lt4.true)

pub returns-in_err-cycle-clause-fault : goal.returns-in_err-cycle-clause-fault
returns-in_err-cycle-clause-fault c =
    let s = told c.args.params 0 [] [] [] [] in
    passed-on _ c.args.file.now c.from_residual.result c.in_err-cycle.field-0.0 c.from_residual.ensures.1 (λ x e. e)
    (is-faulty parts.Cycle c.args.file.now s c.args.left.now c.split_at.result.0.now c.split_at.result.1.now 4 c.in_err-cycle.field-0.0 c.requires.stands
    c.split_at.ensures.front c.split_at.ensures.back (omega (arith, c.if-left-lt4.false)) refl (c.in_err-cycle.ensures.fault s))
