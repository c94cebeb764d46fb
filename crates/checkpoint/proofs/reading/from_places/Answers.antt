-- The places: not there whole, at fault, or the next part.
use Rattle.std.proofs.Common.{[], replicate, sym, subst, ◌∙◌, arith}
use Rattle.std.proofs.lemmas.List.{length-replicate}
use Rattle.checkpoint.specs.Lemmas.Stages.{EndsRead, some_place, told}
use Rattle.checkpoint.specs.declared.part.Part.TheVariants as parts
use Rattle.checkpoint.proofs.StageParts.{after-places, places-end}
use Rattle.checkpoint.proofs.Stages.{is-short, passed-on}
use Rattle.checkpoint.proofs.reading.from_places.Goals as goal

pub returns-then-left-size-clause-fault : goal.returns-then-left-size-clause-fault
returns-then-left-size-clause-fault c =
    subst (EndsRead c.args.file.now) (sym c.truncated.ensures.fault)
    (is-short parts.Places c.args.file.now (told c.args.params c.args.cycle (replicate c.args.count some_place) [] [] []) c.args.left.now c.requires.stands
    (omega (arith, c.if-left-size.true, length-replicate c.args.count some_place)))

pub returns-in_err-set-clause-fault : goal.returns-in_err-set-clause-fault
returns-in_err-set-clause-fault c =
    passed-on _ c.args.file.now c.from_residual.result c.in_err-set.field-0.0 c.from_residual.ensures.1 (λ x e. e)
    (places-end c.args.file.now c.args.left.now c.split_at.result.0.now c.split_at.result.1.now c.args.params c.args.cycle c.args.count c.domain.result.now c.in_err-set.field-0.0 c.requires.stands
    c.split_at.ensures.front c.split_at.ensures.back (omega (arith, c.if-left-size.false)) c.domain.ensures.domain c.in_err-set.ensures.fault)

pub from_amounts-requires-clause-stands : goal.from_amounts-requires-clause-stands
from_amounts-requires-clause-stands c =
    after-places c.args.file.now c.args.left.now c.split_at.result.0.now c.split_at.result.1.now c.args.params c.args.cycle c.args.count c.in_ok-set.set c.requires.stands
    c.split_at.ensures.front c.split_at.ensures.back (omega (arith, c.if-left-size.false)) c.in_ok-set.ensures.sound (c.in_ok-set.ensures.grid ∙ c.domain.ensures.domain) c.in_ok-set.ensures.places
