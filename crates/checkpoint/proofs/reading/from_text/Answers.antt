-- The text: not there whole, at fault, or the next part.
use Rattle.std.proofs.Common.{ℕ, [], replicate, sym, subst, arith}
use Rattle.std.proofs.lemmas.List.{length-replicate}
use Rattle.checkpoint.specs.Lemmas.Stages.{EndsRead, only_text, told}
use Rattle.checkpoint.specs.declared.part.Part.TheVariants as parts
use Rattle.checkpoint.proofs.StageParts.{after-text, text-ends}
use Rattle.checkpoint.proofs.Stages.{is-short, passed-on}
use Rattle.checkpoint.proofs.reading.from_text.Goals as goal

pub returns-then-left-size-clause-fault : goal.returns-then-left-size-clause-fault
returns-then-left-size-clause-fault c =
    subst (EndsRead c.args.file.now) (sym c.truncated.ensures.fault)
    (is-short parts.Text c.args.file.now (told (only_text (replicate c.args.size 0)) 0 [] [] [] []) c.args.left.now c.requires.stands
    (omega (arith, c.if-left-size.true, length-replicate {A = ℕ} c.args.size 0)))

pub returns-in_err-params-clause-fault : goal.returns-in_err-params-clause-fault
returns-in_err-params-clause-fault c =
    passed-on _ c.args.file.now c.from_residual.result c.in_err-params.field-0.0 c.from_residual.ensures.1 (λ x e. e)
    (text-ends c.args.file.now c.args.left.now c.split_at.result.0.now c.split_at.result.1.now c.args.size c.in_err-params.field-0.0 c.requires.stands
    c.split_at.ensures.front c.split_at.ensures.back (omega (arith, c.if-left-size.false)) c.in_err-params.ensures.fault)

pub from_cycle-requires : goal.from_cycle-requires
from_cycle-requires c = record {
  stands = after-text c.args.file.now c.args.left.now c.split_at.result.0.now c.split_at.result.1.now c.args.size c.in_ok-params.params c.requires.stands
      c.split_at.ensures.front c.split_at.ensures.back (omega (arith, c.if-left-size.false)) c.in_ok-params.ensures.sound c.in_ok-params.ensures.text;
}
