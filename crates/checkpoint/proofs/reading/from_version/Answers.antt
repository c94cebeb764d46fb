-- The version: not there whole, at fault, or the next part.
use Rattle.std.proofs.Common.{[], ◌∷◌, refl, sym, subst, arith}
use Rattle.checkpoint.specs.Lemmas.Stages.{EndsRead, only_text, told}
use Rattle.checkpoint.specs.declared.part.Part.TheVariants as parts
use Rattle.checkpoint.proofs.Stages.{is-faulty, is-short, passed-on}
use Rattle.checkpoint.proofs.Stages.{goes-on}
use Rattle.checkpoint.proofs.reading.from_version.Goals as goal

pub returns-then-left-lt2-clause-fault : goal.returns-then-left-lt2-clause-fault
returns-then-left-lt2-clause-fault c =
    subst (EndsRead c.args.file.now) (sym c.truncated.ensures.fault)
    (is-short parts.Version c.args.file.now (told (only_text []) 0 [] [] [] []) c.args.left.now c.requires.stands c.if-left-lt2.true)

pub returns-in_err-version-clause-fault : goal.returns-in_err-version-clause-fault
returns-in_err-version-clause-fault c =
    let s = told (only_text []) 0 [] [] [] [] in
    passed-on _ c.args.file.now c.from_residual.result c.in_err-version.field-0.0 c.from_residual.ensures.1 (λ x e. e)
    (is-faulty parts.Version c.args.file.now s c.args.left.now c.split_at.result.0.now c.split_at.result.1.now 2 c.in_err-version.field-0.0 c.requires.stands
    c.split_at.ensures.front c.split_at.ensures.back (omega (arith, c.if-left-lt2.false)) refl (c.in_err-version.ensures.fault s))

pub from_text_length-requires : goal.from_text_length-requires
from_text_length-requires c =
    let s = told (only_text []) 0 [] [] [] [] in
    record {
      stands = goes-on parts.Version parts.TextLength (parts.Text ∷ parts.Cycle ∷ parts.LeafCount ∷ parts.Places ∷ parts.Amounts ∷ parts.Totals ∷ parts.Gone ∷ []) c.args.file.now s s c.args.left.now
          c.split_at.result.0.now c.split_at.result.1.now 2 c.requires.stands c.split_at.ensures.front c.split_at.ensures.back refl refl refl (tt, tt) tt c.in_ok-version.ensures.sound.bytes_are;
    }
