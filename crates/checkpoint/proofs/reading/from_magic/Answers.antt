-- The beginning of a file: not there whole, at fault, or the next part.
use Rattle.std.proofs.Common.{[], ◌∷◌, refl, sym, subst, arith}
use Rattle.checkpoint.specs.Lemmas.Stages.{EndsRead, only_text, told}
use Rattle.checkpoint.specs.declared.part.Part.TheVariants as parts
use Rattle.checkpoint.proofs.Stages.{begins, goes-on, is-faulty, is-short, passed-on}
use Rattle.checkpoint.proofs.reading.from_magic.Goals as goal

pub returns-then-bytes-lt8-clause-fault : goal.returns-then-bytes-lt8-clause-fault
returns-then-bytes-lt8-clause-fault c =
    let s = told (only_text []) 0 [] [] [] [] in
    subst (EndsRead c.args.bytes.now) (sym c.truncated.ensures.fault) (is-short parts.Magic c.args.bytes.now s c.args.bytes.now (begins c.args.bytes.now s) c.if-bytes-lt8.true)

pub returns-in_err-magic-clause-fault : goal.returns-in_err-magic-clause-fault
returns-in_err-magic-clause-fault c =
    let s = told (only_text []) 0 [] [] [] [] in
    passed-on _ c.args.bytes.now c.from_residual.result c.in_err-magic.field-0.0 c.from_residual.ensures.1 (λ x e. e)
    (is-faulty parts.Magic c.args.bytes.now s c.args.bytes.now c.split_at.result.0.now c.split_at.result.1.now 8 c.in_err-magic.field-0.0 (begins c.args.bytes.now s)
    c.split_at.ensures.front c.split_at.ensures.back (omega (arith, c.if-bytes-lt8.false)) refl (c.in_err-magic.ensures.fault s))

pub from_version-requires : goal.from_version-requires
from_version-requires c =
    let s = told (only_text []) 0 [] [] [] [] in
    record {
      stands = goes-on parts.Magic parts.Version (parts.TextLength ∷ parts.Text ∷ parts.Cycle ∷ parts.LeafCount ∷ parts.Places ∷ parts.Amounts ∷ parts.Totals ∷ parts.Gone ∷ []) c.args.bytes.now s s c.args.bytes.now
          c.split_at.result.0.now c.split_at.result.1.now 8 (begins c.args.bytes.now s) c.split_at.ensures.front c.split_at.ensures.back refl refl refl tt tt c.in_ok-magic.ensures.sound;
    }
