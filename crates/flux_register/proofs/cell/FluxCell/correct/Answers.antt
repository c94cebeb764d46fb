-- The block is what a correction leaves.
use Rattle.std.proofs.Common.{◌≡◌, subst, sym, ap}
use Rattle.block_fields.specs.Blocks.{BlockState}
use Rattle.flux_register.specs.Cells.{FluxState}
use Rattle.flux_register.specs.React.{corrected_block}
use Rattle.flux_register.specs.Lemmas.Sending.{CanCorrect}
use Rattle.flux_register.proofs.Corrections.{corrected-is}
use Rattle.flux_register.proofs.cell.FluxCell.correct.Goals as goal

pub correct-requires-clause-stays : goal.correct-requires-clause-stays
correct-requires-clause-stays c = (subst (λ (x : FluxState). CanCorrect x c.args.piece.now) (sym c.self.view_is) c.requires.fits).stays

pub returns : goal.returns
returns c =
    let cell = c.self.inside in
    let q = c.args.piece.now in
    let fits = subst (λ (x : FluxState). CanCorrect x q) (sym c.self.view_is) c.requires.fits in
    let is = corrected-is cell.faces q cell.block fits.limits c.correct.new.block c.correct.ensures.limits c.correct.ensures.corrected in
    let with_block : BlockState → FluxState = λ b. record { block = b; faces = cell.faces; owes = cell.owes.items; owed = cell.owed.items; started = cell.started } in
    record {
      cell = subst (λ (x : FluxState). with_block c.correct.new.block ≡ record x { block = corrected_block x.faces q x.block }) c.self.view_is (ap with_block is);
    }
