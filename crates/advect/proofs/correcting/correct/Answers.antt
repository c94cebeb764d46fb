use Rattle.std.proofs.Common.{◌≡◌, ℕ, ◌*◌, ◌/◌, ◌<◌, length, arith}
use Rattle.block_fields.specs.Blocks.{BlockState}
use Rattle.advect.specs.FaceFluxes.{FaceFluxState}
use Rattle.advect.specs.FluxPieces.{FluxPieceState, IsCorrected}
use Rattle.advect.specs.Lemmas.Corrections.{CorrectsBetween}
use Rattle.advect.proofs.Corrected.{rank-within}
use Rattle.advect.proofs.correcting.correct.Goals as goal

-- all cells behind the piece are corrected
all-corrected : (faces : FaceFluxState) (piece : FluxPieceState) (b new : BlockState) (F : ℕ) → 0 < piece.edge / 2 → F ≡ length b.amounts →
    CorrectsBetween faces piece 0 (F * (piece.edge / 2) * (piece.edge / 2)) b new → IsCorrected faces piece b new
all-corrected faces piece b new F some e w = record {
  place = w.place;
  edge = w.edge;
  depth = w.depth;
  ghosts = w.ghosts;
  before = w.before;
  fields = w.fields;
  behind = λ f x y z hf hx hy hz k. w.behind f x y z hf hx hy hz k (omega arith) (rank-within piece some f x y z F (omega (arith, e, hf)));
  elsewhere = λ f x y z hf hx hy hz no. w.elsewhere f x y z hf hx hy hz (λ c low high. no c);
}

pub returns-clause-corrected : goal.returns-clause-corrected
returns-clause-corrected c =
    let e = c.fields-field-end.ensures.fields in
    let limits = c.fields-field-end.ensures.limits in
    let least = limits.least in
    let F : c.loop-field.field ≡ length c.args.block.now.amounts = omega (arith, e, c.loop-field-test.false, c.loop-field.auto.field-end, c.requires.same_fields) in
    all-corrected c.args.faces.now c.args.piece.now c.args.block.now c.loop-field.block c.loop-field.field (omega (arith, least)) F c.loop-field.invariant
