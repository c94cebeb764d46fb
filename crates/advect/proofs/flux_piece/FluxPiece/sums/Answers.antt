use Rattle.std.proofs.Common.{◌≡◌, ℕ, ◌*◌, ◌/◌, ◌≤◌, List, length, slice_index, sym, subst}
use Rattle.advect.specs.FluxPieces.{greatest_sum}
use Rattle.advect.proofs.Insides.{sums-are}
use Rattle.advect.proofs.flux_piece.FluxPiece.sums.Goals as goal

pub returns-clause-faces : goal.returns-clause-faces
returns-clause-faces c =
    subst (λ (q : List ℕ). length q ≡ c.args.self.now.edge / 2 * (c.args.self.now.edge / 2)) (sym c.as_slice.ensures.value)
    (sums-are c.self.inside c.self.invariant c.args.self.now c.self.view_is c.args.field c.requires.field c.index.result.now c.index.ensures).0

pub returns-clause-small : goal.returns-clause-small
returns-clause-small c =
    subst (λ (q : List ℕ). (k : ℕ) → slice_index q k ≤ greatest_sum) (sym c.as_slice.ensures.value)
    (sums-are c.self.inside c.self.invariant c.args.self.now c.self.view_is c.args.field c.requires.field c.index.result.now c.index.ensures).1
