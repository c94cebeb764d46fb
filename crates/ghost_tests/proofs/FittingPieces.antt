-- Pieces that fit, and amounts that add up to few.
use Rattle.std.proofs.Common.{◌≡◌, ℕ, zero, suc, ◌*◌, ◌%◌, ◌<◌, ◌≤◌, List, [], ◌∷◌, Some, slice_get, slice_index_or, length, sum, refl, sym, ap, ◌∙◌, subst, arith}
use Rattle.std.proofs.lemmas.Option.{slice_get-get_or}
use Rattle.block_index.specs.Places.{Grid}
use Rattle.leaf_set.specs.Tiling.{Tiling, IsTiling}
use Rattle.block_fields.specs.Blocks.{BlockState, amounts_of}
use Rattle.ghost_pieces.specs.Pieces.{PieceState, AreOwedPieces, FitsSize, filled}
use Rattle.ghost_pieces.proofs.PieceFacts.{filled_size}
use Rattle.refresh_phase.proofs.GhostFacts.{facts}
use Rattle.ghost_tests.specs.Delivering.{AllFit}

pub AllFit-rest : (grid : Grid) (n depth : ℕ) (p : PieceState) (ps : List PieceState) → AllFit grid n depth (p ∷ ps) → AllFit grid n depth ps
AllFit-rest grid n depth p ps all k q e = all (suc k) q e

-- the sizes of a block that are known by comparing
pub FitsSize-same : (n m d e f g : ℕ) (p : PieceState) → n ≡ m → d ≡ e → f ≡ g → FitsSize n d f p → FitsSize m e g p
FitsSize-same n m d e f g p edge depth fields fits = subst (λ u. FitsSize m e u p) fields (subst (λ u. FitsSize m u f p) depth (subst (λ u. FitsSize u d f p) edge fits))

-- what a leaf owes fits
pub AllFit-owed : (set : Tiling) (n depth fields i : ℕ) (ps : List PieceState) → IsTiling set → n % 2 ≡ 0 → 2 * depth ≤ n → 0 < n → fields ≡ 2 → AreOwedPieces set.grid n depth fields set.places i ps → AllFit set.grid n depth ps
AllFit-owed set n depth fields i ps tiles even deep some two owed k p e =
    let fits = facts.fits set.grid set.places n depth fields i k ps p tiles.domain tiles.mesh tiles.balanced even deep some owed e in
    record { size = FitsSize-same n n depth depth fields 2 p refl refl two fits.0; region = fits.1 }

pub AllFit-size : (grid : Grid) (n m d e : ℕ) (ps : List PieceState) → n ≡ m → d ≡ e → AllFit grid n d ps → AllFit grid m e ps
AllFit-size grid n m d e ps edge depth all = subst (λ u. AllFit grid m u ps) depth (subst (λ u. AllFit grid u d ps) edge all)

-- a filled piece fits as the empty one
pub filled_fits : (grid : Grid) (b : BlockState) (n d : ℕ) (p : PieceState) → b.edge ≡ n → b.depth ≡ d → length b.amounts ≡ 2 → FitsSize n d 2 p → FitsSize n d 2 (filled grid b p)
filled_fits grid b n d p edge depth two fits =
    FitsSize-same b.edge n b.depth d 2 2 (filled grid b p) edge depth refl
    (filled_size grid 2 b p two (FitsSize-same n b.edge d b.depth 2 2 p (sym edge) (sym depth) refl fits))

-- an element of a list that is read
pub read_at : {A : Type 0} (xs : List A) (i : ℕ) (x : A) → i < length xs → x ≡ slice_index_or xs i x → slice_get xs i ≡ Some x
read_at xs i x within e = slice_get-get_or xs i x within ∙ ap Some (sym e)

-- ---- sums

past_two : (xs : List (List ℕ)) (f : ℕ) → length xs ≡ 2 → sum (slice_index_or xs (suc (suc f)) []) ≡ 0
past_two [] f h = absurd (omega arith)
past_two (x ∷ []) f h = absurd (omega arith)
past_two (x ∷ y ∷ []) f h = refl
past_two (x ∷ y ∷ z ∷ zs) f h = absurd (omega arith)

pub two_few : (b : BlockState) (most : ℕ) → length b.amounts ≡ 2 → sum (amounts_of b 0) ≤ most → sum (amounts_of b 1) ≤ most → (f : ℕ) → sum (amounts_of b f) ≤ most
two_few b most two first second zero = first
two_few b most two first second (suc zero) = second
two_few b most two first second (suc (suc f)) = let e = past_two b.amounts f two in omega (arith, e)
