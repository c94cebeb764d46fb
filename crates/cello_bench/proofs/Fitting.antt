-- Pieces that fit, and the blocks of a mesh.
use Rattle.std.proofs.Common.{◌≡◌, ℕ, zero, suc, ◌*◌, ◌%◌, ◌<◌, ◌≤◌, List, [], ◌∷◌, ◌++◌, Some, slice_get, slice_index_or, slice_set, length, map, inl, inr, refl, sym, ap, ◌∙◌, subst, arith}
use Rattle.std.proofs.lemmas.Option.{none-some, slice_get-get_or}
use Rattle.phase_core.specs.Lemmas.Lookups.{get-set_cases}
use Rattle.block_index.specs.Places.{Grid}
use Rattle.leaf_set.specs.Tiling.{Tiling, IsTiling}
use Rattle.block_fields.specs.Blocks.{BlockState, IsBlock}
use Rattle.ghost_pieces.specs.Pieces.{PieceState, AreOwedPieces, filled}
use Rattle.ghost_pieces.proofs.PieceFacts.{filled_size}
use Rattle.prolong_restrict.specs.Families.{FieldsFit}
use Rattle.split_join.specs.Applying.{AreBlocksOfSet}
use Rattle.split_join.proofs.Adapted.{fields_fit}
use Rattle.ghost_pieces.proofs.Lists.{member-cons, member-split}
use Rattle.refresh_phase.proofs.GhostFacts.{facts}
use Rattle.cello_bench.specs.Inputs.{AllFit, Fits}

module _ (set : Tiling) (n depth fields : ℕ) where
  pub AllFit-none : AllFit set n depth fields []
  AllFit-none k p e = absurd (none-some p e)

  pub AllFit-rest : (p : PieceState) (ps : List PieceState) → AllFit set n depth fields (p ∷ ps) → AllFit set n depth fields ps
  AllFit-rest p ps all k q e = all (suc k) q e

  pub AllFit-push : (ps : List PieceState) (p : PieceState) → AllFit set n depth fields ps → Fits set n depth fields p → AllFit set n depth fields (ps ++ p ∷ [])
  AllFit-push ps p all fits k q e =
      elim (member-split ps (p ∷ []) q (k, e)) [
        | inl m ↦ all m.0 q m.1
        | inr m ↦ elim (member-cons p q [] m) [ inl f ↦ subst (Fits set n depth fields) f fits | inr m ↦ absurd (none-some q m.1) ]
      ]

  -- what a leaf owes fits
  pub AllFit-owed : (i : ℕ) (ps : List PieceState) → IsTiling set → n % 2 ≡ 0 → 2 * depth ≤ n → 0 < n → AreOwedPieces set.grid n depth fields set.places i ps → AllFit set n depth fields ps
  AllFit-owed i ps tiles even deep some owed k p e =
      let between = facts.between set.grid set.places n depth fields i k ps p tiles.domain tiles.mesh tiles.balanced even deep some owed e in
      let fits = facts.fits set.grid set.places n depth fields i k ps p tiles.domain tiles.mesh tiles.balanced even deep some owed e in
      record { leaves = between.2; size = fits.0; region = fits.1 }

-- an element of a list that is read
pub read_at : {A : Type 0} (xs : List A) (i : ℕ) (x : A) → i < length xs → x ≡ slice_index_or xs i x → slice_get xs i ≡ Some x
read_at xs i x within e = slice_get-get_or xs i x within ∙ ap Some (sym e)

module _ (set : Tiling) (n m d e f g : ℕ) (edge : n ≡ m) (depth : d ≡ e) (fields : f ≡ g) where
  pub Fits-size : (p : PieceState) → Fits set n d f p → Fits set m e g p
  Fits-size p fits = subst (λ u. Fits set m e u p) fields (subst (λ u. Fits set m u f p) depth (subst (λ u. Fits set u d f p) edge fits))

  pub AllFit-size : (ps : List PieceState) → AllFit set n d f ps → AllFit set m e g ps
  AllFit-size ps all k p at = Fits-size p (all k p at)

-- a filled piece fits as the empty one
pub Fits-filled : (set : Tiling) (grid : Grid) (b : BlockState) (p : PieceState) → Fits set b.edge b.depth (length b.amounts) p → Fits set b.edge b.depth (length b.amounts) (filled grid b p)
Fits-filled set grid b p f = record {
  leaves = record { receives = f.leaves.receives; sends = f.leaves.sends };
  size = filled_size grid (length b.amounts) b p refl f.size;
  region = record { inside = f.region.inside; reached = f.region.reached };
}

-- one piece is changed
pub AllFit-set : (set : Tiling) (n d f : ℕ) (ps : List PieceState) (i : ℕ) (old new : PieceState) → AllFit set n d f ps → slice_get ps i ≡ Some old → Fits set n d f new → AllFit set n d f (slice_set ps i new)
AllFit-set set n d f ps i old new all at fits k p e =
    elim (get-set_cases ps i k old new p at e) [
      | inl h ↦ subst (Fits set n d f) (sym h.1) fits
      | inr h ↦ all k p h.1
    ]

-- no field of a block adds up to too much
pub few_in_fields : (set : Tiling) (blocks : List BlockState) → IsTiling set → AreBlocksOfSet set blocks → FieldsFit blocks
few_in_fields set blocks t size = fields_fit set.grid set.places t.domain t.mesh t.balanced size.0 size.1 size.2 blocks size.3 size.4
