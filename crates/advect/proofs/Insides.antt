-- Face fluxes and flux pieces by their fields in memory.
use Rattle.std.proofs.Common.{◌≡◌, ℕ, ◌*◌, ◌/◌, ◌<◌, ◌≤◌, List, slice_index, get_or, length, map, sym, subst, arith, Vec, Global}
use Rattle.block_fields.proofs.Fields.{field-at}
use Rattle.advect.specs.FaceFluxes.{AreFluxes, FaceFluxState, IsFaceFluxes, face_fluxes}
use Rattle.advect.specs.FluxPieces.{FluxPieceState, IsFluxPiece, flux_piece, greatest_sum}
use Rattle.advect.specs.declared.face_fluxes.FaceFluxes.TheInside.{Inside}
use Rattle.advect.specs.declared.flux_piece.FluxPiece.TheInside.{Inside as PieceInside}

-- the elements of vectors
abbrev pub elements : List (Vec ℕ Global) → List (List ℕ)
elements vs = map (λ (v : Vec ℕ Global). v.items) vs

-- the face fluxes that the fields are
abbrev pub seen_as : Inside → FaceFluxState
seen_as f = face_fluxes f.edge f.fields f.velocity f.den (elements f.low.items) (elements f.high.items)

module _ (f : Inside) (k : IsFaceFluxes (seen_as f)) (s : FaceFluxState) (view : seen_as f ≡ s) (at : ℕ) (h : at < 3 * s.fields) (v : Vec ℕ Global) where
  there : at < 3 * f.fields
  there = subst (λ (t : FaceFluxState). at < 3 * t.fields) (sym view) h

  pub high-are : v ≡ get_or f.high.items at v → AreFluxes s.edge v.items
  high-are read =
      let t = there in
      let l = k.all_high in
      subst (λ (t : FaceFluxState). AreFluxes t.edge v.items) view (k.each_high at v.items (field-at (Vec ℕ Global) (λ v. v.items) f.high.items at v read (omega arith)))

  pub low-are : v ≡ get_or f.low.items at v → AreFluxes s.edge v.items
  low-are read =
      let t = there in
      let l = k.all_low in
      subst (λ (t : FaceFluxState). AreFluxes t.edge v.items) view (k.each_low at v.items (field-at (Vec ℕ Global) (λ v. v.items) f.low.items at v read (omega arith)))

abbrev pub piece_as : PieceInside → FluxPieceState
piece_as p = flux_piece p.to p.from p.place p.side p.edge (elements p.sums.items)

pub sums-are : (p : PieceInside) → IsFluxPiece (piece_as p) → (s : FluxPieceState) → piece_as p ≡ s → (f : ℕ) → f < length s.sums → (v : Vec ℕ Global) → v ≡ get_or p.sums.items f v →
    (length v.items ≡ s.edge / 2 * (s.edge / 2)) × ((k : ℕ) → slice_index v.items k ≤ greatest_sum)
sums-are p k s view f h v read =
    let there : f < length (elements p.sums.items) = subst (λ (t : FluxPieceState). f < length t.sums) (sym view) h in
    subst (λ (t : FluxPieceState). (length v.items ≡ t.edge / 2 * (t.edge / 2)) × ((k : ℕ) → slice_index v.items k ≤ greatest_sum)) view
    (k.each f v.items (field-at (Vec ℕ Global) (λ v. v.items) p.sums.items f v read there))
