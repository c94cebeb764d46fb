-- A piece that is filled field by field.
use Rattle.std.proofs.Common.{◌≡◌, ℕ, ◌+◌, ◌<◌, ◌≤◌, true, sym, ap, ◌∙◌, subst, arith, inl, inr, List, [], slice_index_or, slice_set, length, map, Bool}
use Rattle.std.proofs.lemmas.Bool.{cases_eq}
use Rattle.std.proofs.lemmas.List.{ext_get_or, get_or-map, get_or-set_same, get_or-set_other, length-map, length-set}
use Rattle.block_index.specs.Beyond.{Offset}
use Rattle.block_index.specs.Places.{Cube, Grid}
use Rattle.block_fields.specs.Blocks.{BlockState, amounts_of}
use Rattle.ghost_pieces.specs.Boxes.{has_region, region_box, reached_box}
use Rattle.ghost_pieces.specs.Sent.{piece_amounts}
use Rattle.ghost_pieces.specs.Pieces.{PieceState, filled}
use Rattle.ghost_pieces.specs.Lemmas.Fills.{HasSamples}
use Rattle.ghost_pieces.proofs.PieceParts.{Boxed}
use Rattle.ghost_pieces.proofs.SameBoxes.{reached-region}

module _ (grid : Grid) (b : BlockState) (p : PieceState) where
  given : List ℕ → List ℕ
  given q = piece_amounts grid b.edge b.depth p.receiver p.region.direction p.sender q

  pub samples_more : (k : ℕ) (q : PieceState) (w : List ℕ) → k < length p.amounts → HasSamples grid b p k q → w ≡ piece_amounts grid b.edge b.depth p.receiver p.region.direction p.sender (amounts_of b k) → HasSamples grid b p (k + 1) (record q { amounts = slice_set q.amounts k w })
  samples_more k q w h i e = record {
    same = ap (λ (c : PieceState). record c { amounts = slice_set q.amounts k w }) i.same;
    long = length-set q.amounts k w ∙ i.long;
    filled = λ f l.
        elim (cases_eq f k) [
          | inl same ↦
              subst (λ f. slice_index_or (slice_set q.amounts k w) f [] ≡ piece_amounts grid b.edge b.depth p.receiver p.region.direction p.sender (amounts_of b f)) (sym same)
              (get_or-set_same q.amounts k w [] (omega (arith, i.long)) ∙ e)
          | inr other ↦ get_or-set_other q.amounts k f w [] other ∙ i.filled f (omega arith)
        ];
    rest = λ f l. get_or-set_other q.amounts k f w [] (λ e. omega arith) ∙ i.rest f (omega arith);
  }

  pub samples_all : (k : ℕ) (q : PieceState) → length p.amounts ≡ length b.amounts → length p.amounts ≤ k → HasSamples grid b p k q → q ≡ filled grid b p
  samples_all k q l h i =
      let f = piece_amounts grid b.edge b.depth p.receiver p.region.direction p.sender in
      let all : q.amounts ≡ map f b.amounts = ext_get_or [] q.amounts (map f b.amounts) (i.long ∙ l ∙ sym (length-map b.amounts f)) (λ g m.
      i.filled g (omega (arith, i.long)) ∙ sym (get_or-map f b.amounts g [] [] (omega (arith, i.long)))) in
      i.same ∙ ap (λ a. record p { amounts = a }) all

pub boxed-region : (grid : Grid) (n d : ℕ) (b s : Cube) (dir : Offset) (q : List ℕ) (fx cx x fy cy y fz cz z : ℕ) (rx ry rz : Bool) → has_region grid n d b dir s ≡ true → Boxed grid n d b s dir q fx cx x fy cy y fz cz z rx ry rz (reached_box grid n d b dir s) → Boxed grid n d b s dir q fx cx x fy cy y fz cz z rx ry rz (region_box n d b dir s)
boxed-region grid n d b s dir q fx cx x fy cy y fz cz z rx ry rz h e = subst (Boxed grid n d b s dir q fx cx x fy cy y fz cz z rx ry rz) (reached-region grid n d b dir s h) e
