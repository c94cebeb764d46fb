-- A piece that is filed field by field.
use Rattle.std.proofs.Common.{◌≡◌, ℕ, ◌+◌, ◌<◌, ◌≤◌, refl, sym, ap, ◌∙◌, subst, arith, inl, inr, List, [], slice_index_or, slice_set, set, length, map, ◌&&◌, nat_lt}
use Rattle.std.specs.List.{range_with_len}
use Rattle.std.proofs.lemmas.Bool.{and_parts, cases_eq, ltb-true}
use Rattle.std.proofs.lemmas.List.{ext_get_or, get_or-set_same, get_or-set_other, length-set}
use Rattle.std.proofs.lemmas.List.FromFn.{length-map-range_with_len, get_or-map-range_with_len}
use Rattle.std.proofs.lemmas.Option.{slice_get-get_or}
use Rattle.block_fields.specs.Blocks.{BlockState, shell_of, with_ghosts}
use Rattle.ghost_pieces.specs.Boxes.{box_size}
use Rattle.ghost_pieces.specs.Pieces.{PieceState, FitsSize, box_of}
use Rattle.ghost_pieces.specs.Filing.{filed_ghosts, number_of, with_piece}
use Rattle.ghost_pieces.specs.Lemmas.FiledFields.{HasFields}

module _ (a : BlockState) (p : PieceState) where
  pub fields_none : HasFields a p 0 a
  fields_none = record { same = refl; long = refl; filed = λ f h. absurd (omega arith); rest = λ f h. refl }

  pub fields_more : (k : ℕ) (b : BlockState) (w : List ℕ) → k < length a.ghosts → HasFields a p k b → w ≡ filed_ghosts a p k → HasFields a p (k + 1) (with_ghosts b k (number_of p.region.direction) w)
  fields_more k b w h i e = record {
    same = ap (λ (c : BlockState). record c { ghosts = slice_set b.ghosts k (slice_set (shell_of b k) (number_of p.region.direction) w) }) i.same;
    long = length-set b.ghosts k (set (shell_of b k) (number_of p.region.direction) w) ∙ i.long;
    filed = λ f l.
        elim (cases_eq f k) [
          | inl same ↦ subst (λ f. shell_of (with_ghosts b k (number_of p.region.direction) w) f ≡ slice_set (shell_of a f) (number_of p.region.direction) (filed_ghosts a p f)) (sym same) now
          | inr other ↦ apart f other ∙ i.filed f (omega arith)
        ];
    rest = λ f l. apart f (λ e. omega arith) ∙ i.rest f (omega arith);
  }
    where
      now : shell_of (with_ghosts b k (number_of p.region.direction) w) k ≡ slice_set (shell_of a k) (number_of p.region.direction) (filed_ghosts a p k)
      now =
          get_or-set_same b.ghosts k (set (shell_of b k) (number_of p.region.direction) w) [] (omega (arith, i.long))
          ∙ ap (λ s. set s (number_of p.region.direction) w) (i.rest k (omega arith))
          ∙ ap (set (shell_of a k) (number_of p.region.direction)) e

      apart : (f : ℕ) → (f ≡ k → ⊥) → shell_of (with_ghosts b k (number_of p.region.direction) w) f ≡ shell_of b f
      apart f other = get_or-set_other b.ghosts k f (set (shell_of b k) (number_of p.region.direction) w) [] other

  pub fields_all : (k : ℕ) (b : BlockState) → length a.ghosts ≤ k → HasFields a p k b → b ≡ with_piece a p
  fields_all k b h i =
      let f = λ (f : ℕ). slice_set (shell_of a f) (number_of p.region.direction) (filed_ghosts a p f) in
      let n = length a.ghosts in
      let all : b.ghosts ≡ map f (range_with_len 0 n) = ext_get_or [] b.ghosts (map f (range_with_len 0 n)) (i.long ∙ sym (length-map-range_with_len f 0 n)) (λ g l.
      let m : g < n = omega (arith, i.long) in
      i.filed g (omega arith) ∙ sym (get_or-map-range_with_len f 0 n g g [] m (omega arith))) in
      i.same ∙ ap (λ s. record a { ghosts = s }) all

-- the sizes of a piece's list and box
module _ (n d fields : ℕ) (p : PieceState) (fits : FitsSize n d fields p) where
  pub list_size : (f : ℕ) → f < fields → length (slice_index_or p.amounts f []) ≡ box_size (box_of n d p)
  list_size f h = fits.all_cells f (slice_index_or p.amounts f []) (slice_get-get_or p.amounts f [] (omega (arith, fits.one_each)))

  pub box_some : (0 < (box_of n d p).x.count) × (0 < (box_of n d p).y.count) × (0 < (box_of n d p).z.count)
  box_some =
      let b = box_of n d p in
      let o = and_parts (nat_lt 0 b.x.count && nat_lt 0 b.y.count) (nat_lt 0 b.z.count) fits.cells in
      let u = and_parts (nat_lt 0 b.x.count) (nat_lt 0 b.y.count) o.0 in
      (ltb-true 0 b.x.count u.0, ltb-true 0 b.y.count u.1, ltb-true 0 b.z.count o.1)
