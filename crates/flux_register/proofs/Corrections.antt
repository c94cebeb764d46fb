-- The block after a correction: its limits, its amounts, and that it is what a correction leaves.
use Rattle.std.proofs.Common.{◌≡◌, ℕ, ◌+◌, ◌*◌, ◌%◌, ◌<◌, Bool, cond, List, [], Some, length, map, sym, ap, ◌∙◌, subst, arith, inl, inr}
use Rattle.std.specs.Prelude.{slice_get, slice_index, slice_index_or}
use Rattle.std.specs.List.{range_with_len}
use Rattle.std.proofs.lemmas.Bool.{cases_Bool, false≢true}
use Rattle.std.proofs.lemmas.Nat.{mod_below}
use Rattle.std.proofs.lemmas.List.{length-map, get_or-map}
use Rattle.std.proofs.lemmas.List.FromFn.{get_or-map-range_with_len, length-map-range_with_len}
use Rattle.std.proofs.lemmas.Option.{get_or_from_slice_get, slice_get_within}
use Rattle.block_index.specs.Places.{Cube}
use Rattle.block_fields.specs.Blocks.{BlockState, IsBlock, amount_at, amounts_of, number_at}
use Rattle.block_fields.specs.Cells.{block_of, cell_at, cell_number, cells_of}
use Rattle.block_fields.proofs.CellFacts.{cell_number-cell_at, cells_of-has, cells_of-length}
use Rattle.block_fields.proofs.StatesOfBlocks.{lists-filled}
use Rattle.advect.specs.FaceFluxes.{FaceFluxState}
use Rattle.advect.specs.FluxPieces.{FluxPieceState, IsCorrected, corrected, is_behind}
use Rattle.flux_register.specs.React.{corrected_amount, corrected_block}

-- an element of a list over the first numbers
by_number : {A : Type 0} (g : ℕ → A) (n f : ℕ) (x : A) → slice_get (map g (range_with_len 0 n)) f ≡ Some x → (f < n) × (x ≡ g f)
by_number g n f x at =
    let within : f < n = let l = slice_get_within (map g (range_with_len 0 n)) f x at in omega (arith, l, length-map-range_with_len g 0 n) in
    (within, sym (get_or_from_slice_get (map g (range_with_len 0 n)) f x x at) ∙ get_or-map-range_with_len g 0 n f f x within (let e : 0 + f ≡ f = omega arith in e))

module _ (faces : FaceFluxState) (q : FluxPieceState) (b : BlockState) (limits : IsBlock b) where
  abbrev new : BlockState
  new = corrected_block faces q b

  abbrev lists : ℕ → List ℕ
  lists f = map (corrected_amount faces q b f) (cells_of b.edge b.place)

  some : 0 < b.edge
  some = omega (arith, limits.least)

  lists-long : (f : ℕ) → length (lists f) ≡ b.edge * b.edge * b.edge
  lists-long f = length-map (cells_of b.edge b.place) (corrected_amount faces q b f) ∙ cells_of-length b.edge some b.place

  pub corrected-fields : length new.amounts ≡ length b.amounts
  corrected-fields = length-map-range_with_len lists 0 (length b.amounts)

  pub corrected-limits : IsBlock new
  corrected-limits = record {
    even = limits.even;
    least = limits.least;
    most = limits.most;
    shallowest = limits.shallowest;
    deepest = limits.deepest;
    few = omega (arith, limits.few, corrected-fields);
    one_before_each = limits.one_before_each ∙ sym corrected-fields;
    one_shell_each = limits.one_shell_each ∙ sym corrected-fields;
    all_cells = λ f p at. let is = by_number lists (length b.amounts) f p at in ap length is.1 ∙ lists-long f;
    all_before = limits.all_before;
    all_directions = limits.all_directions;
    all_ghosts = limits.all_ghosts;
  }

  -- the amount of a cell
  pub corrected-at : (f : ℕ) (c : Cube) → f < length b.amounts → block_of b.edge c ≡ b.place → slice_index (amounts_of new f) (cell_number b.edge c) ≡ corrected_amount faces q b f c
  corrected-at f c h place =
      let xs = cells_of b.edge b.place in
      let at : slice_get xs (cell_number b.edge c) ≡ Some c = subst (λ (p : Cube). slice_get (cells_of b.edge p) (cell_number b.edge c) ≡ Some c) place (cells_of-has b.edge some c) in
      let within : cell_number b.edge c < length xs = slice_get_within xs (cell_number b.edge c) c at in
      let list : amounts_of new f ≡ lists f = get_or-map-range_with_len lists 0 (length b.amounts) f f [] h (let e : 0 + f ≡ f = omega arith in e) in
      ap (λ (l : List ℕ). slice_index l (cell_number b.edge c)) list
      ∙ (get_or-map (corrected_amount faces q b f) xs (cell_number b.edge c) c 0 within
      ∙ ap (corrected_amount faces q b f) (get_or_from_slice_get xs (cell_number b.edge c) c c at))

  -- the same by the edge that all blocks have
  pub corrected-there : (m f : ℕ) (c : Cube) → b.edge ≡ m → f < length b.amounts → block_of m c ≡ b.place →
      slice_index (amounts_of new f) (cell_number m c)
      ≡ cond (is_behind q (c.x % m) (c.y % m) (c.z % m)) (corrected faces q f (c.x % m) (c.y % m) (c.z % m) (slice_index (amounts_of b f) (cell_number m c))) (slice_index (amounts_of b f) (cell_number m c))
  corrected-there m f c same h = subst (λ (t : ℕ). block_of t c ≡ b.place → slice_index (amounts_of new f) (cell_number t c)
      ≡ cond (is_behind q (c.x % t) (c.y % t) (c.z % t)) (corrected faces q f (c.x % t) (c.y % t) (c.z % t) (slice_index (amounts_of b f) (cell_number t c))) (slice_index (amounts_of b f) (cell_number t c))) same (corrected-at f c h)

  -- what a correction leaves
  pub corrected-is : (other : BlockState) → IsBlock other → IsCorrected faces q b other → other ≡ new
  corrected-is other limits' is =
      let edge : other.edge ≡ b.edge = is.edge in
      let full : (f : ℕ) (p : List ℕ) → slice_get other.amounts f ≡ Some p → length p ≡ b.edge * b.edge * b.edge = λ f p at. limits'.all_cells f p at ∙ ap (λ (k : ℕ). k * k * k) edge in
      same other is.place is.edge is.depth is.ghosts is.before (lists-filled other.amounts b.edge (length b.amounts) b.place (corrected_amount faces q b) some is.fields full value)
    where
      same : (o : BlockState) → o.place ≡ b.place → o.edge ≡ b.edge → o.depth ≡ b.depth → o.ghosts ≡ b.ghosts → o.before ≡ b.before → o.amounts ≡ new.amounts → o ≡ new
      same o p e d g w a =
          ap (λ (t : Cube). record { place = t; edge = o.edge; depth = o.depth; amounts = o.amounts; before = o.before; ghosts = o.ghosts }) p
          ∙ (ap (λ (t : ℕ). record { place = b.place; edge = t; depth = o.depth; amounts = o.amounts; before = o.before; ghosts = o.ghosts }) e
          ∙ (ap (λ (t : ℕ). record { place = b.place; edge = b.edge; depth = t; amounts = o.amounts; before = o.before; ghosts = o.ghosts }) d
          ∙ (ap (λ (t : List (List ℕ)). record { place = b.place; edge = b.edge; depth = b.depth; amounts = t; before = o.before; ghosts = o.ghosts }) a
          ∙ (ap (λ (t : List (List ℕ)). record { place = b.place; edge = b.edge; depth = b.depth; amounts = new.amounts; before = t; ghosts = o.ghosts }) w
          ∙ ap (λ (t : List (List (List ℕ))). record { place = b.place; edge = b.edge; depth = b.depth; amounts = new.amounts; before = b.before; ghosts = t }) g))))

      there : (f : ℕ) (c : Cube) → f < length b.amounts → slice_index (amounts_of other f) (cell_number b.edge c) ≡ corrected_amount faces q b f c
      there f c h =
          let x = c.x % b.edge in let y = c.y % b.edge in let z = c.z % b.edge in
          let lx : x < b.edge = mod_below c.x b.edge some in
          let ly : y < b.edge = mod_below c.y b.edge some in
          let lz : z < b.edge = mod_below c.z b.edge some in
          let read : slice_index (amounts_of other f) (cell_number b.edge c) ≡ amount_at other f x y z = ap (λ (n : ℕ). slice_index (amounts_of other f) (number_at n x y z)) (sym is.edge) in
          elim (cases_Bool (is_behind q x y z)) [
            | inl yes' ↦ read ∙ (is.behind f x y z h lx ly lz yes' ∙ ap (λ (t : Bool). cond t (corrected faces q f x y z (amount_at b f x y z)) (amount_at b f x y z)) (sym yes'))
            | inr not ↦ read ∙ (is.elsewhere f x y z h lx ly lz (λ e. false≢true (sym not ∙ e)) ∙ ap (λ (t : Bool). cond t (corrected faces q f x y z (amount_at b f x y z)) (amount_at b f x y z)) (sym not))
          ]

      value : (f j : ℕ) → f < length b.amounts → j < b.edge * b.edge * b.edge → slice_index (slice_index_or other.amounts f []) j ≡ corrected_amount faces q b f (cell_at b.edge b.place j)
      value f j h k =
          ap (λ (n : ℕ). slice_index (amounts_of other f) n) (sym (cell_number-cell_at b.edge some b.place j k)) ∙ there f (cell_at b.edge b.place j) h
