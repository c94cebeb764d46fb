-- What a block holds after a piece was filed.
use Rattle.std.proofs.Common.{◌≡◌, ℕ, ◌+◌, ◌-◌, ◌*◌, ◌/◌, ◌%◌, ◌<◌, ◌==◌, Bool, true, cond, ◌&&◌, sym, ap, ◌∙◌, subst, arith, inl, inr, ℤ, pos, List, [], Some, slice_get, slice_index, slice_index_or, slice_set, get_or, set, length, map}
use Rattle.std.specs.List.{range_with_len}
use Rattle.std.proofs.lemmas.Bool.{and_from, and_parts, cases_Bool, cases_eq, cond-true, cond-false}
use Rattle.std.proofs.lemmas.Int.{ints}
use Rattle.std.proofs.lemmas.List.{get_or-set_same, get_or-set_other, length-set}
use Rattle.std.proofs.lemmas.List.FromFn.{length-map-range_with_len, get_or-map-range_with_len}
use Rattle.std.proofs.lemmas.Nat.{div-mul-add, mod-mul-add, div-add-mod'}
use Rattle.std.proofs.lemmas.Option.{same_Some, slice_get_within, slice_get-get_or}
use Rattle.block_index.specs.Axes.{IsUnitStep}
use Rattle.block_index.specs.Beyond.{Offset}
use Rattle.cello_neighbours.specs.Directions.{IsDirection}
use Rattle.block_fields.specs.Blocks.{BlockState, IsBlock, amounts_of, ghosts_of, seen_at, shell_of, with_ghosts}
use Rattle.block_fields.specs.Shells.{direction, direction_of, ghost_size, number_around, side_length, side_of}
use Rattle.block_fields.proofs.GhostWrites.{directions-same, number_around-below, seen-elsewhere, seen-written, side-below}
use Rattle.block_fields.proofs.Seen.{seen-around}
use Rattle.ghost_pieces.specs.Ghosts.{Local, counted, step_of}
use Rattle.ghost_pieces.specs.Boxes.{Box, IsInBox, IsWithin, box_size, cell_in, span, stretch_of}
use Rattle.ghost_pieces.specs.Pieces.{PieceState, FitsSize, box_of}
use Rattle.ghost_pieces.specs.Filing.{filed_ghosts, is_within, listed_box, number_of, pasted, pasted_at, side_of_step, with_piece}
use Rattle.ghost_pieces.specs.Shells.{IsLocal, seen_local}
use Rattle.ghost_pieces.proofs.AxisParts.{is_step_of, within_own}
use Rattle.ghost_pieces.proofs.FiledLists.{same_step, side-three}
use Rattle.ghost_pieces.proofs.Pieces.{cell_in_box}
use Rattle.ghost_pieces.proofs.ShellAxes.{OnSide, counted-around, in_stretch, listed-within, on_side, part_first, part_within, within-listed}

-- ---- lists

pub at_number : {A : Type 0} (f : ℕ → A) (n i : ℕ) (x : A) → slice_get (map f (range_with_len 0 n)) i ≡ Some x → (i < n) × (x ≡ f i)
at_number f n i x e =
    let xs = map f (range_with_len 0 n) in
    let l = slice_get_within xs i x e in
    let k : i < n = omega (arith, length-map-range_with_len f 0 n) in
    (k, same_Some x (get_or xs i x) (sym e ∙ slice_get-get_or xs i x l) ∙ get_or-map-range_with_len f 0 n i i x k (omega arith))

pub length-pasted : (mx my : ℕ) (p : Box) (amounts old : List ℕ) → length (pasted mx my p amounts old) ≡ length old
length-pasted mx my p amounts old = length-map-range_with_len (λ i. pasted_at mx my p amounts old (i % mx) (i / mx % my) (i / mx / my)) 0 (length old)

pub get_or-pasted : (mx my : ℕ) (p : Box) (amounts old : List ℕ) (x y z : ℕ) → x < mx → y < my → (z * my + y) * mx + x < length old → get_or (pasted mx my p amounts old) ((z * my + y) * mx + x) 0 ≡ pasted_at mx my p amounts old x y z
get_or-pasted mx my p amounts old x y z hx hy h =
    let i = (z * my + y) * mx + x in
    let row : i / mx ≡ z * my + y = div-mul-add (z * my + y) mx x hx in
    let ex : i % mx ≡ x = mod-mul-add (z * my + y) mx x hx in
    let ey : i / mx % my ≡ y = ap (λ r. r % my) row ∙ mod-mul-add z my y hy in
    let ez : i / mx / my ≡ z = ap (λ r. r / my) row ∙ div-mul-add z my y hy in
    get_or-map-range_with_len (λ i. pasted_at mx my p amounts old (i % mx) (i / mx % my) (i / mx / my)) 0 (length old) i i 0 h (omega arith)
    ∙ (λ j. pasted_at mx my p amounts old (ex j) (ey j) (ez j))

-- ---- the direction of a piece

pub number-below : (dir : Offset) → number_of dir < 27
number-below dir = omega (arith, side-three dir.x, side-three dir.y, side-three dir.z)

middle_step : (s : ℤ) → IsUnitStep s → side_of_step s ≡ 1 → s ≡ pos 0
middle_step s h e = same_step s (pos 0) h none e
  where
    none : IsUnitStep (pos 0)
    none = record { least = omega (arith, ints); most = omega (arith, ints) }

pub not_middle : (dir : Offset) → IsDirection dir → number_of dir ≡ 13 → ⊥
not_middle dir h e =
    let o = directions-same (side_of_step dir.x) (side_of_step dir.y) (side_of_step dir.z) 1 1 1 (side-three dir.x) (side-three dir.y) (side-three dir.z) (omega arith) (omega arith) (omega arith) e in
    h.some (middle_step dir.x h.x o.0) (middle_step dir.y h.y o.1) (middle_step dir.z h.z o.2)

-- a cell to which three steps lead
pub record OnSides (n d : ℕ) (g : Local) (dir : Offset) : Type 0 where
  pub x : OnSide n d g.x dir.x
  pub y : OnSide n d g.y dir.y
  pub z : OnSide n d g.z dir.z

module _ (n d : ℕ) (g : Local) (dir : Offset) (o : OnSides n d g dir) where
  abbrev wide : ℕ
  wide = side_length n d (side_of_step dir.x)

  abbrev high : ℕ
  high = side_length n d (side_of_step dir.y)

  pub sides-direction : direction_of n (counted d g.x) (counted d g.y) (counted d g.z) ≡ number_of dir
  sides-direction = λ i. direction (o.x.side i) (o.y.side i) (o.z.side i)

  pub sides-number : number_around n d (counted d g.x) (counted d g.y) (counted d g.z) ≡ ((g.z - (stretch_of n d dir.z).first) * high + (g.y - (stretch_of n d dir.y).first)) * wide + (g.x - (stretch_of n d dir.x).first)
  sides-number =
      λ i. (o.z.position i * side_length n d (o.y.side i) + o.y.position i) * side_length n d (o.x.side i) + o.x.position i

-- ---- a block after filing

module _ (b : BlockState) (k : IsBlock b) (p : PieceState) (fits : FitsSize b.edge b.depth (length b.amounts) p) (dir : IsDirection p.region.direction) where
  abbrev e : Offset
  e = p.region.direction

  abbrev mx : ℕ
  mx = side_length b.edge b.depth (side_of_step e.x)

  abbrev my : ℕ
  my = side_length b.edge b.depth (side_of_step e.y)

  abbrev listed : Box
  listed = listed_box b.edge b.depth p.receiver e p.sender

  module _ (f : ℕ) (hf : f < length b.amounts) where
    there : slice_get b.ghosts f ≡ Some (shell_of b f)
    there = slice_get-get_or b.ghosts f [] (let e = k.one_shell_each in omega arith)

    many : length (shell_of b f) ≡ 27
    many = k.all_directions f (shell_of b f) there

    pub length-ghosts : length (ghosts_of b f (number_of e)) ≡ ghost_size b.edge b.depth (number_of e)
    length-ghosts =
        let l = number-below e in
        k.all_ghosts f (number_of e) (shell_of b f) (ghosts_of b f (number_of e)) there (slice_get-get_or (shell_of b f) (number_of e) [] (omega (arith, many)))

    shell-after : shell_of (with_piece b p) f ≡ set (shell_of b f) (number_of e) (filed_ghosts b p f)
    shell-after =
        get_or-map-range_with_len (λ f. slice_set (shell_of b f) (number_of e) (filed_ghosts b p f)) 0 (length b.ghosts) f f [] (let l = k.one_shell_each in omega arith) (omega arith)

    shell-alike : shell_of (with_ghosts b f (number_of e) (filed_ghosts b p f)) f ≡ set (shell_of b f) (number_of e) (filed_ghosts b p f)
    shell-alike = get_or-set_same b.ghosts f (set (shell_of b f) (number_of e) (filed_ghosts b p f)) [] (let l = k.one_shell_each in omega arith)

    seen-alike : (x y z : ℤ) → seen_at (with_piece b p) f x y z ≡ seen_at (with_ghosts b f (number_of e) (filed_ghosts b p f)) f x y z
    seen-alike x y z =
        ap (λ (s : List (List ℕ)). slice_index (cond (direction_of b.edge x y z == 13) (amounts_of b f) (slice_index_or s (direction_of b.edge x y z) [])) (number_around b.edge b.depth x y z))
        (shell-after ∙ sym shell-alike)

    -- at a cell of the piece's direction
    module _ (g : Local) (o : OnSides b.edge b.depth g p.region.direction) (inside : IsLocal b.edge b.depth g) where
      abbrev px : ℕ
      px = g.x - (stretch_of b.edge b.depth e.x).first

      abbrev py : ℕ
      py = g.y - (stretch_of b.edge b.depth e.y).first

      abbrev pz : ℕ
      pz = g.z - (stretch_of b.edge b.depth e.z).first

      outside : direction_of b.edge (counted b.depth g.x) (counted b.depth g.y) (counted b.depth g.z) ≡ 13 → ⊥
      outside t = not_middle e dir (sym (sides-direction b.edge b.depth g e o) ∙ t)

      pub number-within : (pz * my + py) * mx + px < length (ghosts_of b f (number_of e))
      number-within =
          let n = number_around-below b.edge b.depth (counted b.depth g.x) (counted b.depth g.y) (counted b.depth g.z) (counted-around b.edge b.depth g.x inside.x) (counted-around b.edge b.depth g.y inside.y) (counted-around b.edge b.depth g.z inside.z) outside in
          let a = sides-number b.edge b.depth g e o in
          let c = ap (ghost_size b.edge b.depth) (sides-direction b.edge b.depth g e o) in
          omega (arith, length-ghosts)

      pub seen-pasted : seen_local (with_piece b p) f g ≡ pasted_at mx my listed (slice_index_or p.amounts f []) (ghosts_of b f (number_of e)) px py pz
      seen-pasted =
          let x = counted b.depth g.x in
          let y = counted b.depth g.y in
          let z = counted b.depth g.z in
          let w = filed_ghosts b p f in
          seen-alike x y z
          ∙ seen-written b f (number_of e) w k hf x y z (sides-direction b.edge b.depth g e o) (not_middle e dir)
          ∙ ap (λ i. get_or w i 0) (sides-number b.edge b.depth g e o)
          ∙ get_or-pasted mx my listed (slice_index_or p.amounts f []) (ghosts_of b f (number_of e)) px py pz o.x.below o.y.below number-within

      pub seen-before : seen_local b f g ≡ slice_index (ghosts_of b f (number_of e)) ((pz * my + py) * mx + px)
      seen-before =
          let x = counted b.depth g.x in
          let y = counted b.depth g.y in
          let z = counted b.depth g.z in
          seen-around b f x y z outside
          ∙ ap (λ n. get_or (ghosts_of b f n) (number_around b.edge b.depth x y z) 0) (sides-direction b.edge b.depth g e o)
          ∙ ap (λ i. get_or (ghosts_of b f (number_of e)) i 0) (sides-number b.edge b.depth g e o)

    -- ---- in the piece's box, and outside it

    abbrev box : Box
    box = box_of b.edge b.depth p

    abbrev q : List ℕ
    q = slice_index_or p.amounts f []

    abbrev old : List ℕ
    old = ghosts_of b f (number_of e)

    on_sides : (g : Local) → IsWithin (stretch_of b.edge b.depth e.x) g.x → IsWithin (stretch_of b.edge b.depth e.y) g.y → IsWithin (stretch_of b.edge b.depth e.z) g.z → OnSides b.edge b.depth g e
    on_sides g x y z = record {
      x = on_side b.edge b.depth g.x e.x dir.x x;
      y = on_side b.edge b.depth g.y e.y dir.y y;
      z = on_side b.edge b.depth g.z e.z dir.z z;
    }

    abbrev c : ℕ
    c = span b.edge p.receiver.level p.sender.level

    in_stretches : (g : Local) → IsInBox (box_of b.edge b.depth p) g → IsWithin (stretch_of b.edge b.depth e.x) g.x × IsWithin (stretch_of b.edge b.depth e.y) g.y × IsWithin (stretch_of b.edge b.depth e.z) g.z
    in_stretches g w = (
      part_within b.edge b.depth p.receiver.x c p.sender.x e.x g.x dir.x w.x,
      part_within b.edge b.depth p.receiver.y c p.sender.y e.y g.y dir.y w.y,
      part_within b.edge b.depth p.receiver.z c p.sender.z e.z g.z dir.z w.z,
    )

    pub box-sides : (g : Local) → IsInBox (box_of b.edge b.depth p) g → OnSides b.edge b.depth g p.region.direction
    box-sides g w = let s = in_stretches g w in on_sides g s.0 s.1 s.2

    pub box-local : (g : Local) → IsInBox (box_of b.edge b.depth p) g → IsLocal b.edge b.depth g
    box-local g w =
        let s = in_stretches g w in
        record { x = in_stretch b.edge b.depth e.x g.x dir.x s.0; y = in_stretch b.edge b.depth e.y g.y dir.y s.1; z = in_stretch b.edge b.depth e.z g.z dir.z s.2 }

    abbrev test : ℕ → ℕ → ℕ → Bool
    test x y z = is_within listed.x x && is_within listed.y y && is_within listed.z z

    pub cell-filed : (k : ℕ) → k < box_size (box_of b.edge b.depth p) → seen_local (with_piece b p) f (cell_in (box_of b.edge b.depth p) k) ≡ slice_index (slice_index_or p.amounts f []) k
    cell-filed i h =
        let g = cell_in box i in
        let w = cell_in_box box i h in
        let o = box-sides g w in
        let x = g.x - (stretch_of b.edge b.depth e.x).first in
        let y = g.y - (stretch_of b.edge b.depth e.y).first in
        let z = g.z - (stretch_of b.edge b.depth e.z).first in
        let t : test x y z ≡ true = and_from (is_within listed.x x && is_within listed.y y) (is_within listed.z z)
        (and_from (is_within listed.x x) (is_within listed.y y)
        (within-listed b.edge b.depth p.receiver.x c p.sender.x e.x dir.x g.x w.x)
        (within-listed b.edge b.depth p.receiver.y c p.sender.y e.y dir.y g.y w.y))
        (within-listed b.edge b.depth p.receiver.z c p.sender.z e.z dir.z g.z w.z) in
        let at = ((z - listed.z.first) * listed.y.count + (y - listed.y.first)) * listed.x.count + (x - listed.x.first) in
        let fx = part_first b.edge b.depth p.receiver.x c p.sender.x e.x dir.x in
        let fy = part_first b.edge b.depth p.receiver.y c p.sender.y e.y dir.y in
        let fz = part_first b.edge b.depth p.receiver.z c p.sender.z e.z dir.z in
        let ex : x - listed.x.first ≡ i % box.x.count = omega arith in
        let ey : y - listed.y.first ≡ i / box.x.count % box.y.count = omega arith in
        let ez : z - listed.z.first ≡ i / box.x.count / box.y.count = omega arith in
        let number : at ≡ (i / box.x.count / box.y.count * box.y.count + i / box.x.count % box.y.count) * box.x.count + i % box.x.count = λ j. (ez j * box.y.count + ey j) * box.x.count + ex j in
        let row = div-add-mod' (i / box.x.count) box.y.count in
        let cell = div-add-mod' i box.x.count in
        let back : (i / box.x.count / box.y.count * box.y.count + i / box.x.count % box.y.count) * box.x.count + i % box.x.count ≡ i = ap (λ r. r * box.x.count + i % box.x.count) row ∙ cell in
        seen-pasted g o (box-local g w)
        ∙ cond-true (test x y z) (slice_index q at) (slice_index old ((z * my + y) * mx + x)) t
        ∙ ap (slice_index q) (number ∙ back)

    pub cell-kept : (g : Local) → IsLocal b.edge b.depth g → (IsInBox (box_of b.edge b.depth p) g → ⊥) → seen_local (with_piece b p) f g ≡ seen_local b f g
    cell-kept g inside out =
        elim (cases_eq (direction_of b.edge (counted b.depth g.x) (counted b.depth g.y) (counted b.depth g.z)) (number_of e)) [
          | inr unlike ↦
              seen-alike (counted b.depth g.x) (counted b.depth g.y) (counted b.depth g.z)
              ∙ seen-elsewhere b f (number_of e) (filed_ghosts b p f) k hf (counted b.depth g.x) (counted b.depth g.y) (counted b.depth g.z) f (inr unlike)
          | inl same ↦ here same
        ]
      where
        own : (g : ℕ) → g < b.edge + 2 * b.depth → OnSide b.edge b.depth g (step_of b.edge b.depth g)
        own g l = on_side b.edge b.depth g (step_of b.edge b.depth g) (is_step_of b.edge b.depth g) (within_own b.edge b.depth g l)

        toward : (g : ℕ) (s : ℤ) → IsUnitStep s → g < b.edge + 2 * b.depth → side_of b.edge (counted b.depth g) ≡ side_of_step s → IsWithin (stretch_of b.edge b.depth s) g
        toward g s u l t =
            subst (λ s. IsWithin (stretch_of b.edge b.depth s) g)
            (same_step (step_of b.edge b.depth g) s (is_step_of b.edge b.depth g) u (sym (own g l).side ∙ t))
            (within_own b.edge b.depth g l)

        here : direction_of b.edge (counted b.depth g.x) (counted b.depth g.y) (counted b.depth g.z) ≡ number_of e → seen_local (with_piece b p) f g ≡ seen_local b f g
        here same =
            let n = directions-same (side_of b.edge (counted b.depth g.x)) (side_of b.edge (counted b.depth g.y)) (side_of b.edge (counted b.depth g.z)) (side_of_step e.x) (side_of_step e.y) (side_of_step e.z) (side-below b.edge (counted b.depth g.x)) (side-below b.edge (counted b.depth g.y)) (side-below b.edge (counted b.depth g.z)) (side-three e.x) (side-three e.y) (side-three e.z) same in
            let sx = toward g.x e.x dir.x inside.x n.0 in
            let sy = toward g.y e.y dir.y inside.y n.1 in
            let sz = toward g.z e.z dir.z inside.z n.2 in
            let o = on_sides g sx sy sz in
            let x = g.x - (stretch_of b.edge b.depth e.x).first in
            let y = g.y - (stretch_of b.edge b.depth e.y).first in
            let z = g.z - (stretch_of b.edge b.depth e.z).first in
            let at = ((z - listed.z.first) * listed.y.count + (y - listed.y.first)) * listed.x.count + (x - listed.x.first) in
            seen-pasted g o inside
            ∙ elim (cases_Bool (test x y z)) [
              | inr none ↦ cond-false (test x y z) (slice_index q at) (slice_index old ((z * my + y) * mx + x)) none
              | inl t ↦
                  let u = and_parts (is_within listed.x x && is_within listed.y y) (is_within listed.z z) t in
                  let v = and_parts (is_within listed.x x) (is_within listed.y y) u.0 in
                  absurd (out (record {
                    x = listed-within b.edge b.depth p.receiver.x c p.sender.x e.x dir.x g.x sx.from v.0;
                    y = listed-within b.edge b.depth p.receiver.y c p.sender.y e.y dir.y g.y sy.from v.1;
                    z = listed-within b.edge b.depth p.receiver.z c p.sender.z e.z dir.z g.z sz.from u.1;
                  }))
            ]
            ∙ sym (seen-before g o inside)

  -- ---- limits

  filed-shell : (f : ℕ) (shell : List (List ℕ)) → slice_get (with_piece b p).ghosts f ≡ Some shell → (f < length b.amounts) × (shell ≡ set (shell_of b f) (number_of e) (filed_ghosts b p f))
  filed-shell f shell t =
      let o = at_number (λ f. slice_set (shell_of b f) (number_of e) (filed_ghosts b p f)) (length b.ghosts) f shell t in
      (let l = k.one_shell_each in omega (arith, o.0), o.1)

  pub limits-filed : IsBlock (with_piece b p)
  limits-filed = record {
    even = k.even;
    least = k.least;
    most = k.most;
    shallowest = k.shallowest;
    deepest = k.deepest;
    few = k.few;
    one_before_each = k.one_before_each;
    one_shell_each = length-map-range_with_len (λ f. slice_set (shell_of b f) (number_of e) (filed_ghosts b p f)) 0 (length b.ghosts) ∙ k.one_shell_each;
    all_cells = k.all_cells;
    all_before = k.all_before;
    all_directions = λ f shell t.
        let o = filed-shell f shell t in
        ap length o.1 ∙ length-set (shell_of b f) (number_of e) (filed_ghosts b p f) ∙ many f o.0;
    all_ghosts = λ f i shell q t u.
        let o = filed-shell f shell t in
        lists f i q o.0 (subst (λ s. slice_get s i ≡ Some q) o.1 u);
  }
    where
      lists : (f i : ℕ) (q : List ℕ) → f < length b.amounts → slice_get (set (shell_of b f) (number_of e) (filed_ghosts b p f)) i ≡ Some q → length q ≡ ghost_size b.edge b.depth i
      lists f i q l t =
          let w = filed_ghosts b p f in
          let s = set (shell_of b f) (number_of e) w in
          let h = slice_get_within s i q t in
          let small = length-set (shell_of b f) (number_of e) w in
          let is : q ≡ get_or s i [] = same_Some q (get_or s i []) (sym t ∙ slice_get-get_or s i [] h) in
          elim (cases_eq i (number_of e)) [
            | inl same ↦
                ap length (is ∙ ap (λ n. get_or s n []) same ∙ get_or-set_same (shell_of b f) (number_of e) w [] (omega arith))
                ∙ length-pasted mx my listed (slice_index_or p.amounts f []) (ghosts_of b f (number_of e))
                ∙ length-ghosts f l
                ∙ ap (ghost_size b.edge b.depth) (sym same)
            | inr other ↦
                ap length (is ∙ get_or-set_other (shell_of b f) (number_of e) i w [] other)
                ∙ k.all_ghosts f i (shell_of b f) (get_or (shell_of b f) i []) (there f l) (slice_get-get_or (shell_of b f) i [] (omega arith))
          ]
