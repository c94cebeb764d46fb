-- A shell holds the samples at all regions that are filed.
use Rattle.std.proofs.Common.{◌≡◌, ℕ, ◌+◌, ◌-◌, ◌*◌, ◌/◌, ◌%◌, ◌<◌, ◌≤◌, ◌⊎◌, inl, inr, sym, ap, ◌∙◌, subst, arith, ℤ, pos, negsuc, ◌+ℤ◌, ◌-ℤ◌, List, [], slice_get, slice_index, slice_index_or, get_or, length, map}
use Rattle.std.specs.List.{range_with_len}
use Rattle.std.proofs.lemmas.Bool.{cases_Bool, cases_lt, cond-true, cond-false}
use Rattle.std.proofs.lemmas.Int.{ints}
use Rattle.std.proofs.lemmas.List.FromFn.{get_or-map-range_with_len}
use Rattle.std.proofs.lemmas.Nat.{div-mul-add, mod-mul-add}
use Rattle.std.proofs.lemmas.Option.{same_Some}
use Rattle.cello_neighbours.specs.Directions.{IsDirection}
use Rattle.block_fields.specs.Blocks.{BlockState, IsBlock, seen_at}
use Rattle.block_fields.specs.BlockStates.{HoldsSamples, IsLeafOf}
use Rattle.block_fields.specs.Samples.{cell_near, sample}
use Rattle.block_fields.specs.Shells.{IsAround, direction, direction_of, side_of}
use Rattle.block_fields.specs.States.{State, IsState}
use Rattle.block_fields.proofs.ShellSizes.{number-below}
use Rattle.ghost_pieces.specs.Ghosts.{Local, IsGhost, counted, ghost_cell}
use Rattle.ghost_pieces.specs.Boxes.{Box, IsInBox, IsWithin, Stretch, box_size, cell_in}
use Rattle.ghost_pieces.specs.Regions.{IsRegionCell}
use Rattle.ghost_pieces.specs.Pieces.{PieceState, CarriesSamples, FitsSize, box_of}
use Rattle.ghost_pieces.specs.Filing.{Source, after_filing, is_filed, with_filed, with_piece}
use Rattle.ghost_pieces.specs.Shells.{AreAllFiled, HoldsFiled, seen_local}
use Rattle.ghost_pieces.proofs.BoxLaw.{region_direction, region_is_box}
use Rattle.ghost_pieces.proofs.FiledLists.{filed-others, more_yes, one_source_of}
use Rattle.ghost_pieces.proofs.Owed.{ghost_direction, region_over}
use Rattle.ghost_pieces.proofs.Pastes.{cell-filed, cell-kept}
use Rattle.ghost_pieces.proofs.PieceFacts.{carried_size}
use Rattle.ghost_pieces.proofs.ShellAxes.{on_side}

-- ---- boxes

within_or_not : (p : Stretch) (g : ℕ) → IsWithin p g ⊎ (IsWithin p g → ⊥)
within_or_not p g =
    elim (cases_lt g p.first) [
      | inl few ↦ inr (λ w. omega (arith, w.from))
      | inr low ↦
          elim (cases_lt g (p.first + p.count)) [
            | inl high ↦ inl (record { from = low; below = high })
            | inr more ↦ inr (λ w. omega (arith, w.below))
          ]
    ]

in_box_or_not : (p : Box) (g : Local) → IsInBox p g ⊎ (IsInBox p g → ⊥)
in_box_or_not p g =
    elim (within_or_not p.x g.x) [
      | inr out ↦ inr (λ w. out w.x)
      | inl x ↦
          elim (within_or_not p.y g.y) [
            | inr out ↦ inr (λ w. out w.y)
            | inl y ↦
                elim (within_or_not p.z g.z) [
                  | inr out ↦ inr (λ w. out w.z)
                  | inl z ↦ inl (record { x = x; y = y; z = z })
                ]
          ]
    ]

same_local : (g h : Local) → g.x ≡ h.x → g.y ≡ h.y → g.z ≡ h.z → g ≡ h
same_local g h x y z = λ i. record { x = x i; y = y i; z = z i }

-- each cell of a box has a number
cell_number : (p : Box) (g : Local) → IsInBox p g → (i : ℕ) × (i < box_size p) × (cell_in p i ≡ g)
cell_number p g w =
    let x = g.x - p.x.first in
    let y = g.y - p.y.first in
    let z = g.z - p.z.first in
    let hx : x < p.x.count = omega (arith, w.x.from, w.x.below) in
    let hy : y < p.y.count = omega (arith, w.y.from, w.y.below) in
    let hz : z < p.z.count = omega (arith, w.z.from, w.z.below) in
    let i = (z * p.y.count + y) * p.x.count + x in
    let row : i / p.x.count ≡ z * p.y.count + y = div-mul-add (z * p.y.count + y) p.x.count x hx in
    let ex : i % p.x.count ≡ x = mod-mul-add (z * p.y.count + y) p.x.count x hx in
    let ey : i / p.x.count % p.y.count ≡ y = ap (λ r. r % p.y.count) row ∙ mod-mul-add z p.y.count y hy in
    let ez : i / p.x.count / p.y.count ≡ z = ap (λ r. r / p.y.count) row ∙ div-mul-add z p.y.count y hy in
    (i, number-below p.x.count p.y.count p.z.count x y z hx hy hz, same_local (cell_in p i) g (omega (arith, w.x.from)) (omega (arith, w.y.from)) (omega (arith, w.z.from)))

-- ---- coordinates

-- any coordinate around a block, as a local one
local_of : (n d : ℕ) (x : ℤ) → IsAround n d x → (g : ℕ) × (g < n + 2 * d) × (counted d g ≡ x)
local_of n d (pos u) h = (u + d, omega arith, omega (arith, ints))
local_of n d (negsuc u) h = (d - 1 - u, omega arith, omega (arith, ints))

shifted : (a g d : ℕ) → pos (a + g) -ℤ pos d ≡ pos a +ℤ counted d g
shifted a g d = omega (arith, ints)

module _ (s : State) (w : IsState s) (j : ℕ) (b : BlockState) (k : IsBlock b) (leaf : IsLeafOf s j b) where
  even : s.edge % 2 ≡ 0
  even = subst (λ n. n % 2 ≡ 0) leaf.same_edge k.even

  deep : 2 * b.depth ≤ s.edge
  deep = omega (arith, k.least, k.deepest, leaf.same_edge)

  some : 0 < s.edge
  some = omega (arith, k.least, leaf.same_edge)

  fields : length b.amounts ≡ s.fields
  fields = w.all_fields j b.amounts leaf.held

  -- ---- one piece more

  module _ (p : PieceState) (to : p.region.receiver ≡ j) (c : CarriesSamples s b.depth p) where
    receiver : p.receiver ≡ b.place
    receiver = same_Some p.receiver b.place (sym c.leaves.receives ∙ ap (slice_get s.leaves) to ∙ leaf.leaf)

    fits : FitsSize b.edge b.depth (length b.amounts) p
    fits =
        subst (λ n. FitsSize n b.depth (length b.amounts) p) (sym leaf.same_edge)
        (subst (λ n. FitsSize s.edge b.depth n p) (sym fields) (carried_size s w even b.depth deep p c))

    dir : IsDirection p.region.direction
    dir = region_direction s.grid s.leaves s.edge b.depth p.region p.receiver p.sender w.domain w.mesh w.balanced even deep c.leaves.receives c.leaves.sends c.region

    carried : (f i : ℕ) → f < s.fields → i < box_size (box_of s.edge b.depth p) → slice_index (slice_index_or p.amounts f []) i ≡ sample s f (ghost_cell s.grid s.edge b.depth p.receiver (cell_in (box_of s.edge b.depth p) i))
    carried f i hf hi =
        let size = box_size (box_of s.edge b.depth p) in
        let each = λ (f i : ℕ). sample s f (ghost_cell s.grid s.edge b.depth p.receiver (cell_in (box_of s.edge b.depth p) i)) in
        ap (λ (l : List (List ℕ)). get_or (get_or l f []) i 0) c.samples
        ∙ ap (λ (l : List ℕ). get_or l i 0) (get_or-map-range_with_len (λ f. map (each f) (range_with_len 0 size)) 0 s.fields f f [] hf (omega arith))
        ∙ get_or-map-range_with_len (each f) 0 size i i 0 hi (omega arith)

    in_box : (f : ℕ) (g : Local) → f < s.fields → IsInBox (box_of s.edge b.depth p) g → seen_local (with_piece b p) f g ≡ sample s f (ghost_cell s.grid s.edge b.depth b.place g)
    in_box f g hf inside =
        let o = cell_number (box_of s.edge b.depth p) g inside in
        let i = o.0 in
        let same : cell_in (box_of b.edge b.depth p) i ≡ g = ap (λ n. cell_in (box_of n b.depth p) i) leaf.same_edge ∙ o.2 in
        let low : i < box_size (box_of b.edge b.depth p) = subst (λ n. i < box_size (box_of n b.depth p)) (sym leaf.same_edge) o.1 in
        ap (seen_local (with_piece b p) f) (sym same)
        ∙ cell-filed b k p fits dir f (omega (arith, fields)) i low
        ∙ carried f i hf o.1
        ∙ ap (λ g. sample s f (ghost_cell s.grid s.edge b.depth p.receiver g)) o.2
        ∙ ap (λ q. sample s f (ghost_cell s.grid s.edge b.depth q g)) receiver

    filed_now : (filed : List Source) → HoldsFiled s j filed b → HoldsFiled s j (with_filed filed p.region) (with_piece b p)
    filed_now filed holds r g f e t hf x =
        elim (in_box_or_not (box_of s.edge b.depth p) g) [
          | inl inside ↦ in_box f g hf inside
          | inr out ↦
              cell-kept b k p fits dir f (omega (arith, fields)) g (record { x = low g.x x.ghost.x; y = low g.y x.ghost.y; z = low g.z x.ghost.z })
              (λ inside. out (subst (λ n. IsInBox (box_of n b.depth p) g) leaf.same_edge inside))
              ∙ elim (filed-others filed p.region r t) [
                | inl old ↦ holds r g f e old hf x
                | inr same ↦
                    let one : r ≡ p.region = one_source_of r p.region (subst IsDirection x.direction (ghost_direction s.edge b.depth g x.ghost)) dir (e ∙ sym to) same in
                    let law = region_is_box s.grid s.leaves s.edge b.depth p.region p.receiver p.sender w.domain w.mesh w.balanced even deep c.leaves.receives c.leaves.sends some g c.region in
                    absurd (out (law.0 (subst (λ r. IsRegionCell s.grid s.edge b.depth s.leaves r g) one x)))
              ]
        ]
      where
        low : (g : ℕ) → g < s.edge + 2 * b.depth → g < b.edge + 2 * b.depth
        low g h = omega (arith, leaf.same_edge)

    pub holds_more : (filed : List Source) → HoldsFiled s j filed b → HoldsFiled s j (with_filed filed p.region) (after_filing filed p b)
    holds_more filed holds =
        elim (cases_Bool (is_filed filed p.region)) [
          | inl t ↦
              subst (λ l. HoldsFiled s j l (after_filing filed p b)) (sym (more_yes filed p.region t))
              (subst (HoldsFiled s j filed) (sym (cond-true (is_filed filed p.region) b (with_piece b p) t)) holds)
          | inr none ↦ subst (HoldsFiled s j (with_filed filed p.region)) (sym (cond-false (is_filed filed p.region) b (with_piece b p) none)) (filed_now filed holds)
        ]

  -- ---- all pieces

  pub holds_all : (filed : List Source) → AreAllFiled s b.depth j filed → HoldsFiled s j filed b → HoldsSamples s b
  holds_all filed all holds f x y z hf hx hy hz outside =
      let lx = local_of b.edge b.depth x hx in
      let ly = local_of b.edge b.depth y hy in
      let lz = local_of b.edge b.depth z hz in
      let g : Local = record { x = lx.0; y = ly.0; z = lz.0 } in
      let d = b.depth in
      let n = s.edge in
      let ghost : IsGhost n d g = record {
        x = low lx.0 lx.1;
        y = low ly.0 ly.1;
        z = low lz.0 lz.1;
        outside = λ x0 x1 y0 y1 z0 z1.
            outside (middle x y z (own lx.0 x lx.2 x0 x1) (own ly.0 y ly.2 y0 y1) (own lz.0 z lz.2 z0 z1));
      } in
      let o = region_over s.grid s.leaves w.domain w.mesh w.balanced n d even deep j b.place g leaf.leaf ghost in
      let r = o.0 in
      (λ i. seen_at b f (sym lx.2 i) (sym ly.2 i) (sym lz.2 i))
      ∙ holds r g f o.1 (all r o.1 (g, o.2)) hf o.2
      ∙ (λ i. sample s f (cell_near s.grid n b.place.level (axis b.place.x g.x x lx.2 i) (axis b.place.y g.y y ly.2 i) (axis b.place.z g.z z lz.2 i)))
    where
      low : (g : ℕ) → g < b.edge + 2 * b.depth → g < s.edge + 2 * b.depth
      low g h = omega (arith, leaf.same_edge)

      own : (g : ℕ) (x : ℤ) → counted b.depth g ≡ x → b.depth ≤ g → g < s.edge + b.depth → side_of b.edge x ≡ 1
      own g x e l h =
          ap (side_of b.edge) (sym e)
          ∙ (on_side b.edge b.depth g (pos 0) (record { least = omega (arith, ints); most = omega (arith, ints) }) (record { from = l; below = omega (arith, leaf.same_edge) })).side

      middle : (x y z : ℤ) → side_of b.edge x ≡ 1 → side_of b.edge y ≡ 1 → side_of b.edge z ≡ 1 → direction_of b.edge x y z ≡ 13
      middle x y z ex ey ez = λ i. direction (ex i) (ey i) (ez i)

      axis : (p g : ℕ) (x : ℤ) → counted b.depth g ≡ x → pos (p * s.edge + g) -ℤ pos b.depth ≡ pos (p * b.edge) +ℤ x
      axis p g x e =
          shifted (p * s.edge) g b.depth
          ∙ ap (λ n. pos (p * n) +ℤ counted b.depth g) (sym leaf.same_edge)
          ∙ ap (λ x. pos (p * b.edge) +ℤ x) e
