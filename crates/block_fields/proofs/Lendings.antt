-- Lists that were lent and written over.
use Rattle.std.proofs.Common.{◌≡◌, ℕ, ◌*◌, ◌<◌, sym, ap, ◌∙◌, arith, List, [], ◌++◌, Some, slice_get, get_or, length, take, drop, set, map, sum, Vec, Global, length-append, length-drop, length-take-le}
use Rattle.std.specs.List.{flat_map}
use Rattle.std.specs.Vec.{with_items}
use Rattle.std.proofs.lemmas.List.{map-set, take_at}
use Rattle.block_index.specs.Places.{Cube}
use Rattle.std.proofs.lemmas.Option.{slice_get-get_or, slice_get_within}
use Rattle.block_fields.specs.Blocks.{BlockState, IsBlock, amounts_of, before_of, shell_of, with_ghosts}
use Rattle.block_fields.specs.Layout.{cut, laid_out}
use Rattle.block_fields.specs.Lending.{refilled, with_before, with_direction, with_field}
use Rattle.block_fields.specs.Shells.{ghost_count, ghost_size, ghost_sizes, ghost_start}
use Rattle.block_fields.proofs.Cuts.{cut-flat_map, cut-splice, length-flat_map}
use Rattle.block_fields.proofs.Fields.{field-set}
use Rattle.block_fields.proofs.Layouts.{shell-flat}
use Rattle.block_fields.proofs.ShellSizes.{get_or-ghost_sizes, length-ghost_sizes, start-within_count}

pub length-refilled : (q w : List ℕ) → length (refilled q w) ≡ length q
length-refilled q w =
    length-take-le (length q) (w ++ drop (length w) q) (let a = length-append w (drop (length w) q) in let b = length-drop (length w) q in omega arith)

-- a list of the same length takes the place of the old one
pub refilled-whole : (q w : List ℕ) → length w ≡ length q → refilled q w ≡ w
refilled-whole q w l = take_at w (drop (length w) q) (length q) l

pub with_items-refilled : (v : Vec ℕ Global) (w : List ℕ) → (with_items v w).items ≡ refilled v.items w
with_items-refilled v w = ap (λ n. take n (w ++ drop (length w) v.items)) v.ok.0

-- the lists of all fields after one of them was written over
pub fields-refilled : (fs : List (Vec ℕ Global)) (f : ℕ) (v : Vec ℕ Global) (w : List ℕ) → map (λ (v : Vec ℕ Global). v.items) (set fs f (with_items v w)) ≡ set (map (λ (v : Vec ℕ Global). v.items) fs) f (refilled v.items w)
fields-refilled fs f v w = field-set (Vec ℕ Global) (λ v. v.items) fs f (with_items v w) (refilled v.items w) (with_items-refilled v w)

-- the block after a field's ghosts were written over from a direction on
pub direction-written : (place : Cube) (n g : ℕ) (amounts before shells : List (List ℕ)) (f : ℕ) (q : List ℕ) → slice_get shells f ≡ Some q → length q ≡ ghost_count n g → (d : ℕ) (w : List ℕ)
    → laid_out place n g amounts before (set shells f (refilled q (take (ghost_start n g d) q ++ (w ++ drop (length w) (drop (ghost_start n g d) q)))))
    ≡ with_direction (laid_out place n g amounts before shells) f d w
direction-written place n g amounts before shells f q at long d w =
    let pieces = cut (ghost_sizes n g) in
    let over : List ℕ → List ℕ = λ all. refilled all (take (ghost_start n g d) all ++ (w ++ drop (length w) (drop (ghost_start n g d) all))) in
    let flat = shell-flat place n g amounts before shells f q at long in
    ap (λ l. record { place = place; edge = n; depth = g; amounts = amounts; before = before; ghosts = l })
    (map-set pieces shells f (over q) ∙ ap (λ all. set (map pieces shells) f (pieces (over all))) (sym flat))

-- ---- lists of the right length

module _ (b : BlockState) (k : IsBlock b) (f : ℕ) (h : f < length b.amounts) (w : List ℕ) where
  pub with_field-whole : length w ≡ b.edge * b.edge * b.edge → with_field b f w ≡ record b { amounts = set b.amounts f w }
  with_field-whole l =
      let long : length (amounts_of b f) ≡ b.edge * b.edge * b.edge = k.all_cells f (amounts_of b f) (slice_get-get_or b.amounts f [] h) in
      ap (λ q. record b { amounts = set b.amounts f q }) (refilled-whole (amounts_of b f) w (l ∙ sym long))

  pub with_before-whole : length w ≡ b.edge * b.edge * b.edge → with_before b f w ≡ record b { before = set b.before f w }
  with_before-whole l =
      let long : length (before_of b f) ≡ b.edge * b.edge * b.edge = k.all_before f (before_of b f) (slice_get-get_or b.before f [] (let e = k.one_before_each in omega arith)) in
      ap (λ q. record b { before = set b.before f q }) (refilled-whole (before_of b f) w (l ∙ sym long))

  pub with_direction-whole : (d : ℕ) → d < 27 → length w ≡ ghost_size b.edge b.depth d → with_direction b f d w ≡ with_ghosts b f d w
  with_direction-whole d hd l =
      let sizes = ghost_sizes b.edge b.depth in
      let shell = shell_of b f in
      let at : slice_get b.ghosts f ≡ Some shell = slice_get-get_or b.ghosts f [] (let e = k.one_shell_each in omega arith) in
      let many : length shell ≡ length sizes = k.all_directions f shell at ∙ sym (length-ghost_sizes b.edge b.depth) in
      let each : (d : ℕ) (p : List ℕ) → slice_get shell d ≡ Some p → length p ≡ get_or sizes d 0 = λ d p e.
      let there = slice_get_within shell d p e in
      let twenty_seven = k.all_directions f shell at in
      k.all_ghosts f d shell p at e ∙ sym (get_or-ghost_sizes b.edge b.depth d (omega arith)) in
      let all = flat_map (λ p. p) shell in
      let whole : length all ≡ sum sizes = length-flat_map sizes shell many each in
      let start = ghost_start b.edge b.depth d in
      let within = start-within_count b.edge b.depth d hd in
      let over = take start all ++ (w ++ drop (length w) (drop start all)) in
      let same : length over ≡ length all =
      omega (arith, length-append (take start all) (w ++ drop (length w) (drop start all)), length-append w (drop (length w) (drop start all)), length-take-le start all (omega arith), length-drop (length w) (drop start all), length-drop start all) in
      ap (λ s. record b { ghosts = set b.ghosts f s })
      (ap (cut sizes) (refilled-whole all over same)
      ∙ cut-splice sizes all w d (let n = length-ghost_sizes b.edge b.depth in omega arith) (omega arith) (l ∙ sym (get_or-ghost_sizes b.edge b.depth d hd))
      ∙ ap (λ s. set s d w) (cut-flat_map sizes shell many each))
