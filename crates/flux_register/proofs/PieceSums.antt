-- What a right piece carries: the sums of the scheme's fluxes through the finer faces, in place of the coarse one.
use Rattle.std.proofs.Common.{◌≡◌, ℕ, ◌+◌, ◌-◌, ◌*◌, ◌/◌, ◌%◌, ◌<◌, ◌≤◌, ◌==◌, ◌&&◌, Bool, true, false, cond, List, [], refl, sym, ap, ◌∙◌, subst, arith, sum_by}
use Rattle.std.specs.Prelude.{slice_index}
use Rattle.std.proofs.lemmas.Bool.{cond-true, cond-false, eq-eqb, ne_eqb}
use Rattle.std.proofs.lemmas.Bool.Decides.{nat_tests}
use Rattle.std.proofs.lemmas.Nat.{mod_below, div-mul-add, mod-mul-add, mul-add-lt}
use Rattle.std.proofs.lemmas.List.FromFn.{get_or-map-range_with_len}
use Rattle.block_index.specs.Places.{Cube, Grid, IsInside}
use Rattle.block_fields.specs.Blocks.{BlockState}
use Rattle.block_fields.specs.Cells.{block_of}
use Rattle.block_fields.specs.States.{State}
use Rattle.grid_fluxes.specs.Axes.{Axis, along_x, along_y, along_z, coordinate, first_children, next_cell, previous_cell}
use Rattle.grid_fluxes.specs.Fluxes.{Fluxes}
use Rattle.grid_fluxes.proofs.Besides.{leaf_cell-inside}
use Rattle.grid_fluxes.proofs.Coordinates.{twice_along}
use Rattle.grid_fluxes.proofs.Steps.{IsAlong, next_cell-previous}
use Rattle.advect.specs.Coordinates.{along, across_first, across_second, face_number}
use Rattle.advect.specs.FaceFluxes.{FaceFluxState, axis_of, is_end, fluxes_on, high_of, low_of}
use Rattle.advect.specs.FluxPieces.{FluxPieceState, is_behind, reduced, replaced_flux, replacing_sum, sum_of_four, sums_in, sums_of_four}
use Rattle.flux_register.specs.Faces.{FluxFace, IsFluxFace, opposite}
use Rattle.flux_register.specs.Cells.{Setting, FluxPart, blank}
use Rattle.flux_register.specs.Made.{HasFluxesOf, kept_flux}
use Rattle.flux_register.proofs.Geometry.{LiesIn, fine, fine-end, fine-low, first, four-children, second, sum-four}
use Rattle.flux_register.proofs.SixSides.{axis-opposite, end-opposite, other_end}

-- a cell in its block, by its coordinates along and across
pub along-mod : (a : Axis) (n : ℕ) (c : Cube) → along a (c.x % n) (c.y % n) (c.z % n) ≡ coordinate a c % n
along-mod along_x n c = refl
along-mod along_y n c = refl
along-mod along_z n c = refl

pub first-mod : (a : Axis) (n : ℕ) (c : Cube) → across_first a (c.x % n) (c.y % n) (c.z % n) ≡ first a c % n
first-mod along_x n c = refl
first-mod along_y n c = refl
first-mod along_z n c = refl

pub second-mod : (a : Axis) (n : ℕ) (c : Cube) → across_second a (c.x % n) (c.y % n) (c.z % n) ≡ second a c % n
second-mod along_x n c = refl
second-mod along_y n c = refl
second-mod along_z n c = refl

-- the kept fluxes through the first and the last faces
kept-low : (b : BlockState) (faces : FaceFluxState) (f : ℕ) (a : Axis) (u i j v w : ℕ) → u ≡ 0 → i ≡ v → j ≡ w → kept_flux b faces f a u i j ≡ slice_index (low_of faces f a) (face_number b.edge v w)
kept-low b faces f a u i j v w e g k =
    ap (λ (t : ℕ). kept_flux b faces f a t i j) e ∙ (ap (λ (t : ℕ). slice_index (low_of faces f a) (face_number b.edge t j)) g ∙ ap (λ (t : ℕ). slice_index (low_of faces f a) (face_number b.edge v t)) k)

kept-high : (b : BlockState) (faces : FaceFluxState) (f : ℕ) (a : Axis) (u i j v w : ℕ) → 0 < b.edge → u ≡ b.edge → i ≡ v → j ≡ w → kept_flux b faces f a u i j ≡ slice_index (high_of faces f a) (face_number b.edge v w)
kept-high b faces f a u i j v w some e g k =
    let low = slice_index (low_of faces f a) (face_number b.edge i j) in
    let high = slice_index (high_of faces f a) (face_number b.edge i j) in
    cond-false (u == 0) low _ (ne_eqb u 0 (λ z. omega (arith, z, e, some)))
    ∙ (cond-true (u == b.edge) high _ (eq-eqb u b.edge e)
    ∙ (ap (λ (t : ℕ). slice_index (high_of faces f a) (face_number b.edge t j)) g ∙ ap (λ (t : ℕ). slice_index (high_of faces f a) (face_number b.edge v t)) k))

module _ (s : State) (fluxes : Fluxes) (k : FluxPart) (has : HasFluxesOf s fluxes k.before k.faces) (edge : k.before.edge ≡ s.edge) (some : 0 < s.edge) (f : ℕ) (known : f < s.fields) (a : Axis) where
  -- the flux through a face at which the block begins, and through one at which it ends
  pub low-flux : (w : Cube) (i j : ℕ) → LiesIn a s.edge k.before.place w 0 i j → slice_index (low_of k.faces f a) (face_number s.edge i j) ≡ fluxes.level_flux f a w
  low-flux w i j lies =
      let x = w.x % s.edge in let y = w.y % s.edge in let z = w.z % s.edge in
      ap (λ (m : ℕ). slice_index (low_of k.faces f a) (face_number m i j)) (sym edge)
      ∙ (sym (kept-low k.before k.faces f a (along a x y z) (across_first a x y z) (across_second a x y z) i j (along-mod a s.edge w ∙ lies.along) (first-mod a s.edge w ∙ lies.first) (second-mod a s.edge w ∙ lies.second))
      ∙ has.before f a w known lies.place)

  pub high-flux : (w : Cube) (i j : ℕ) → LiesIn a s.edge k.before.place w (s.edge - 1) i j → slice_index (high_of k.faces f a) (face_number s.edge i j) ≡ fluxes.level_flux f a (next_cell a s.grid s.edge w)
  high-flux w i j lies =
      let x = w.x % s.edge in let y = w.y % s.edge in let z = w.z % s.edge in
      ap (λ (m : ℕ). slice_index (high_of k.faces f a) (face_number m i j)) (sym edge)
      ∙ (sym (kept-high k.before k.faces f a (along a x y z + 1) (across_first a x y z) (across_second a x y z) i j (omega (arith, edge, some)) (let e = along-mod a s.edge w in omega (arith, e, lies.along, edge, some)) (first-mod a s.edge w ∙ lies.first) (second-mod a s.edge w ∙ lies.second))
      ∙ has.after f a w known lies.place)

-- a cell is behind a piece
pub record Behind (a : Axis) (end : Bool) (n : ℕ) (place c : Cube) : Type 0 where
  pub along : coordinate a c % n ≡ cond end (n - 1) 0
  pub first : first a c % n / (n / 2) ≡ first a place % 2
  pub second : second a c % n / (n / 2) ≡ second a place % 2

three_tests : (a b c d e f : ℕ) → ((a == b) && (c == d) && (e == f)) ≡ true → (a ≡ b) × (c ≡ d) × (e ≡ f)
three_tests a b c d e f h = grind (arith, nat_tests)

pub three_true : (a b c d e f : ℕ) → a ≡ b → c ≡ d → e ≡ f → ((a == b) && (c == d) && (e == f)) ≡ true
three_true a b c d e f g h k = grind (arith, nat_tests)

pub behind-is : (q : FluxPieceState) (c : Cube) → is_behind q (c.x % q.edge) (c.y % q.edge) (c.z % q.edge) ≡ true → Behind (axis_of q.side) (is_end q.side) q.edge q.place c
behind-is q c h =
    let a = axis_of q.side in let n = q.edge in
    let x = c.x % n in let y = c.y % n in let z = c.z % n in
    let t = three_tests (along a x y z) (cond (is_end q.side) (n - 1) 0) (across_first a x y z / (n / 2)) (first a q.place % 2) (across_second a x y z / (n / 2)) (second a q.place % 2) h in
    record {
      along = sym (along-mod a n c) ∙ t.0;
      first = ap (λ (u : ℕ). u / (n / 2)) (sym (first-mod a n c)) ∙ t.1;
      second = ap (λ (u : ℕ). u / (n / 2)) (sym (second-mod a n c)) ∙ t.2;
    }

pub is-behind : (q : FluxPieceState) (c : Cube) → Behind (axis_of q.side) (is_end q.side) q.edge q.place c → is_behind q (c.x % q.edge) (c.y % q.edge) (c.z % q.edge) ≡ true
is-behind q c b =
    let a = axis_of q.side in let n = q.edge in
    let x = c.x % n in let y = c.y % n in let z = c.z % n in
    three_true (along a x y z) (cond (is_end q.side) (n - 1) 0) (across_first a x y z / (n / 2)) (first a q.place % 2) (across_second a x y z / (n / 2)) (second a q.place % 2)
    (along-mod a n c ∙ b.along) (ap (λ (u : ℕ). u / (n / 2)) (first-mod a n c) ∙ b.first) (ap (λ (u : ℕ). u / (n / 2)) (second-mod a n c) ∙ b.second)

-- ---- four fluxes

-- the sum of four fluxes behind the face with these coordinates
four-of : (n : ℕ) (q : List ℕ) (i j : ℕ) → 0 < n / 2 → i < n / 2 → j < n / 2 → slice_index (sums_of_four n q) (face_number (n / 2) i j)
    ≡ slice_index q (face_number n (2 * i + 0) (2 * j + 0)) + slice_index q (face_number n (2 * i + 1) (2 * j + 0)) + slice_index q (face_number n (2 * i + 0) (2 * j + 1)) + slice_index q (face_number n (2 * i + 1) (2 * j + 1))
four-of n q i j some hi hj =
    let h = n / 2 in
    let k = face_number h i j in
    let within : k < h * h = mul-add-lt j h i h hj hi in
    let fi : k % h ≡ i = mod-mul-add j h i hi in
    let fj : k / h ≡ j = div-mul-add j h i hi in
    let at : ℕ → ℕ → ℕ = λ u v. slice_index q (face_number n (2 * u + 0) (2 * v + 0)) + slice_index q (face_number n (2 * u + 1) (2 * v + 0)) + slice_index q (face_number n (2 * u + 0) (2 * v + 1)) + slice_index q (face_number n (2 * u + 1) (2 * v + 1)) in
    get_or-map-range_with_len (sum_of_four n q) 0 (h * h) k k 0 within (let e : 0 + k ≡ k = omega arith in e)
    ∙ (plain (k % h) (k / h) ∙ (ap (λ (u : ℕ). at u (k / h)) fi ∙ ap (at i) fj))
  where
    plain : (u v : ℕ) → slice_index q (face_number n (2 * u) (2 * v)) + slice_index q (face_number n (2 * u + 1) (2 * v)) + slice_index q (face_number n (2 * u) (2 * v + 1)) + slice_index q (face_number n (2 * u + 1) (2 * v + 1))
        ≡ slice_index q (face_number n (2 * u + 0) (2 * v + 0)) + slice_index q (face_number n (2 * u + 1) (2 * v + 0)) + slice_index q (face_number n (2 * u + 0) (2 * v + 1)) + slice_index q (face_number n (2 * u + 1) (2 * v + 1))
    plain u v = ap (λ (t : ℕ). slice_index q (face_number n t (2 * v)) + slice_index q (face_number n (2 * u + 1) (2 * v)) + slice_index q (face_number n t (2 * v + 1)) + slice_index q (face_number n (2 * u + 1) (2 * v + 1))) (let e : 2 * u ≡ 2 * u + 0 = omega arith in e)
        ∙ ap (λ (t : ℕ). slice_index q (face_number n (2 * u + 0) t) + slice_index q (face_number n (2 * u + 1) t) + slice_index q (face_number n (2 * u + 0) (2 * v + 1)) + slice_index q (face_number n (2 * u + 1) (2 * v + 1))) (let e : 2 * v ≡ 2 * v + 0 = omega arith in e)

-- the finer cell lies inside the domain along the axis
fine-along : (a : Axis) (grid : Grid) (n : ℕ) (c : Cube) (b d : ℕ) → IsAlong a grid n c → IsAlong a grid n (fine a c 0 b d)
fine-along along_x grid n c b d h = let e = twice_along grid.trees_x n c.level in omega (arith, e, h)
fine-along along_y grid n c b d h = let e = twice_along grid.trees_y n c.level in omega (arith, e, h)
fine-along along_z grid n c b d h = let e = twice_along grid.trees_z n c.level in omega (arith, e, h)

-- ---- the sums of a right piece

module _ (s : State) (fluxes : Fluxes) (setting : Setting) (same_grid : setting.grid ≡ s.grid) (same_edge : setting.edge ≡ s.edge) (even : s.edge % 2 ≡ 0) (least : 4 ≤ s.edge)
    (face : FluxFace) (is : IsFluxFace s.grid s.leaves face) (sender : FluxPart) (sender_place : sender.before.place ≡ face.place) (sender_edge : sender.before.edge ≡ s.edge)
    (has : HasFluxesOf s fluxes sender.before sender.faces) (faces_edge : sender.faces.edge ≡ s.edge) (faces_fields : sender.faces.fields ≡ s.fields)
    (inside_receiver : IsInside s.grid is.receiver) (inside_sender : IsInside s.grid face.place)
    (f : ℕ) (known : f < s.fields) where
  abbrev pub piece : FluxPieceState
  piece = reduced sender.faces (opposite face.side) (blank setting face)

  abbrev a : Axis
  a = axis_of face.side

  abbrev n : ℕ
  n = s.edge

  abbrev h : ℕ
  h = s.edge / 2

  halves : n ≡ 2 * h
  halves = omega (arith, even)

  some_half : 1 ≤ h
  some_half = omega (arith, least, halves)

  some_edge : 0 < n
  some_edge = omega (arith, least)

  -- the piece's sums, by the sender's fluxes on the side that lies against the receiver
  piece-sum : (end : Bool) (i j : ℕ) → is_end face.side ≡ end → i < h → j < h →
      let q = cond end (low_of sender.faces f a) (high_of sender.faces f a) in
      slice_index (sums_in piece f) (face_number (piece.edge / 2) i j)
      ≡ slice_index q (face_number n (2 * i + 0) (2 * j + 0)) + slice_index q (face_number n (2 * i + 1) (2 * j + 0)) + slice_index q (face_number n (2 * i + 0) (2 * j + 1)) + slice_index q (face_number n (2 * i + 1) (2 * j + 1))
  piece-sum end i j at hi hj =
      let d = opposite face.side in
      let sums : sums_in piece f ≡ sums_of_four sender.faces.edge (fluxes_on sender.faces f d) = get_or-map-range_with_len (λ g. sums_of_four sender.faces.edge (fluxes_on sender.faces g d)) 0 sender.faces.fields f f [] (omega (arith, known, faces_fields)) (let e : 0 + f ≡ f = omega arith in e) in
      let on : fluxes_on sender.faces f d ≡ cond end (low_of sender.faces f a) (high_of sender.faces f a) =
      ap (λ (b : Axis). cond (is_end d) (high_of sender.faces f b) (low_of sender.faces f b)) (axis-opposite face.side is.side)
      ∙ (ap (λ (b : Bool). cond b (high_of sender.faces f a) (low_of sender.faces f a)) (end-opposite face.side is.side ∙ ap other_end at) ∙ turned end) in
      ap (λ (l : List ℕ). slice_index l (face_number (setting.edge / 2) i j)) sums
      ∙ (ap (λ (l : List ℕ). slice_index (sums_of_four sender.faces.edge l) (face_number (setting.edge / 2) i j)) on
      ∙ (ap (λ (m : ℕ). slice_index (sums_of_four m (cond end (low_of sender.faces f a) (high_of sender.faces f a))) (face_number (setting.edge / 2) i j)) faces_edge
      ∙ (ap (λ (m : ℕ). slice_index (sums_of_four n (cond end (low_of sender.faces f a) (high_of sender.faces f a))) (face_number (m / 2) i j)) same_edge
      ∙ four-of n (cond end (low_of sender.faces f a) (high_of sender.faces f a)) i j (omega (arith, some_half)) hi hj)))
    where
      turned : (b : Bool) → cond (other_end b) (high_of sender.faces f a) (low_of sender.faces f a) ≡ cond b (low_of sender.faces f a) (high_of sender.faces f a)
      turned true = refl
      turned false = refl

  module _ (c : Cube) (own : block_of n c ≡ is.receiver) (behind : Behind a (is_end face.side) n face.place c) where
    abbrev i : ℕ
    i = first a c % n % h

    abbrev j : ℕ
    j = second a c % n % h

    small_i : i < h
    small_i = mod_below (first a c % n) h some_half

    small_j : j < h
    small_j = mod_below (second a c % n) h some_half

    -- the sum in the piece for the cell
    abbrev pub sum_there : ℕ
    sum_there = replacing_sum piece f (c.x % n) (c.y % n) (c.z % n)

    sum-at : sum_there ≡ slice_index (sums_in piece f) (face_number (piece.edge / 2) i j)
    sum-at =
        ap (λ (u : ℕ). slice_index (sums_in piece f) (face_number (setting.edge / 2) (u % (setting.edge / 2)) (across_second a (c.x % n) (c.y % n) (c.z % n) % (setting.edge / 2)))) (first-mod a n c)
        ∙ (ap (λ (u : ℕ). slice_index (sums_in piece f) (face_number (setting.edge / 2) (first a c % n % (setting.edge / 2)) (u % (setting.edge / 2)))) (second-mod a n c)
        ∙ ap (λ (m : ℕ). slice_index (sums_in piece f) (face_number (setting.edge / 2) (first a c % n % (m / 2)) (second a c % n % (m / 2)))) same_edge)

    end-cell : (b d : ℕ) → b < 2 → d < 2 → is_end face.side ≡ true → LiesIn a n sender.before.place (fine a (next_cell a s.grid n c) 0 b d) 0 (2 * i + b) (2 * j + d)
    end-cell b d hb hd at =
        let lies = fine-end s.grid n h halves some_half is.receiver face.place c own is.finer b d hb hd a
        (is.beside ∙ ap (λ (t : Bool). cond t (next_cell a s.grid 1 is.receiver) (previous_cell a s.grid 1 is.receiver)) at)
        (is.near ∙ ap (λ (t : Bool). cond t 0 1) at)
        (behind.along ∙ ap (λ (t : Bool). cond t (n - 1) 0) at)
        behind.first behind.second in
        subst (λ (p : Cube). LiesIn a n p (fine a (next_cell a s.grid n c) 0 b d) 0 (2 * i + b) (2 * j + d)) (sym sender_place) lies

    -- on a side at which the block ends
    pub sum-end : is_end face.side ≡ true → sum_there ≡ sum_by (fluxes.level_flux f a) (first_children a (next_cell a s.grid n c))
    sum-end at =
        let v = next_cell a s.grid n c in
        let g = fluxes.level_flux f a in
        let flux : (b d : ℕ) → b < 2 → d < 2 → slice_index (low_of sender.faces f a) (face_number n (2 * i + b) (2 * j + d)) ≡ g (fine a v 0 b d) = λ b d hb hd. low-flux s fluxes sender has sender_edge some_edge f known a (fine a v 0 b d) (2 * i + b) (2 * j + d) (end-cell b d hb hd at) in
        let p = flux 0 0 (omega arith) (omega arith) in
        let q = flux 1 0 (omega arith) (omega arith) in
        let r = flux 0 1 (omega arith) (omega arith) in
        let t = flux 1 1 (omega arith) (omega arith) in
        let four = sum-four g (fine a v 0 0 0) (fine a v 0 1 0) (fine a v 0 0 1) (fine a v 0 1 1) in
        let all = piece-sum true i j at small_i small_j in
        let whole : sum_there ≡ g (fine a v 0 0 0) + g (fine a v 0 1 0) + g (fine a v 0 0 1) + g (fine a v 0 1 1) = sum-at ∙ (all ∙ (let e : slice_index (low_of sender.faces f a) (face_number n (2 * i + 0) (2 * j + 0)) + slice_index (low_of sender.faces f a) (face_number n (2 * i + 1) (2 * j + 0)) + slice_index (low_of sender.faces f a) (face_number n (2 * i + 0) (2 * j + 1)) + slice_index (low_of sender.faces f a) (face_number n (2 * i + 1) (2 * j + 1)) ≡ g (fine a v 0 0 0) + g (fine a v 0 1 0) + g (fine a v 0 0 1) + g (fine a v 0 1 1) = omega (arith, p, q, r, t) in e)) in
        whole ∙ (sym four ∙ ap (sum_by g) (sym (four-children a v)))

    pub end-finer : is_end face.side ≡ true → block_of n (fine a (next_cell a s.grid n c) 0 0 0) ≡ face.place
    end-finer at = (end-cell 0 0 (omega arith) (omega arith) at).place ∙ sender_place

    low-cell : (b d : ℕ) → b < 2 → d < 2 → is_end face.side ≡ false →
        LiesIn a n face.place (previous_cell a s.grid n (fine a c 0 b d)) (n - 1) (2 * i + b) (2 * j + d) × (block_of n (fine a (previous_cell a s.grid n c) 0 b d) ≡ face.place)
    low-cell b d hb hd at =
        fine-low s.grid n h halves some_half is.receiver face.place c own is.finer b d hb hd a inside_receiver inside_sender
        (is.beside ∙ ap (λ (t : Bool). cond t (next_cell a s.grid 1 is.receiver) (previous_cell a s.grid 1 is.receiver)) at)
        (is.near ∙ ap (λ (t : Bool). cond t 0 1) at)
        (behind.along ∙ ap (λ (t : Bool). cond t (n - 1) 0) at)
        behind.first behind.second

    pub low-finer : is_end face.side ≡ false → block_of n (fine a (previous_cell a s.grid n c) 0 0 0) ≡ face.place
    low-finer at = (low-cell 0 0 (omega arith) (omega arith) at).1

    -- on a side at which it begins
    pub sum-low : is_end face.side ≡ false → sum_there ≡ sum_by (fluxes.level_flux f a) (first_children a c)
    sum-low at =
        let g = fluxes.level_flux f a in
        let flux : (b d : ℕ) → b < 2 → d < 2 → slice_index (high_of sender.faces f a) (face_number n (2 * i + b) (2 * j + d)) ≡ g (fine a c 0 b d) = λ b d hb hd.
        let w = fine a c 0 b d in
        let u = previous_cell a s.grid n w in
        let lies = (low-cell b d hb hd at).0 in
        let within_c : IsAlong a s.grid n c = leaf_cell-inside a s.grid n c some_edge (subst (IsInside s.grid) (sym own) inside_receiver) in
        let within_u : IsAlong a s.grid n u = leaf_cell-inside a s.grid n u some_edge (subst (IsInside s.grid) (sym lies.place) inside_sender) in
        high-flux s fluxes sender has sender_edge some_edge f known a u (2 * i + b) (2 * j + d) (subst (λ (p : Cube). LiesIn a n p u (n - 1) (2 * i + b) (2 * j + d)) (sym sender_place) lies)
        ∙ ap g (next_cell-previous a s.grid n w (fine-along a s.grid n c b d within_c) within_u) in
        let p = flux 0 0 (omega arith) (omega arith) in
        let q = flux 1 0 (omega arith) (omega arith) in
        let r = flux 0 1 (omega arith) (omega arith) in
        let t = flux 1 1 (omega arith) (omega arith) in
        let four = sum-four g (fine a c 0 0 0) (fine a c 0 1 0) (fine a c 0 0 1) (fine a c 0 1 1) in
        let all = piece-sum false i j at small_i small_j in
        let whole : sum_there ≡ g (fine a c 0 0 0) + g (fine a c 0 1 0) + g (fine a c 0 0 1) + g (fine a c 0 1 1) = sum-at ∙ (all ∙ (let e : slice_index (high_of sender.faces f a) (face_number n (2 * i + 0) (2 * j + 0)) + slice_index (high_of sender.faces f a) (face_number n (2 * i + 1) (2 * j + 0)) + slice_index (high_of sender.faces f a) (face_number n (2 * i + 0) (2 * j + 1)) + slice_index (high_of sender.faces f a) (face_number n (2 * i + 1) (2 * j + 1)) ≡ g (fine a c 0 0 0) + g (fine a c 0 1 0) + g (fine a c 0 0 1) + g (fine a c 0 1 1) = omega (arith, p, q, r, t) in e)) in
        whole ∙ (sym four ∙ ap (sum_by g) (sym (four-children a c)))

    -- the flux that is replaced
    module _ (k : FluxPart) (receives : k.before.place ≡ is.receiver) (k_edge : k.before.edge ≡ s.edge) (own_has : HasFluxesOf s fluxes k.before k.faces) where
      abbrev pub flux_there : ℕ
      flux_there = replaced_flux k.faces piece f (c.x % n) (c.y % n) (c.z % n)

      flux-at : (end : Bool) → is_end face.side ≡ end → flux_there ≡ slice_index (cond end (high_of k.faces f a) (low_of k.faces f a)) (face_number n (first a c % n) (second a c % n))
      flux-at end at =
          ap (λ (t : Bool). slice_index (cond t (high_of k.faces f a) (low_of k.faces f a)) (face_number setting.edge (across_first a (c.x % n) (c.y % n) (c.z % n)) (across_second a (c.x % n) (c.y % n) (c.z % n)))) at
          ∙ (ap (λ (u : ℕ). slice_index (cond end (high_of k.faces f a) (low_of k.faces f a)) (face_number setting.edge u (across_second a (c.x % n) (c.y % n) (c.z % n)))) (first-mod a n c)
          ∙ (ap (λ (u : ℕ). slice_index (cond end (high_of k.faces f a) (low_of k.faces f a)) (face_number setting.edge (first a c % n) u)) (second-mod a n c)
          ∙ ap (λ (m : ℕ). slice_index (cond end (high_of k.faces f a) (low_of k.faces f a)) (face_number m (first a c % n) (second a c % n))) same_edge))

      pub flux-end : is_end face.side ≡ true → flux_there ≡ fluxes.level_flux f a (next_cell a s.grid n c)
      flux-end at = flux-at true at ∙ high-flux s fluxes k own_has k_edge some_edge f known a c (first a c % n) (second a c % n) (record { place = own ∙ sym receives; along = behind.along ∙ ap (λ (t : Bool). cond t (n - 1) 0) at; first = refl; second = refl })

      pub flux-low : is_end face.side ≡ false → flux_there ≡ fluxes.level_flux f a c
      flux-low at = flux-at false at ∙ low-flux s fluxes k own_has k_edge some_edge f known a c (first a c % n) (second a c % n) (record { place = own ∙ sym receives; along = behind.along ∙ ap (λ (t : Bool). cond t (n - 1) 0) at; first = refl; second = refl })
