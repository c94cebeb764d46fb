-- The sum over one layer of a block's cells.
use Rattle.std.proofs.Common.{◌≡◌, ℕ, ◌+◌, ◌*◌, ◌/◌, ◌%◌, ◌<◌, ◌==◌, Bool, false, cond, List, Some, length, refl, sym, ap, ◌∙◌, arith, inl, inr, sum, sum_by, slice_get, slice_index}
use Rattle.std.specs.List.{range_with_len}
use Rattle.std.proofs.lemmas.Bool.{cases_Bool, cond-false, cond-true, eq-eqb, eqb-true}
use Rattle.std.proofs.lemmas.Bool.Decides.{nat_tests}
use Rattle.std.proofs.lemmas.List.FromFn.{fill_by_all, get_or-range_with_len, length-range_with_len}
use Rattle.std.proofs.lemmas.Nat.{div-add-mod', div-mul-add, div_below, mod-mul-add, mod_below, mul-add-lt}
use Rattle.std.proofs.lemmas.Option.{get_or_from_slice_get, slice_get-get_or, slice_get_within}
use Rattle.block_index.specs.Places.{Cube}
use Rattle.block_fields.specs.Blocks.{number_at}
use Rattle.block_fields.specs.Cells.{cell_at, cells_of}
use Rattle.block_fields.proofs.CellFacts.{cell_number-cell_at, cells_of-number, slice_get-cells_of}
use Rattle.block_fields.proofs.Sums.{sum-exchange, sum-map, sum-one, sum-same, sum-zero}
use Rattle.block_fields.proofs.Writes.{number_at-apart, number_at-below}
use Rattle.grid_fluxes.specs.Axes.{Axis, along_x, along_y, along_z}
use Rattle.advect.specs.Coordinates.{across_first, across_second, along, face_number, number_along}

-- the numbers in a range
at-range : (m k : ℕ) → k < m → slice_get (range_with_len 0 m) k ≡ Some k
at-range m k h =
    let l = length-range_with_len 0 m in
    slice_get-get_or (range_with_len 0 m) k k (omega (arith, h, l)) ∙ ap Some (get_or-range_with_len 0 m k k h ∙ (let e : 0 + k ≡ k = omega arith in e))

in-range : (m i k : ℕ) → slice_get (range_with_len 0 m) i ≡ Some k → (i < m) × (k ≡ i)
in-range m i k e =
    let l = length-range_with_len 0 m in
    let w = slice_get_within (range_with_len 0 m) i k e in
    let h : i < m = omega (arith, w, l) in
    (h, sym (get_or_from_slice_get (range_with_len 0 m) i k 0 e) ∙ get_or-range_with_len 0 m i 0 h ∙ (let z : 0 + i ≡ i = omega arith in z))

-- a list's sum by number
sum-numbers : (q : List ℕ) (m : ℕ) → length q ≡ m → sum_by (slice_index q) (range_with_len 0 m) ≡ sum q
sum-numbers q m long =
    sym (ap sum (fill_by_all (slice_index q) q m 0 long (λ k h. refl)) ∙ sum-map (λ (x : ℕ). x) (slice_index q) (range_with_len 0 m))

-- by its coordinate along an axis and those across it
number-by_axis : (a : Axis) (n x y z : ℕ) → number_along n a (along a x y z) (across_first a x y z) (across_second a x y z) ≡ number_at n x y z
number-by_axis along_x n x y z = refl
number-by_axis along_y n x y z = refl
number-by_axis along_z n x y z = refl

number_along-below : (a : Axis) (n u i j : ℕ) → u < n → i < n → j < n → number_along n a u i j < n * n * n
number_along-below along_x n u i j hu hi hj = number_at-below n u i j hu hi hj
number_along-below along_y n u i j hu hi hj = number_at-below n i u j hi hu hj
number_along-below along_z n u i j hu hi hj = number_at-below n i j u hi hj hu

number-coordinates : (a : Axis) (n x y z u i j : ℕ) → x < n → y < n → u < n → i < n → j < n → number_at n x y z ≡ number_along n a u i j → (along a x y z ≡ u) × (across_first a x y z ≡ i) × (across_second a x y z ≡ j)
number-coordinates along_x n x y z u i j hx hy hu hi hj e = let o = number_at-apart n x y z u i j hx hy hu hi e in (o.0, o.1, o.2)
number-coordinates along_y n x y z u i j hx hy hu hi hj e = let o = number_at-apart n x y z i u j hx hy hi hu e in (o.1, o.0, o.2)
number-coordinates along_z n x y z u i j hx hy hu hi hj e = let o = number_at-apart n x y z i j u hx hy hi hj e in (o.2, o.0, o.1)

across-below : (a : Axis) (n x y z : ℕ) → x < n → y < n → z < n → (across_first a x y z < n) × (across_second a x y z < n)
across-below along_x n x y z hx hy hz = (hy, hz)
across-below along_y n x y z hx hy hz = (hx, hz)
across-below along_z n x y z hx hy hz = (hx, hy)

abbrev pub along_in : ℕ → Axis → Cube → ℕ
along_in n a c = along a (c.x % n) (c.y % n) (c.z % n)

abbrev pub face_in : ℕ → Axis → Cube → ℕ
face_in n a c = face_number n (across_first a (c.x % n) (c.y % n) (c.z % n)) (across_second a (c.x % n) (c.y % n) (c.z % n))

-- of each cell in a layer along an axis the number of its face
abbrev pub in_layer : ℕ → Axis → ℕ → List ℕ → Cube → ℕ
in_layer n a u q c = cond (along_in n a c == u) (slice_index q (face_in n a c)) 0

module _ (n : ℕ) (some : 0 < n) (b : Cube) (a : Axis) (u : ℕ) (hu : u < n) (q : List ℕ) (long : length q ≡ n * n) where
  -- what a cell gives to the sum at a number
  abbrev weight : Cube → ℕ → ℕ
  weight c k = cond (along_in n a c == u) (cond (face_in n a c == k) (slice_index q k) 0) 0

  face-below : (c : Cube) → face_in n a c < n * n
  face-below c =
      let h = across-below a n (c.x % n) (c.y % n) (c.z % n) (mod_below c.x n some) (mod_below c.y n some) (mod_below c.z n some) in
      mul-add-lt (across_second a (c.x % n) (c.y % n) (c.z % n)) n (across_first a (c.x % n) (c.y % n) (c.z % n)) n h.1 h.0

  one-cell : (c : Cube) → in_layer n a u q c ≡ sum_by (weight c) (range_with_len 0 (n * n))
  one-cell c =
      elim (cases_Bool (along_in n a c == u)) [
        | inl here ↦
            ap (λ (t : Bool). cond t (slice_index q (face_in n a c)) 0) here
            ∙ sym (sum-one (weight c) (range_with_len 0 (n * n)) (face_in n a c) (face_in n a c) (at-range (n * n) (face_in n a c) (face-below c))
            (λ j k e other.
            let w = in-range (n * n) j k e in
            ap (λ (t : Bool). cond t (cond (face_in n a c == k) (slice_index q k) 0) 0) here
            ∙ (let no : (face_in n a c == k) ≡ false = grind (arith, nat_tests) in ap (λ (t : Bool). cond t (slice_index q k) 0) no))
            ∙ (λ t. cond (here t) (cond (eq-eqb (face_in n a c) (face_in n a c) refl t) (slice_index q (face_in n a c)) 0) 0))
        | inr away ↦
            ap (λ (t : Bool). cond t (slice_index q (face_in n a c)) 0) away
            ∙ sym (sum-zero (weight c) (range_with_len 0 (n * n)) (λ j k e. ap (λ (t : Bool). cond t (cond (face_in n a c == k) (slice_index q k) 0) 0) away))
      ]

  -- at each number one cell counts
  module _ (k : ℕ) (h : k < n * n) where
    hi : k % n < n
    hi = mod_below k n some

    hj : k / n < n
    hj = div_below k n n some h

    ht : number_along n a u (k % n) (k / n) < n * n * n
    ht = number_along-below a n u (k % n) (k / n) hu hi hj

    it-coordinates : (along_in n a (cell_at n b (number_along n a u (k % n) (k / n))) ≡ u) × (face_in n a (cell_at n b (number_along n a u (k % n) (k / n))) ≡ k)
    it-coordinates =
        let c = cell_at n b (number_along n a u (k % n) (k / n)) in
        let o = number-coordinates a n (c.x % n) (c.y % n) (c.z % n) u (k % n) (k / n) (mod_below c.x n some) (mod_below c.y n some) hu hi hj (cell_number-cell_at n some b (number_along n a u (k % n) (k / n)) ht) in
        (o.0, (λ r. face_number n (o.1 r) (o.2 r)) ∙ div-add-mod' k n)

    one-number : sum_by (λ c. weight c k) (cells_of n b) ≡ slice_index q k
    one-number =
        let c = cell_at n b (number_along n a u (k % n) (k / n)) in
        let at = it-coordinates in
        sum-one (λ c. weight c k) (cells_of n b) (number_along n a u (k % n) (k / n)) c (slice_get-cells_of n some b (number_along n a u (k % n) (k / n)) ht)
        (λ m d e other. elim (cases_Bool (along_in n a d == u)) [
          | inr away ↦ cond-false (along_in n a d == u) (cond (face_in n a d == k) (slice_index q k) 0) 0 away
          | inl here ↦ elim (cases_Bool (face_in n a d == k)) [
            | inr away ↦ cond-true (along_in n a d == u) (cond (face_in n a d == k) (slice_index q k) 0) 0 here ∙ cond-false (face_in n a d == k) (slice_index q k) 0 away
            | inl there ↦ absurd (other (same d m e (eqb-true (along_in n a d) u here) (eqb-true (face_in n a d) k there)))
          ]
        ])
        ∙ cond-true (along_in n a c == u) (cond (face_in n a c == k) (slice_index q k) 0) 0 (eq-eqb (along_in n a c) u at.0)
        ∙ cond-true (face_in n a c == k) (slice_index q k) 0 (eq-eqb (face_in n a c) k at.1)
      where
        same : (d : Cube) (m : ℕ) → slice_get (cells_of n b) m ≡ Some d → along_in n a d ≡ u → face_in n a d ≡ k → m ≡ number_along n a u (k % n) (k / n)
        same d m e on is =
            let x = d.x % n in let y = d.y % n in let z = d.z % n in
            let r = across-below a n x y z (mod_below d.x n some) (mod_below d.y n some) (mod_below d.z n some) in
            let first : across_first a x y z ≡ k % n = sym (mod-mul-add (across_second a x y z) n (across_first a x y z) r.0) ∙ ap (λ v. v % n) is in
            let second : across_second a x y z ≡ k / n = sym (div-mul-add (across_second a x y z) n (across_first a x y z) r.0) ∙ ap (λ v. v / n) is in
            sym (cells_of-number n some b m d e)
            ∙ sym (number-by_axis a n x y z)
            ∙ (λ v. number_along n a (on v) (first v) (second v))

  pub layer-sum : sum_by (in_layer n a u q) (cells_of n b) ≡ sum q
  layer-sum =
      sum-same (in_layer n a u q) (λ c. sum_by (weight c) (range_with_len 0 (n * n))) (cells_of n b) (λ m c e. one-cell c)
      ∙ sum-exchange weight (cells_of n b) (range_with_len 0 (n * n))
      ∙ sum-same (λ k. sum_by (λ c. weight c k) (cells_of n b)) (slice_index q) (range_with_len 0 (n * n)) (λ m k e.
      let w = in-range (n * n) m k e in
      one-number k (omega (arith, w.0, w.1)))
      ∙ sum-numbers q (n * n) long
