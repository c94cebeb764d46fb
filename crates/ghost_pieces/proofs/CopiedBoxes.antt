-- The box of a piece of the same level, copied in lines of cells that lie evenly apart.
use Rattle.std.proofs.Common.{◌≡◌, ℕ, ◌+◌, ◌*◌, ◌/◌, ◌%◌, ◌<◌, ◌==◌, ◌&&◌, ◌||◌, inl, inr, Bool, true, cond, nat_lt, sym, ap, ◌∙◌, arith, List, slice_index, length}
use Rattle.std.proofs.lemmas.Bool.{and_parts, cases_Bool, cond-true, eq-eqb, eqb-true}
use Rattle.std.proofs.lemmas.Nat.{div-add-mod', div_below, mod_below, mul-add-lt}
use Rattle.std.specs.Prelude.{sum_by}
use Rattle.cello_num.specs.Parts.{part}
use Rattle.block_index.specs.Places.{parent_of, child_number}
use Rattle.leaf_set.specs.NextMesh.{children_of}
use Rattle.ghost_pieces.specs.Ghosts.{Local}
use Rattle.ghost_pieces.specs.Sent.{cell_from, number_from}
use Rattle.ghost_pieces.specs.Lemmas.Fills.{FillsPlane, FillsPlanes, box_sample}
use Rattle.ghost_pieces.specs.Lemmas.Parts.{further}
use Rattle.ghost_pieces.proofs.SentBounds.{number_within}

-- the number of a cell as steps from the first one
number_by_steps : (n x y z a b c i j k : ℕ) → ((z + c * k) * n + (y + b * j)) * n + (x + a * i) ≡ (z * n + y) * n + x + k * (c * (n * n)) + j * (b * n) + i * a
number_by_steps n x y z a b c i j k = omega arith

first_by_steps : (u p q : ℕ) → u + 0 * p + 0 * q ≡ u
first_by_steps u p q = omega arith

goes-on : (r : Bool) → r ≡ true → ◌≡◌ {A = ℕ} (cond r 1 0) 1
goes-on r e = cond-true {A = ℕ} r 1 0 e

-- a line along y goes on through the planes, where there is one plane, or each is as high as a block
pub follows : (n cy cz : ℕ) (rz : Bool) → ((cz == 1) || ((cy == n) && rz)) ≡ true → (k : ℕ) → k < cz → k * cy ≡ cond rz 1 0 * k * n
follows n cy cz rz h k l =
    elim (cases_Bool (cz == 1)) [
      | inl t ↦
          let one = eqb-true cz 1 t in
          let e : k ≡ 0 = omega arith in
          (λ i. e i * cy) ∙ (let z : 0 * cy ≡ cond rz 1 0 * 0 * n = omega arith in z) ∙ (λ i. cond rz 1 0 * sym e i * n)
      | inr f ↦
          let b : ((cy == n) && rz) ≡ true = sym (ap (λ a. a || ((cy == n) && rz)) f) ∙ h in
          let o = and_parts (cy == n) rz b in
          let e = eqb-true cy n o.0 in
          (λ i. k * e i) ∙ (let z : k * n ≡ 1 * k * n = omega arith in z) ∙ (λ i. sym (goes-on rz o.1) i * k * n)
    ]

module _ (n l m : ℕ) (q : List ℕ) (same : l ≡ m) (x : ℕ) (rx : Bool) (y : ℕ) (ry : Bool) (z : ℕ) (rz : Bool) where
  abbrev number : ℕ → ℕ → ℕ → ℕ
  number i j k = (further z rz k * n + further y ry j) * n + further x rx i

  abbrev first : ℕ
  first = (z * n + y) * n + x

  sample-copied : (i j k : ℕ) → box_sample n l m q x rx y ry z rz i j k ≡ slice_index q (number i j k)
  sample-copied i j k =
      let o : Local = record { x = further x rx i; y = further y ry j; z = further z rz k } in
      cond-true (l == m) (slice_index q (number_from n (cell_from l o)))
      (cond (nat_lt m l) (part (slice_index q (number_from n (parent_of (cell_from l o)))) (child_number (cell_from l o))) (sum_by (λ e. slice_index q (number_from n e)) (children_of (cell_from l o))))
      (eq-eqb l m same)

  number-steps : (i j k : ℕ) → number i j k ≡ first + k * (cond rz 1 0 * (n * n)) + j * (cond ry 1 0 * n) + i * cond rx 1 0
  number-steps i j k = number_by_steps n x y z (cond rx 1 0) (cond ry 1 0) (cond rz 1 0) i j k

  -- a line of cells along z
  module _ (cz s : ℕ) (step : s ≡ cond rz 1 0 * (n * n)) where
    deep-number : (k : ℕ) → number 0 0 k ≡ first + k * s
    deep-number k =
        number-steps 0 0 k
        ∙ first_by_steps (first + k * (cond rz 1 0 * (n * n))) (cond ry 1 0 * n) (cond rx 1 0)
        ∙ ap (λ u. first + k * u) (sym step)

    pub deep_cells : further x rx 0 < n → further y ry 0 < n → ((k : ℕ) → k < cz → further z rz k < n) → (k : ℕ) → k < cz → (z * n + y) * n + x + k * s < n * n * n
    deep_cells hx hy hz k h =
        let r = number_within n (further x rx 0) (further y ry 0) (further z rz k) hx hy (hz k h) in
        let e = deep-number k in
        omega arith

    pub deep_line : (cx cy : ℕ) (before after : List ℕ) → cx ≡ 1 → cy ≡ 1 → length after ≡ length before → ((k : ℕ) → k < cz → slice_index after (0 + k) ≡ slice_index q ((z * n + y) * n + x + k * s)) → FillsPlanes (box_sample n l m q x rx y ry z rz) cx cy cz before after
    deep_line cx cy before after ex ey long line = record { long = long; cells = cells }
      where
        cells : (i j k : ℕ) → i < cx → j < cy → k < cz → slice_index after ((k * cy + j) * cx + i) ≡ box_sample n l m q x rx y ry z rz i j k
        cells i j k hi hj hk =
            let ei : i ≡ 0 = omega arith in
            let ej : j ≡ 0 = omega arith in
            let place : (k * cy + j) * cx + i ≡ (k * 1 + 0) * 1 + 0 = λ t. (k * ey t + ej t) * ex t + ei t in
            let at : (k * 1 + 0) * 1 + 0 ≡ 0 + k = omega arith in
            let back : number 0 0 k ≡ number i j k = λ t. number (sym ei t) (sym ej t) k in
            ap (slice_index after) (place ∙ at) ∙ line k hk ∙ ap (slice_index q) (sym (deep-number k) ∙ back) ∙ sym (sample-copied i j k)

  -- a line of cells along y, which goes on from plane to plane
  module _ (cy cz : ℕ) (go : ry ≡ true) (follow : (k : ℕ) → k < cz → k * cy ≡ cond rz 1 0 * k * n) where
    high-number : (j k : ℕ) → k < cz → number 0 j k ≡ first + (k * cy + j) * n
    high-number j k h =
        let s = number-steps 0 j k in
        let a : k * (cond rz 1 0 * (n * n)) ≡ cond rz 1 0 * k * n * n = omega arith in
        let f : cond rz 1 0 * k * n * n ≡ k * cy * n = ap (λ u. u * n) (sym (follow k h)) in
        let g : j * (cond ry 1 0 * n) ≡ j * (1 * n) = ap (λ u. j * (u * n)) (goes-on ry go) in
        s ∙ (λ t. first + (a ∙ f) t + g t + 0 * cond rx 1 0) ∙ (let e : first + k * cy * n + j * (1 * n) + 0 * cond rx 1 0 ≡ first + (k * cy + j) * n = omega arith in e)

    pub high_cells : further x rx 0 < n → ((j : ℕ) → j < cy → further y ry j < n) → ((k : ℕ) → k < cz → further z rz k < n) → 0 < cy → (t : ℕ) → t < cz * cy → (z * n + y) * n + x + t * n < n * n * n
    high_cells hx hy hz some t h =
        let j = t % cy in
        let k = t / cy in
        let hj = mod_below t cy some in
        let hk = div_below t cy cz some h in
        let r = number_within n (further x rx 0) (further y ry j) (further z rz k) hx (hy j hj) (hz k hk) in
        let e = high-number j k hk in
        let f : (k * cy + j) * n ≡ t * n = ap (λ u. u * n) (div-add-mod' t cy) in
        omega arith

    pub high_line : (cx : ℕ) (before after : List ℕ) → cx ≡ 1 → length after ≡ length before → ((t : ℕ) → t < cz * cy → slice_index after (0 + t) ≡ slice_index q ((z * n + y) * n + x + t * n)) → FillsPlanes (box_sample n l m q x rx y ry z rz) cx cy cz before after
    high_line cx before after ex long line = record { long = long; cells = cells }
      where
        cells : (i j k : ℕ) → i < cx → j < cy → k < cz → slice_index after ((k * cy + j) * cx + i) ≡ box_sample n l m q x rx y ry z rz i j k
        cells i j k hi hj hk =
            let ei : i ≡ 0 = omega arith in
            let place : (k * cy + j) * cx + i ≡ (k * cy + j) * 1 + 0 = λ t. (k * cy + j) * ex t + ei t in
            let at : (k * cy + j) * 1 + 0 ≡ 0 + (k * cy + j) = omega arith in
            let below = mul-add-lt k cy j cz hk hj in
            let back : number 0 j k ≡ number i j k = λ t. number (sym ei t) j k in
            ap (slice_index after) (place ∙ at) ∙ line (k * cy + j) (omega arith) ∙ ap (slice_index q) (sym (high-number j k hk) ∙ back) ∙ sym (sample-copied i j k)

  -- rows that follow one another in each plane
  module _ (cx cy cz s : ℕ) (wide : cx ≡ n) (goes_x : rx ≡ true) (goes_y : ry ≡ true) (step : s ≡ cond rz 1 0 * (n * n)) where
    rows-number : (i j k : ℕ) → number i j k ≡ first + k * s + (j * n + i)
    rows-number i j k =
        number-steps i j k
        ∙ (λ t. first + k * sym step t + j * (goes-on ry goes_y t * n) + i * goes-on rx goes_x t)
        ∙ (let e : first + k * s + j * (1 * n) + i * 1 ≡ first + k * s + (j * n + i) = omega arith in e)

    pub rows_cells : ((i : ℕ) → i < cx → further x rx i < n) → ((j : ℕ) → j < cy → further y ry j < n) → ((k : ℕ) → k < cz → further z rz k < n) → 0 < n → (u k : ℕ) → u < n * cy → k < cz → (z * n + y) * n + x + k * s + u < n * n * n
    rows_cells hx hy hz some u k hu hk =
        let i = u % n in
        let j = u / n in
        let hi = mod_below u n some in
        let hj = div_below u n cy some (omega arith) in
        let r = number_within n (further x rx i) (further y ry j) (further z rz k) (hx i (omega arith)) (hy j hj) (hz k hk) in
        let e = rows-number i j k in
        let f = div-add-mod' u n in
        omega arith

    pub whole_rows : (before after : List ℕ) → FillsPlane (λ i k. slice_index q ((z * n + y) * n + x + k * s + i)) 0 (n * cy) cz before after → FillsPlanes (box_sample n l m q x rx y ry z rz) cx cy cz before after
    whole_rows before after plane = record { long = plane.long; cells = cells }
      where
        cells : (i j k : ℕ) → i < cx → j < cy → k < cz → slice_index after ((k * cy + j) * cx + i) ≡ box_sample n l m q x rx y ry z rz i j k
        cells i j k hi hj hk =
            let u = j * n + i in
            let below = mul-add-lt j n i cy hj (omega arith) in
            let place : (k * cy + j) * cx + i ≡ (k * cy + j) * n + i = λ t. (k * cy + j) * wide t + i in
            let at : (k * cy + j) * n + i ≡ 0 + k * (n * cy) + (j * n + i) = omega arith in
            ap (slice_index after) (place ∙ at) ∙ plane.cells u k (omega arith) hk ∙ ap (slice_index q) (sym (rows-number i j k)) ∙ sym (sample-copied i j k)
