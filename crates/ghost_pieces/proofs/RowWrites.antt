-- Boxes of lists that are written row by row, plane by plane.
use Rattle.std.proofs.Common.{◌≡◌, ℕ, zero, suc, ◌+◌, ◌-◌, ◌*◌, ◌/◌, ◌%◌, ◌<◌, ◌≤◌, ◌⊎◌, inl, inr, Bool, true, false, ◌&&◌, nat_le, nat_lt, sym, ap, ◌∙◌, subst, arith, List, slice_index, get_or, length, mul-le-mul_right}
use Rattle.std.proofs.lemmas.Bool.{and_from, and_parts, cases_Bool, cases_eq, cases_lt, cond-true, cond-false, false≢true, le-leb, leb-true, lt-ltb, ltb-true}
use Rattle.std.proofs.lemmas.List.FromFn.{fill_by_all}
use Rattle.std.proofs.lemmas.Nat.{div-mul-add, mod-mul-add, div-add-mod', mod_below, div_below}
use Rattle.ghost_pieces.specs.Boxes.{Box}
use Rattle.ghost_pieces.specs.Filing.{is_within, pasted, pasted_at}
use Rattle.ghost_pieces.specs.Lemmas.Rows.{ArePlanes, IsPasted, IsPlane}

-- rows of a long, b to a plane, c planes
pub rows_room : (a b c y z : ℕ) → y < b → z < c → (z * b + y) * a + a ≤ c * b * a
rows_room a b c y z hy hz =
    let p : (z + 1) * b ≤ c * b = mul-le-mul_right b (let e : z + 1 ≤ c = omega arith in e) in
    let r : (z * b + y + 1) * a ≤ c * b * a = mul-le-mul_right a (let e : z * b + y + 1 ≤ c * b = omega arith in e) in
    omega arith

row_before : (a y z : ℕ) → y < z → y * a + a ≤ z * a
row_before a y z h = let r : (y + 1) * a ≤ z * a = mul-le-mul_right a (let e : y + 1 ≤ z = omega arith in e) in omega arith

-- ---- one row more

module _ (at wide from y count : ℕ) (narrow : count ≤ wide) (q before mid after : List ℕ) (plane : IsPlane at wide from y count q before mid) (long : length after ≡ length mid) (row : (i : ℕ) → i < count → slice_index after (at + y * wide + i) ≡ slice_index q (from + y * count + i)) (others : (i : ℕ) → (i < at + y * wide) ⊎ (at + y * wide + count ≤ i) → slice_index after i ≡ slice_index mid i) where
  pub plane_more : IsPlane at wide from (y + 1) count q before after
  plane_more = record { long = long ∙ plane.long; cells = cells; kept = kept }
    where
      cells : (x v : ℕ) → x < count → v < y + 1 → slice_index after (at + v * wide + x) ≡ slice_index q (from + v * count + x)
      cells x v hx hv =
          elim (cases_eq v y) [
            | inl same ↦ subst (λ v. slice_index after (at + v * wide + x) ≡ slice_index q (from + v * count + x)) (sym same) (row x hx)
            | inr other ↦
                let b = row_before wide v y (omega arith) in
                others (at + v * wide + x) (inl (omega arith)) ∙ plane.cells x v hx (omega arith)
          ]

      kept : (i : ℕ) → ((x v : ℕ) → x < count → v < y + 1 → i ≡ at + v * wide + x → ⊥) → slice_index after i ≡ slice_index before i
      kept i n =
          others i (elim (cases_lt i (at + y * wide)) [
            | inl low ↦ inl low
            | inr more ↦
                elim (cases_lt i (at + y * wide + count)) [
                  | inr high ↦ inr high
                  | inl inside ↦ absurd (n (i - (at + y * wide)) y (omega arith) (omega arith) (omega arith))
                ]
          ])
          ∙ plane.kept i (λ x v hx hv e. n x v hx (omega arith) e)

-- ---- one plane more

module _ (mx my k : ℕ) (p : Box) (q before mid after : List ℕ) (narrow : p.x.first + p.x.count ≤ mx) (low : p.y.first + p.y.count ≤ my) (planes : ArePlanes mx my k p q before mid) (plane : IsPlane (((p.z.first + k) * my + p.y.first) * mx + p.x.first) mx (k * p.y.count * p.x.count) p.y.count p.x.count q mid after) where
  abbrev at : ℕ
  at = ((p.z.first + k) * my + p.y.first) * mx + p.x.first

  abbrev place : ℕ → ℕ → ℕ → ℕ
  place x y z = ((p.z.first + z) * my + (p.y.first + y)) * mx + (p.x.first + x)

  lower : (x y z : ℕ) → x < p.x.count → y < p.y.count → z < k → place x y z < at
  lower x y z hx hy hz =
      let a = row_before my (p.z.first + z) (p.z.first + k) (omega arith) in
      let b = row_before mx ((p.z.first + z) * my + (p.y.first + y)) ((p.z.first + k) * my) (omega arith) in
      let c : ((p.z.first + k) * my + p.y.first) * mx ≡ (p.z.first + k) * my * mx + p.y.first * mx = omega arith in
      omega arith

  here : (x y : ℕ) → at + y * mx + x ≡ place x y k
  here x y = omega arith

  pub planes_more : ArePlanes mx my (k + 1) p q before after
  planes_more = record { long = plane.long ∙ planes.long; cells = cells; kept = kept }
    where
      cells : (x y z : ℕ) → x < p.x.count → y < p.y.count → z < k + 1 → slice_index after (((p.z.first + z) * my + (p.y.first + y)) * mx + (p.x.first + x)) ≡ slice_index q ((z * p.y.count + y) * p.x.count + x)
      cells x y z hx hy hz =
          elim (cases_eq z k) [
            | inl same ↦
                subst (λ z. slice_index after (((p.z.first + z) * my + (p.y.first + y)) * mx + (p.x.first + x)) ≡ slice_index q ((z * p.y.count + y) * p.x.count + x)) (sym same)
                (ap (slice_index after) (sym (here x y)) ∙ plane.cells x y hx hy
                ∙ ap (slice_index q) (let e : k * p.y.count * p.x.count + y * p.x.count + x ≡ (k * p.y.count + y) * p.x.count + x = omega arith in e))
            | inr other ↦
                let l = lower x y z hx hy (omega arith) in
                plane.kept (place x y z) (λ u v hu hv e. omega arith) ∙ planes.cells x y z hx hy (omega arith)
          ]

      kept : (i : ℕ) → ((x y z : ℕ) → x < p.x.count → y < p.y.count → z < k + 1 → i ≡ ((p.z.first + z) * my + (p.y.first + y)) * mx + (p.x.first + x) → ⊥) → slice_index after i ≡ slice_index before i
      kept i n =
          plane.kept i (λ x y hx hy e. n x y k hx hy (omega arith) (e ∙ here x y))
          ∙ planes.kept i (λ x y z hx hy hz e. n x y z hx hy (omega arith) e)

-- ---- the whole list

module _ (mx my : ℕ) (p : Box) (q before : List ℕ) (mz : ℕ) (size : length before ≡ mz * my * mx) where
  positive : (i a b : ℕ) → i < a * b → 0 < b
  positive i a zero h = absurd (omega arith)
  positive i a (suc b) h = omega arith

  wide : (i : ℕ) → i < length before → 0 < mx
  wide i h = positive i (mz * my) mx (omega arith)

  high : (i : ℕ) → i < length before → 0 < my
  high i h = inner my (subst (λ n. i < n) size h)
    where
      inner : (b : ℕ) → i < mz * b * mx → 0 < b
      inner zero l = absurd (omega arith)
      inner (suc b) l = omega arith

  back : (i : ℕ) → (i / mx / my * my + i / mx % my) * mx + i % mx ≡ i
  back i = ap (λ r. r * mx + i % mx) (div-add-mod' (i / mx) my) ∙ div-add-mod' i mx

  abbrev test : ℕ → ℕ → ℕ → Bool
  test x y z = is_within p.x x && is_within p.y y && is_within p.z z

  abbrev number : ℕ → ℕ → ℕ → ℕ
  number x y z = ((z - p.z.first) * p.y.count + (y - p.y.first)) * p.x.count + (x - p.x.first)

  inside : (f c x : ℕ) → (nat_le f x && nat_lt x (f + c)) ≡ true → (f ≤ x) × (x < f + c)
  inside f c x t = let o = and_parts (nat_le f x) (nat_lt x (f + c)) t in (leb-true f x o.0, ltb-true x (f + c) o.1)

  stands : (f c x : ℕ) → f ≤ x → x < f + c → (nat_le f x && nat_lt x (f + c)) ≡ true
  stands f c x h k = and_from (nat_le f x) (nat_lt x (f + c)) (le-leb f x h) (lt-ltb x (f + c) k)

  pub pasted-written : (after : List ℕ) → p.x.first + p.x.count ≤ mx → p.y.first + p.y.count ≤ my → IsPasted mx my p q before after → after ≡ pasted mx my p q before
  pasted-written after narrow low w =
      fill_by_all (λ i. pasted_at mx my p q before (i % mx) (i / mx % my) (i / mx / my)) after (length before) 0 w.long (λ i h. at i h (cases_Bool (test (i % mx) (i / mx % my) (i / mx / my))))
    where
      at : (i : ℕ) → i < length before → ((test (i % mx) (i / mx % my) (i / mx / my) ≡ true) ⊎ (test (i % mx) (i / mx % my) (i / mx / my) ≡ false)) → get_or after i 0 ≡ pasted_at mx my p q before (i % mx) (i / mx % my) (i / mx / my)
      at i h (inl t) =
          let x = i % mx in
          let y = i / mx % my in
          let z = i / mx / my in
          let o = and_parts (is_within p.x x && is_within p.y y) (is_within p.z z) t in
          let u = and_parts (is_within p.x x) (is_within p.y y) o.0 in
          let wx = inside p.x.first p.x.count x u.0 in
          let wy = inside p.y.first p.y.count y u.1 in
          let wz = inside p.z.first p.z.count z o.1 in
          let ex : p.x.first + (x - p.x.first) ≡ x = omega arith in
          let ey : p.y.first + (y - p.y.first) ≡ y = omega arith in
          let ez : p.z.first + (z - p.z.first) ≡ z = omega arith in
          let place : ((p.z.first + (z - p.z.first)) * my + (p.y.first + (y - p.y.first))) * mx + (p.x.first + (x - p.x.first)) ≡ i = (λ j. (ez j * my + ey j) * mx + ex j) ∙ back i in
          ap (slice_index after) (sym place)
          ∙ w.cells (x - p.x.first) (y - p.y.first) (z - p.z.first) (omega arith) (omega arith) (omega arith)
          ∙ sym (cond-true (test x y z) (slice_index q (number x y z)) (slice_index before ((z * my + y) * mx + x)) t)
      at i h (inr none) =
          let x = i % mx in
          let y = i / mx % my in
          let z = i / mx / my in
          w.kept i (λ u v r hu hv hr e.
          let hx : p.x.first + u < mx = omega arith in
          let hy : p.y.first + v < my = omega arith in
          let row : i / mx ≡ (p.z.first + r) * my + (p.y.first + v) = ap (λ n. n / mx) e ∙ div-mul-add ((p.z.first + r) * my + (p.y.first + v)) mx (p.x.first + u) hx in
          let ex : i % mx ≡ p.x.first + u = ap (λ n. n % mx) e ∙ mod-mul-add ((p.z.first + r) * my + (p.y.first + v)) mx (p.x.first + u) hx in
          let ey : i / mx % my ≡ p.y.first + v = ap (λ n. n % my) row ∙ mod-mul-add (p.z.first + r) my (p.y.first + v) hy in
          let ez : i / mx / my ≡ p.z.first + r = ap (λ n. n / my) row ∙ div-mul-add (p.z.first + r) my (p.y.first + v) hy in
          let t : test x y z ≡ true = and_from (is_within p.x x && is_within p.y y) (is_within p.z z)
          (and_from (is_within p.x x) (is_within p.y y) (stands p.x.first p.x.count x (omega arith) (omega arith)) (stands p.y.first p.y.count y (omega arith) (omega arith)))
          (stands p.z.first p.z.count z (omega arith) (omega arith)) in
          false≢true (sym none ∙ t))
          ∙ ap (slice_index before) (sym (back i))
          ∙ sym (cond-false (test x y z) (slice_index q (number x y z)) (slice_index before ((z * my + y) * mx + x)) none)

  -- where the box is all of it
  pub pasted-whole : length q ≡ length before → p.x.first ≡ 0 → p.y.first ≡ 0 → p.z.first ≡ 0 → p.x.count ≡ mx → p.y.count ≡ my → p.z.count ≡ mz → q ≡ pasted mx my p q before
  pasted-whole same fx fy fz cx cy cz =
      fill_by_all (λ i. pasted_at mx my p q before (i % mx) (i / mx % my) (i / mx / my)) q (length before) 0 same (λ i h.
      let x = i % mx in
      let y = i / mx % my in
      let z = i / mx / my in
      let hx = mod_below i mx (wide i h) in
      let hy = mod_below (i / mx) my (high i h) in
      let hz : z < mz = below i h in
      let t : test x y z ≡ true = and_from (is_within p.x x && is_within p.y y) (is_within p.z z)
      (and_from (is_within p.x x) (is_within p.y y) (stands p.x.first p.x.count x (omega arith) (omega arith)) (stands p.y.first p.y.count y (omega arith) (omega arith)))
      (stands p.z.first p.z.count z (omega arith) (omega arith)) in
      let ex : x - p.x.first ≡ x = omega arith in
      let ey : y - p.y.first ≡ y = omega arith in
      let ez : z - p.z.first ≡ z = omega arith in
      let place : number x y z ≡ i = (λ j. (ez j * cy j + ey j) * cx j + ex j) ∙ back i in
      ap (slice_index q) (sym place)
      ∙ sym (cond-true (test x y z) (slice_index q (number x y z)) (slice_index before ((z * my + y) * mx + x)) t))
    where
      below : (i : ℕ) → i < length before → i / mx / my < mz
      below i h =
          let r : i / mx < mz * my = div_below i mx (mz * my) (wide i h) (omega arith) in
          div_below (i / mx) my mz (high i h) r
