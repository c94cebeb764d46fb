-- The amount of a root cell as a sum over shapes, shape by shape, and how large it is.
use Rattle.std.proofs.Common.{◌≡◌, ℕ, zero, suc, ◌+◌, ◌*◌, ◌/◌, ◌%◌, ◌<◌, ◌≤◌, Bool, true, false, ◌&&◌, ◌==◌, cond, List, length, get_or, slice_index, take, ap, arith, inl, inr, le_trans, eq-eqb, ne_eqb}
use Rattle.std.proofs.lemmas.Bool.{cases_lt}
use Rattle.std.proofs.lemmas.List.Sums.{sum_by_more}
use Rattle.block_index.specs.Places.{Cube, Grid}
use Rattle.cello_num.specs.Sums.{sum_below}
use Rattle.params_check.specs.declared.shape.Shape.{Shape}
use Rattle.params_check.specs.Amounts.{initial_total, root_amount}
use Rattle.initial_fill.specs.Lemmas.Adding.{Adds, holds_number}

-- one value is at most the sum
sum_below-term : (f : ℕ → ℕ) (n k : ℕ) → k < n → f k ≤ sum_below n f
sum_below-term f zero k h = absurd (omega arith)
sum_below-term f (suc n) k h =
    elim (cases_lt k n) [
      | inl l ↦ let w = sum_below-term f n k l in omega arith
      | inr g ↦ let e : k ≡ n = omega arith in grind (arith, e)
    ]

pub root_amount-initial_total : (grid : Grid) (n : ℕ) (shapes : List Shape) (f x y z : ℕ) → x < grid.trees_x * n → y < grid.trees_y * n → z < grid.trees_z * n → root_amount shapes f x y z ≤ initial_total grid n shapes f
root_amount-initial_total grid n shapes f x y z hx hy hz =
    le_trans (sum_below-term (λ x. root_amount shapes f x y z) (grid.trees_x * n) x hx)
    (le_trans (sum_below-term (λ y. sum_below (grid.trees_x * n) (λ x. root_amount shapes f x y z)) (grid.trees_y * n) y hy)
    (sum_below-term (λ z. sum_below (grid.trees_y * n) (λ y. sum_below (grid.trees_x * n) (λ x. root_amount shapes f x y z))) (grid.trees_z * n) z hz))

-- ---- shape by shape

-- what shapes give to the cell with a number in the block at a place
abbrev pub amount_of_number : List Shape → ℕ → ℕ → Cube → ℕ → ℕ
amount_of_number shapes f n place j = root_amount shapes f (place.x * n + j % n) (place.y * n + j / n % n) (place.z * n + j / n / n)

module _ (shapes : List Shape) (i : ℕ) (d : Shape) (f n : ℕ) (place : Cube) (within : i < length shapes) where
  more : (j : ℕ) → amount_of_number (take (i + 1) shapes) f n place j ≡ amount_of_number (take i shapes) f n place j + cond (((get_or shapes i d).field == f) && holds_number (get_or shapes i d).form n place j) (get_or shapes i d).amount 0
  more j = sum_by_more (λ s. cond ((s.field == f) && holds_number s.form n place j) s.amount 0) shapes i d within

  -- one more shape of the field
  pub added_more : (old new : List ℕ) → (get_or shapes i d).field ≡ f → ((j : ℕ) → j < length old → slice_index old j ≡ amount_of_number (take i shapes) f n place j) → Adds (holds_number (get_or shapes i d).form n place) (get_or shapes i d).amount old new → (j : ℕ) → j < length old → slice_index new j ≡ amount_of_number (take (i + 1) shapes) f n place j
  added_more old new same before w j h =
      let s = get_or shapes i d in
      let e : cond ((s.field == f) && holds_number s.form n place j) s.amount 0 ≡ cond (holds_number s.form n place j) s.amount 0 =
      ap (λ b. cond (b && holds_number s.form n place j) s.amount 0) (eq-eqb s.field f same) in
      omega (arith, w.each j h, before j h, more j, e)

  -- one more shape, of another field
  pub added_stays : (old : List ℕ) → ((get_or shapes i d).field ≡ f → ⊥) → ((j : ℕ) → j < length old → slice_index old j ≡ amount_of_number (take i shapes) f n place j) → (j : ℕ) → j < length old → slice_index old j ≡ amount_of_number (take (i + 1) shapes) f n place j
  added_stays old other before j h =
      let s = get_or shapes i d in
      let e : cond ((s.field == f) && holds_number s.form n place j) s.amount 0 ≡ 0 =
      ap (λ b. cond (b && holds_number s.form n place j) s.amount 0) (ne_eqb s.field f other) in
      omega (arith, before j h, more j, e)

-- no cell gets more than the amount
pub added-most : (p : ℕ → Bool) (amount most : ℕ) (old new : List ℕ) → Adds p amount old new → ((j : ℕ) → j < length old → slice_index old j ≤ most) → (j : ℕ) → j < length old → slice_index new j ≤ most + amount
added-most p amount most old new w few j h = at (p j) (w.each j h)
  where
    at : (b : Bool) → slice_index new j ≡ slice_index old j + cond b amount 0 → slice_index new j ≤ most + amount
    at true e = (let k = few j h in omega arith)
    at false e = (let k = few j h in omega arith)
