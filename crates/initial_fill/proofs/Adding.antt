-- Amounts added to the cells of a block, part by part.
use Rattle.std.proofs.Common.{◌≡◌, ℕ, ◌+◌, ◌*◌, ◌/◌, ◌%◌, ◌<◌, ◌≤◌, Bool, true, false, ◌&&◌, cond, List, length, slice_index, refl, sym, ap, ◌∙◌, arith, ◌⊎◌, inl, inr, mul-le-mul_right}
use Rattle.std.proofs.lemmas.Bool.{cases_lt, cases_order, cond-false, and_right}
use Rattle.std.proofs.lemmas.Bool.Decides.{nat_tests}
use Rattle.std.proofs.lemmas.Nat.{div-add-mod', div-mul-add, div_below, mod-mul-add, mod_below}
use Rattle.block_index.specs.Places.{Cube}
use Rattle.params_check.specs.Amounts.{holds_cell, lies_between}
use Rattle.params_check.specs.declared.shape.Form.{Form}
use Rattle.initial_fill.specs.Lemmas.Adding.{Adds, HasRoom, holds_in_rows, holds_number}

-- ---- by any test

pub Adds-none : (p : ℕ → Bool) (amount : ℕ) (q : List ℕ) → ((j : ℕ) → j < length q → p j ≡ false) → Adds p amount q q
Adds-none p amount q none = record {
  each = λ j h. let e : cond (p j) amount 0 ≡ 0 = cond-false (p j) amount 0 (none j h) in omega arith;
  same_length = refl;
}

pub Adds-same : (p r : ℕ → Bool) (amount : ℕ) (old new : List ℕ) → ((j : ℕ) → j < length old → p j ≡ r j) → Adds p amount old new → Adds r amount old new
Adds-same p r amount old new same w = record {
  each = λ j h. w.each j h ∙ ap (λ b. slice_index old j + cond b amount 0) (same j h);
  same_length = w.same_length;
}

Adds-join : (p q r : ℕ → Bool) (amount : ℕ) (old mid new : List ℕ) → ((j : ℕ) → cond (p j) amount 0 + cond (q j) amount 0 ≡ cond (r j) amount 0) → Adds p amount old mid → Adds q amount mid new → Adds r amount old new
Adds-join p q r amount old mid new both v w = record {
  each = λ j h.
      let a = v.each j h in
      let b = w.each j (let l = v.same_length in omega arith) in
      let c = both j in
      omega arith;
  same_length = w.same_length ∙ v.same_length;
}

-- ---- row after row

rows-join : (a b c u amount : ℕ) (h : Bool) → a ≤ b → b ≤ c → cond (lies_between a b u && h) amount 0 + cond (lies_between b c u && h) amount 0 ≡ cond (lies_between a c u && h) amount 0
rows-join a b c u amount true la lb = grind (arith, nat_tests)
rows-join a b c u amount false la lb =
    let x = cond-false (lies_between a b u && false) amount 0 (and_right (lies_between a b u) false refl) in
    let y = cond-false (lies_between b c u && false) amount 0 (and_right (lies_between b c u) false refl) in
    let z = cond-false (lies_between a c u && false) amount 0 (and_right (lies_between a c u) false refl) in
    omega arith

module _ (form : Form) (n : ℕ) (place : Cube) (amount : ℕ) where
  pub rows_joined : (a b c : ℕ) (old mid new : List ℕ) → a ≤ b → b ≤ c → Adds (holds_in_rows form n place a b) amount old mid → Adds (holds_in_rows form n place b c) amount mid new → Adds (holds_in_rows form n place a c) amount old new
  rows_joined a b c old mid new la lb v w =
      Adds-join (holds_in_rows form n place a b) (holds_in_rows form n place b c) (holds_in_rows form n place a c) amount old mid new
      (λ j. rows-join a b c (j / n) amount (holds_number form n place j) la lb) v w

  -- rows in which nothing is held
  pub rows_without : (a b : ℕ) (q : List ℕ) → ((j : ℕ) → j < length q → a ≤ j / n → j / n < b → holds_number form n place j ≡ false) → Adds (holds_in_rows form n place a b) amount q q
  rows_without a b q none =
      Adds-none (holds_in_rows form n place a b) amount q
      (λ j h.
      elim (cases_lt (j / n) a) [
        | inl l ↦ outside (j / n) (holds_number form n place j) (inl l)
        | inr la ↦
            elim (cases_lt (j / n) b) [
              | inl lb ↦ and_right (lies_between a b (j / n)) (holds_number form n place j) (none j h la lb)
              | inr g ↦ outside (j / n) (holds_number form n place j) (inr g)
            ]
      ])
    where
      outside : (u : ℕ) (h : Bool) → (u < a) ⊎ (b ≤ u) → (lies_between a b u && h) ≡ false
      outside u true (inl l) = grind (arith, nat_tests)
      outside u true (inr g) = grind (arith, nat_tests)
      outside u false e = and_right (lies_between a b u) false refl

  -- the rows of the whole block
  pub rows_all : (old new : List ℕ) → 0 < n → length old ≡ n * n * n → Adds (holds_in_rows form n place 0 (n * n)) amount old new → Adds (holds_number form n place) amount old new
  rows_all old new some long w =
      Adds-same (holds_in_rows form n place 0 (n * n)) (holds_number form n place) amount old new
      (λ j h. within (j / n) (n * n) (holds_number form n place j) (div_below j n (n * n) some (omega arith))) w
    where
      within : (u m : ℕ) (h : Bool) → u < m → (lies_between 0 m u && h) ≡ h
      within u m true l = grind (arith, nat_tests)
      within u m false l = and_right (lies_between 0 m u) false refl

  -- the rows past those that were added to have as much room as before
  pub HasRoom-past : (a b : ℕ) (old new : List ℕ) → a ≤ b → HasRoom n a amount old → Adds (holds_in_rows form n place a b) amount old new → HasRoom n b amount new
  HasRoom-past a b old new la room w = record {
    each = λ j h past.
        let l : j < length old = (let e = w.same_length in omega arith) in
        let e = w.each j l in
        let none : cond (lies_between a b (j / n) && holds_number form n place j) amount 0 ≡ 0 =
        cond-false (lies_between a b (j / n) && holds_number form n place j) amount 0 (past_rows (j / n) (holds_number form n place j) past) in
        let r = room.each j l (omega arith) in
        omega arith;
  }
    where
      past_rows : (u : ℕ) (h : Bool) → b ≤ u → (lies_between a b u && h) ≡ false
      past_rows u true l = grind (arith, nat_tests)
      past_rows u false l = and_right (lies_between a b u) false refl

  -- a stretch of a row
  pub row_between : (y z low high : ℕ) (old new : List ℕ) → 0 < n → y < n → high ≤ n → ((u : ℕ) → u < n → lies_between low high u ≡ holds_cell form (place.x * n + u) (place.y * n + y) (place.z * n + z)) → Adds (lies_between ((z * n + y) * n + low) ((z * n + y) * n + high)) amount old new → Adds (holds_in_rows form n place (z * n + y) (z * n + y + 1)) amount old new
  row_between y z low high old new some hy hh line w =
      let r = z * n + y in
      Adds-same (lies_between (r * n + low) (r * n + high)) (holds_in_rows form n place r (r + 1)) amount old new
      (λ j h.
      let at : j / n * n + j % n ≡ j = div-add-mod' j n in
      let below = mod_below j n some in
      elim (cases_order (j / n) r) [
        | inl e ↦
            let py : j / n % n ≡ y = ap (λ k. k % n) e ∙ mod-mul-add z n y hy in
            let pz : j / n / n ≡ z = ap (λ k. k / n) e ∙ div-mul-add z n y hy in
            let same : r * n + j % n ≡ j = ap (λ k. k * n + j % n) (sym e) ∙ at in
            ap (lies_between (r * n + low) (r * n + high)) (sym same)
            ∙ shifted (r * n) (j % n)
            ∙ line (j % n) below
            ∙ (λ i. holds_cell form (place.x * n + j % n) (place.y * n + sym py i) (place.z * n + sym pz i))
            ∙ sym (in_row (j / n) r (holds_number form n place j) e)
        | inr o ↦
            elim o [
              | inl l ↦
                  let m : (j / n + 1) * n ≤ r * n = mul-le-mul_right n (let k : j / n + 1 ≤ r = omega arith in k) in
                  before (r * n) j (omega arith) ∙ sym (off_row (j / n) r (holds_number form n place j) (inl l))
              | inr g ↦
                  let m : (r + 1) * n ≤ j / n * n = mul-le-mul_right n (let k : r + 1 ≤ j / n = omega arith in k) in
                  past (r * n) j (omega arith) ∙ sym (off_row (j / n) r (holds_number form n place j) (inr g))
            ]
      ])
      w
    where
      shifted : (s u : ℕ) → lies_between (s + low) (s + high) (s + u) ≡ lies_between low high u
      shifted s u = grind (arith, nat_tests)

      before : (s j : ℕ) → j < s → lies_between (s + low) (s + high) j ≡ false
      before s j l = grind (arith, nat_tests)

      past : (s j : ℕ) → s + n ≤ j → lies_between (s + low) (s + high) j ≡ false
      past s j l = grind (arith, nat_tests)

      in_row : (u r : ℕ) (h : Bool) → u ≡ r → (lies_between r (r + 1) u && h) ≡ h
      in_row u r true e = grind (arith, nat_tests)
      in_row u r false e = and_right (lies_between r (r + 1) u) false refl

      off_row : (u r : ℕ) (h : Bool) → (u < r) ⊎ (r < u) → (lies_between r (r + 1) u && h) ≡ false
      off_row u r true (inl l) = grind (arith, nat_tests)
      off_row u r true (inr l) = grind (arith, nat_tests)
      off_row u r false e = and_right (lies_between r (r + 1) u) false refl
