-- Rows and planes of a block in which a form holds nothing.
use Rattle.std.proofs.Common.{◌≡◌, ℕ, ◌+◌, ◌-◌, ◌*◌, ◌/◌, ◌%◌, ◌^◌, ◌<◌, ◌≤◌, false, List, length, slice_index, sym, ap, ◌∙◌, arith, inl, inr, mul-le-mul_right}
use Rattle.std.proofs.lemmas.Bool.{cases_lt}
use Rattle.std.proofs.lemmas.Bool.Decides.{nat_tests}
use Rattle.std.proofs.lemmas.Nat.{div-add-mod', div_below, mod-mul-add, mod_below}
use Rattle.block_index.specs.Places.{Cube}
use Rattle.params_check.specs.Amounts.{lies_between}
use Rattle.params_check.specs.declared.shape.Form.{Form}
use Rattle.initial_fill.specs.Lemmas.Adding.{Adds, HasRoom, holds_in_rows}
use Rattle.initial_fill.specs.Lemmas.Bounds.{high_along, low_along}
use Rattle.initial_fill.proofs.Adding.{rows_without}
use Rattle.initial_fill.proofs.Bounds.{outside_y, outside_z}

pub before_low : (low high u : ℕ) → u < low → lies_between low high u ≡ false
before_low low high u l = grind (arith, nat_tests)

pub past_high : (low high u : ℕ) → high ≤ u → lies_between low high u ≡ false
past_high low high u l = grind (arith, nat_tests)

-- a number from a multiple on has at least that quotient
pub quotient_least : (a n i : ℕ) → 0 < n → a * n ≤ i → a ≤ i / n
quotient_least a n i some h =
    elim (cases_lt (i / n) a) [
      | inl l ↦
          absurd
          (let m : (i / n + 1) * n ≤ a * n = mul-le-mul_right n (let k : i / n + 1 ≤ a = omega arith in k) in
          let e = div-add-mod' i n in
          let b = mod_below i n some in
          omega arith)
      | inr g ↦ g
    ]

pub row_has_room : (n r low high amount : ℕ) (q : List ℕ) → 0 < n → HasRoom n r amount q → r * n + high ≤ length q → (j : ℕ) → r * n + low ≤ j → j < r * n + high → slice_index q j + amount < 2 ^ 64
row_has_room n r low high amount q some room within j from upto = room.each j (omega arith) (quotient_least r n j some (omega arith))

-- the part of a stretch in a block, where the stretch and the block's first cell are given by equations
pub part_along : (low high l h from lo hi p n : ℕ) → ((u : ℕ) → u < n → lies_between low high u ≡ lies_between l h (from * n + u)) → l ≡ lo → h ≡ hi → from ≡ p → (u : ℕ) → u < n → lies_between low high u ≡ lies_between lo hi (p * n + u)
part_along low high l h from lo hi p n part el eh ef u hu = part u hu ∙ (λ i. lies_between (el i) (eh i) (ef i * n + u))

module _ (form : Form) (n : ℕ) (place : Cube) (amount : ℕ) (some : 0 < n) (low high : ℕ) where
  -- the rows of a plane from a on and below b
  pub plane_without : (z a b : ℕ) (q : List ℕ) → z * n ≤ a → b ≤ z * n + n → ((u : ℕ) → u < n → lies_between low high u ≡ lies_between (low_along form 1) (high_along form 1) (place.y * n + u)) → ((u : ℕ) → a ≤ z * n + u → z * n + u < b → lies_between low high u ≡ false) → Adds (holds_in_rows form n place a b) amount q q
  plane_without z a b q la lb part none =
      rows_without form n place amount a b q
      (λ j h past below.
      let u = j / n - z * n in
      let e : j / n ≡ z * n + u = omega arith in
      let hu : u < n = omega arith in
      let d : j / n % n ≡ u = ap (λ k. k % n) e ∙ mod-mul-add z n u hu in
      outside_y form (place.x * n + j % n) (place.y * n + j / n % n) (place.z * n + j / n / n)
      (ap (λ k. lies_between (low_along form 1) (high_along form 1) (place.y * n + k)) d ∙ sym (part u hu) ∙ none u (omega arith) (omega arith)))

  -- the planes from s on and below t
  pub planes_without : (s t a b : ℕ) (q : List ℕ) → a ≡ s * n → b ≡ t * n → t ≤ n → ((u : ℕ) → u < n → lies_between low high u ≡ lies_between (low_along form 2) (high_along form 2) (place.z * n + u)) → ((u : ℕ) → s ≤ u → u < t → lies_between low high u ≡ false) → Adds (holds_in_rows form n place a b) amount q q
  planes_without s t a b q ea eb lt part none =
      rows_without form n place amount a b q
      (λ j h past below.
      let u = j / n / n in
      let least : s ≤ u = quotient_least s n (j / n) some (omega arith) in
      let most : u < t = div_below (j / n) n t some (omega arith) in
      let hu : u < n = omega arith in
      outside_z form (place.x * n + j % n) (place.y * n + j / n % n) (place.z * n + j / n / n) (sym (part u hu) ∙ none u least most))
