-- Of 64 places in a cube of four along each axis the 56 at its outside, counted.
use Rattle.std.proofs.Common.{◌≡◌, ℕ, zero, suc, ◌+◌, ◌-◌, ◌/◌, ◌%◌, ◌≤◌, Bool, false, cond, ◌&&◌, nat_le, refl, ap, ◌∙◌, subst, arith}

abbrev pub is_middle : ℕ → Bool
is_middle k = nat_le 1 k && nat_le k 2

abbrev pub is_inner : ℕ → Bool
is_inner s = is_middle (s % 4) && is_middle (s / 4 % 4) && is_middle (s / 16)

-- how many of the first s places are at the outside
abbrev pub outer_below : ℕ → ℕ
outer_below zero = 0
outer_below (suc s) = outer_below s + cond (is_inner s) 0 1

pub outer_below-outer : (s : ℕ) → is_inner s ≡ false → outer_below (s + 1) ≡ outer_below s + 1
outer_below-outer s e =
    ap outer_below (let f : s + 1 ≡ suc s = omega arith in f) ∙ ap (λ b. outer_below s + cond b 0 1) e

pub outer_below-le : (s : ℕ) → outer_below s ≤ outer_below (s + 1)
outer_below-le s = subst (λ u. outer_below s ≤ outer_below u) (let f : suc s ≡ s + 1 = omega arith in f) (omega arith)

climbs : (k s : ℕ) → outer_below s ≤ outer_below (s + k)
climbs zero s = subst (λ n. outer_below s ≤ outer_below n) (let e : s ≡ s + 0 = omega arith in e) (omega arith)
climbs (suc k) s =
    omega (arith, climbs k s, outer_below-le (s + k), ap outer_below (let e : s + suc k ≡ s + k + 1 = omega arith in e))

all_outer : outer_below 64 ≡ 56
all_outer = refl

pub outer_below-most : (s : ℕ) → s ≤ 64 → outer_below s ≤ 56
outer_below-most s h =
    omega (arith, all_outer, climbs (64 - s) s, ap outer_below (let e : s + (64 - s) ≡ 64 = omega arith in e))
