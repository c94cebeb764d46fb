-- Tests of the cells of a block, of one field. A cell is named by its coordinates in the block.
use Rattle.std.specs.Prelude.{◌≡◌, ◌⊎◌, ℕ, zero, suc, ◌+◌, ◌-◌, ◌*◌, min, max, Bool, true, false, ◌&&◌, ◌||◌, nat_le, nat_lt, ℤ, pos}
use Rattle.criteria.specs.Samples.{FieldSamples, before}

-- whether some of the first n numbers passes a test, and whether each does
abbrev pub some_below : ℕ → (ℕ → Bool) → Bool
some_below zero test = false
some_below (suc n) test = some_below n test || test n

abbrev pub each_below : ℕ → (ℕ → Bool) → Bool
each_below zero test = true
each_below (suc n) test = each_below n test && test n

-- whether some cell of a block of edge n passes a test, and whether each does
abbrev pub some_cell : ℕ → (ℕ → ℕ → ℕ → Bool) → Bool
some_cell n test = some_below n (λ z. some_below n (λ y. some_below n (λ x. test x y z)))

abbrev pub each_cell : ℕ → (ℕ → ℕ → ℕ → Bool) → Bool
each_cell n test = each_below n (λ z. each_below n (λ y. each_below n (λ x. test x y z)))

-- ---- how much a cell has

abbrev pub own : FieldSamples → ℕ → ℕ → ℕ → ℕ
own s x y z = s (pos x) (pos y) (pos z)

-- ---- how much the samples differ across a cell

-- how far apart two amounts are
abbrev pub gap : ℕ → ℕ → ℕ
gap a b = (a - b) + (b - a)

-- between the cells next to a cell, along x, y and z
abbrev pub across_x : FieldSamples → ℕ → ℕ → ℕ → ℕ
across_x s x y z = gap (s (pos (x + 1)) (pos y) (pos z)) (s (before x) (pos y) (pos z))

abbrev pub across_y : FieldSamples → ℕ → ℕ → ℕ → ℕ
across_y s x y z = gap (s (pos x) (pos (y + 1)) (pos z)) (s (pos x) (before y) (pos z))

abbrev pub across_z : FieldSamples → ℕ → ℕ → ℕ → ℕ
across_z s x y z = gap (s (pos x) (pos y) (pos (z + 1))) (s (pos x) (pos y) (before z))

-- a difference is above so many hundredths of an amount
abbrev pub is_steep : ℕ → ℕ → ℕ → Bool
is_steep hundredths amount difference = nat_lt (hundredths * amount) (100 * difference)

-- a difference is at most so many hundredths of an amount
abbrev pub is_flat : ℕ → ℕ → ℕ → Bool
is_flat hundredths amount difference = nat_le (100 * difference) (hundredths * amount)

-- across a cell the difference along some axis is steep, or each is flat
abbrev pub some_steep : FieldSamples → ℕ → ℕ → ℕ → ℕ → Bool
some_steep s hundredths x y z =
    is_steep hundredths (own s x y z) (across_x s x y z)
    || is_steep hundredths (own s x y z) (across_y s x y z)
    || is_steep hundredths (own s x y z) (across_z s x y z)

abbrev pub each_flat : FieldSamples → ℕ → ℕ → ℕ → ℕ → Bool
each_flat s hundredths x y z =
    is_flat hundredths (own s x y z) (across_x s x y z)
    && is_flat hundredths (own s x y z) (across_y s x y z)
    && is_flat hundredths (own s x y z) (across_z s x y z)

-- ---- how much the samples of the 27 cells at a cell and around it differ

-- the greatest and the least of three in a row: before a number, at it, and after it
abbrev pub greatest_near : (ℤ → ℕ) → ℕ → ℕ
greatest_near q x = max (q (before x)) (max (q (pos x)) (q (pos (x + 1))))

abbrev pub least_near : (ℤ → ℕ) → ℕ → ℕ
least_near q x = min (q (before x)) (min (q (pos x)) (q (pos (x + 1))))

-- the numbers from one before a number to one after it
abbrev pub IsNear : ℕ → ℤ → Type 0
IsNear x u = (u ≡ before x) ⊎ ((u ≡ pos x) ⊎ (u ≡ pos (x + 1)))

-- of the 27 cells
abbrev pub greatest_around : FieldSamples → ℕ → ℕ → ℕ → ℕ
greatest_around s x y z = greatest_near (λ u. greatest_near (λ v. greatest_near (λ w. s u v w) z) y) x

abbrev pub least_around : FieldSamples → ℕ → ℕ → ℕ → ℕ
least_around s x y z = least_near (λ u. least_near (λ v. least_near (λ w. s u v w) z) y) x

abbrev pub contrast : FieldSamples → ℕ → ℕ → ℕ → ℕ
contrast s x y z = greatest_around s x y z - least_around s x y z
