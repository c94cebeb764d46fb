-- The wish of a block by a test as the greatest of the wishes of its cells.
use Rattle.std.specs.Prelude.{ℕ, zero, suc, max, Bool, ◌&&◌, ◌||◌, cond, nat_le, nat_lt}
use Rattle.block_index.specs.declared.wish.Wish.{Wish}
use Rattle.block_index.specs.declared.wish.Wish.TheVariants.{Coarsen, Stay, Refine}
use Rattle.params_check.specs.declared.criterion.Test.{Test}
use Rattle.params_check.specs.declared.criterion.Test.TheVariants.{Region, Mass, Slope, Contrast}
use Rattle.criteria.specs.Cells.{own, across_x, across_y, across_z, contrast, is_steep, is_flat, some_below, some_steep}
use Rattle.criteria.specs.Samples.{FieldSamples, Samples}
use Rattle.criteria.specs.Wishes.{greater}

-- the greatest of the first n wishes; Coarsen where there is none
abbrev pub wish_below : ℕ → (ℕ → Wish) → Wish
wish_below zero w = Coarsen
wish_below (suc n) w = greater (wish_below n w) (w n)

-- the wish of one cell, by whether it calls for refinement and whether it allows coarsening
abbrev pub verdict : Bool → Bool → Wish
verdict calls allows = cond calls Refine (cond allows Coarsen Stay)

-- by a number and two thresholds
abbrev pub number_wish : ℕ → ℕ → ℕ → Wish
number_wish refine coarsen q = verdict (nat_lt refine q) (nat_le q coarsen)

-- by an amount and three differences
abbrev pub slope_wish : ℕ → ℕ → ℕ → ℕ → ℕ → ℕ → Wish
slope_wish refine coarsen q dx dy dz =
    verdict (is_steep refine q dx || is_steep refine q dy || is_steep refine q dz)
    (is_flat coarsen q dx && is_flat coarsen q dy && is_flat coarsen q dz)

abbrev pub cell_wish : Samples → Test → ℕ → ℕ → ℕ → Wish
cell_wish s (Region low high level) x y z = Coarsen
cell_wish s (Mass field refine coarsen) x y z = number_wish refine coarsen (own (s field) x y z)
cell_wish s (Slope field refine coarsen) x y z =
    slope_wish refine coarsen (own (s field) x y z) (across_x (s field) x y z) (across_y (s field) x y z) (across_z (s field) x y z)
cell_wish s (Contrast field refine coarsen) x y z = number_wish refine coarsen (contrast (s field) x y z)

-- of a row, and of a plane
abbrev pub row_wish : ℕ → Samples → Test → ℕ → ℕ → Wish
row_wish n s test y z = wish_below n (λ x. cell_wish s test x y z)

abbrev pub plane_wish : ℕ → Samples → Test → ℕ → Wish
plane_wish n s test z = wish_below n (λ y. row_wish n s test y z)

-- the greatest of the first n numbers; 0 where there is none
abbrev pub greatest_below : ℕ → (ℕ → ℕ) → ℕ
greatest_below zero q = 0
greatest_below (suc n) q = max (greatest_below n q) (q n)

-- whether some cell of a row, or of a plane, is steep
abbrev pub steep_row : ℕ → FieldSamples → ℕ → ℕ → ℕ → Bool
steep_row n s hundredths y z = some_below n (λ x. some_steep s hundredths x y z)

abbrev pub steep_plane : ℕ → FieldSamples → ℕ → ℕ → Bool
steep_plane n s hundredths z = some_below n (λ y. steep_row n s hundredths y z)
