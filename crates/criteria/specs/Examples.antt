-- Wishes of small blocks, found by hand and computed from the definitions.
use Rattle.std.specs.Prelude.{◌≡◌, zero, suc, Bool, true, false, ◌&&◌, cond, [], ◌∷◌, ℤ, pos, negsuc, refl}
use Rattle.block_index.specs.Places.{Cube}
use Rattle.block_index.specs.declared.wish.Wish.TheVariants.{Coarsen, Stay, Refine}
use Rattle.params_check.specs.declared.criterion.Test.TheVariants.{Region, Mass, Slope, Contrast}
use Rattle.criteria.specs.Samples.{Samples}
use Rattle.criteria.specs.Wishes.{test_wish}

abbrev root : Cube
root = record { level = 0; x = 0; y = 0; z = 0 }

-- The first coordinate of a block and all before it. Outside a closed end stands what the nearest cell holds.
abbrev is_first : ℤ → Bool
is_first (pos zero) = true
is_first (pos (suc x)) = false
is_first (negsuc x) = true

-- 100 in the first cell of a tree that is closed at all ends
abbrev corner : Samples
corner f x y z = cond (is_first x && is_first y && is_first z) 100 0

-- a contrast of just the threshold doesn't refine, and keeps the block from coarsening
contrast-at : test_wish 4 corner (Contrast 0 100 9) root ≡ Stay
contrast-at = refl

contrast-above : test_wish 4 corner (Contrast 0 99 9) root ≡ Refine
contrast-above = refl

-- the cell beside the first holds nothing, so that any difference is too steep for it
slope-beside_nothing : test_wish 4 corner (Slope 0 1000000 0) root ≡ Refine
slope-beside_nothing = refl

-- 100 in the last cell of the tree before this one, along its first row
abbrev is_before : ℤ → Bool
is_before (pos x) = false
is_before (negsuc x) = true

abbrev next_door : Samples
next_door f x y z = cond (is_before x && is_first y && is_first z) 100 0

-- the contrast is seen in the ghosts, the mass isn't
contrast-in_ghosts : test_wish 4 next_door (Contrast 0 99 9) root ≡ Refine
contrast-in_ghosts = refl

mass-in_ghosts : test_wish 4 next_door (Mass 0 99 9) root ≡ Coarsen
mass-in_ghosts = refl

-- 80 of a root cell, in the eight cells of its first child
abbrev is_second : ℤ → Bool
is_second (pos zero) = true
is_second (pos (suc zero)) = true
is_second (pos (suc (suc x))) = false
is_second (negsuc x) = true

abbrev parts : Samples
parts f x y z = cond (is_second x && is_second y && is_second z) 10 0

mass-of_parts : test_wish 4 parts (Mass 0 100 9) (record { level = 1; x = 0; y = 0; z = 0 }) ≡ Stay
mass-of_parts = refl

mass-of_nothing : test_wish 4 (λ f x y z. 0) (Mass 0 100 9) (record { level = 1; x = 1; y = 0; z = 0 }) ≡ Coarsen
mass-of_nothing = refl

box-met : test_wish 4 corner (Region (0 ∷ 0 ∷ 0 ∷ []) (1 ∷ 1 ∷ 1 ∷ []) 1) root ≡ Refine
box-met = refl

box-not_met : test_wish 4 corner (Region (4 ∷ 0 ∷ 0 ∷ []) (5 ∷ 1 ∷ 1 ∷ []) 1) root ≡ Coarsen
box-not_met = refl
