-- The wish of a leaf by the criteria of an adapt phase. Boxes are given in root cells; a block has `n` cells along its
-- edge, so a root cell is 2 ^ level cells of a level wide. The other tests look at samples of the leaf's own level, at
-- its cells and next to them.
use Rattle.std.specs.Prelude.{ℕ, ◌+◌, ◌*◌, ◌^◌, List, [], ◌∷◌, Bool, ◌&&◌, cond, nat_le, nat_lt, map, slice_index}
use Rattle.block_index.specs.Places.{Cube}
use Rattle.block_index.specs.declared.wish.Wish.{Wish}
use Rattle.block_index.specs.declared.wish.Wish.TheVariants.{Coarsen, Stay, Refine}
use Rattle.params_check.specs.declared.criterion.Test.{Test}
use Rattle.params_check.specs.declared.criterion.Test.TheVariants.{Region, Mass, Slope, Contrast}
use Rattle.params_check.specs.declared.criterion.Criterion.{Criterion}
use Rattle.block_fields.specs.States.{State}
use Rattle.criteria.specs.Cells.{some_cell, each_cell, own, some_steep, each_flat, contrast}
use Rattle.criteria.specs.Samples.{Samples, samples_beside}

-- along one axis: the box isn't empty, and shares cells with the block at coordinate x
abbrev pub meets_along : ℕ → ℕ → ℕ → ℕ → ℕ → Bool
meets_along n low high level x =
    nat_lt low high && nat_lt (x * n) (high * 2 ^ level) && nat_lt (low * 2 ^ level) ((x + 1) * n)

-- the block of a leaf meets the box
abbrev pub meets_box : ℕ → List ℕ → List ℕ → Cube → Bool
meets_box n low high c =
    meets_along n (slice_index low 0) (slice_index high 0) c.level c.x
    && meets_along n (slice_index low 1) (slice_index high 1) c.level c.y
    && meets_along n (slice_index low 2) (slice_index high 2) c.level c.z

-- A leaf that meets the box wishes for the box's level; one that doesn't wishes to coarsen.
abbrev pub box_wish : ℕ → List ℕ → List ℕ → ℕ → Cube → Wish
box_wish n low high level c =
    cond (meets_box n low high c) (cond (nat_lt c.level level) Refine (cond (nat_lt level c.level) Coarsen Stay)) Coarsen

-- Refine where some cell calls for it; else Coarsen where each cell allows it; else Stay.
abbrev pub cells_wish : ℕ → (ℕ → ℕ → ℕ → Bool) → (ℕ → ℕ → ℕ → Bool) → Wish
cells_wish n calls allows = cond (some_cell n calls) Refine (cond (each_cell n allows) Coarsen Stay)

-- The wish by a test, of the leaf at a place with these samples in its cells and around them. The amount of a cell, the
-- differences across it or the contrast around it call for refinement above one threshold, and allow coarsening up to
-- the other.
abbrev pub test_wish : ℕ → Samples → Test → Cube → Wish
test_wish n s (Region low high level) c = box_wish n low high level c
test_wish n s (Mass field refine coarsen) c =
    cells_wish n (λ x y z. nat_lt refine (own (s field) x y z)) (λ x y z. nat_le (own (s field) x y z) coarsen)
test_wish n s (Slope field refine coarsen) c = cells_wish n (some_steep (s field) refine) (each_flat (s field) coarsen)
test_wish n s (Contrast field refine coarsen) c =
    cells_wish n (λ x y z. nat_lt refine (contrast (s field) x y z)) (λ x y z. nat_le (contrast (s field) x y z) coarsen)

-- the greater of two wishes, in the order Coarsen, Stay, Refine
abbrev pub greater : Wish → Wish → Wish
greater Coarsen w = w
greater Stay Coarsen = Stay
greater Stay Stay = Stay
greater Stay Refine = Refine
greater Refine w = Refine

-- The greatest wish of the criteria that are active in a phase; without one it is Coarsen.
abbrev pub criteria_wish : ℕ → ℕ → List Criterion → Samples → Cube → Wish
criteria_wish n phase [] s c = Coarsen
criteria_wish n phase (k ∷ criteria) s c =
    cond (nat_le phase k.until) (greater (test_wish n s k.test c) (criteria_wish n phase criteria s c)) (criteria_wish n phase criteria s c)

-- the wish of a leaf of a state in a phase
abbrev pub wish_of : ℕ → List Criterion → State → Cube → Wish
wish_of phase criteria s c = criteria_wish s.edge phase criteria (samples_beside s c) c

-- the wish of each leaf of a state in a phase, in order
abbrev pub wishes_in : ℕ → List Criterion → State → List Wish
wishes_in phase criteria s = map (wish_of phase criteria s) s.leaves
