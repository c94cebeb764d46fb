-- The limits of shapes, criteria and blocks.
use Rattle.std.specs.Prelude.{◌≡◌, ℕ, ◌%◌, ◌<◌, ◌≤◌, List, length, All}
use Rattle.params_check.specs.declared.shape.Form.{Form}
use Rattle.params_check.specs.declared.shape.Form.TheVariants.{Cuboid, Ball}
use Rattle.params_check.specs.declared.shape.Shape.{Shape}
use Rattle.params_check.specs.declared.criterion.Test.{Test}
use Rattle.params_check.specs.declared.criterion.Test.TheVariants.{Region, Mass, Slope, Contrast}
use Rattle.params_check.specs.declared.criterion.Criterion.{Criterion}
use Rattle.params_check.specs.Bounds.{least_edge, greatest_edge, last_phase, finest_level, farthest, greatest_amount, greatest_slope}

-- how many cells lie along the edge of a block
pub record IsBlock (block : ℕ) : Type 0 where
  pub low : least_edge ≤ block
  pub high : block ≤ greatest_edge
  pub even : block % 2 ≡ 0

-- three numbers of root cells
pub record IsCorner (corner : List ℕ) : Type 0 where
  pub three : length corner ≡ 3
  pub limits : All (λ x. x ≤ farthest) corner

abbrev pub KeepsForm : Form → Type 0
KeepsForm (Cuboid low high) = IsCorner low × IsCorner high
KeepsForm (Ball center radius) = IsCorner center × (radius ≤ farthest)

pub record KeepsShape (fields : ℕ) (s : Shape) : Type 0 where
  pub field : s.field < fields
  pub amount : s.amount ≤ greatest_amount
  pub form : KeepsForm s.form

-- the thresholds of a test of a field
pub record KeepsThresholds (fields field refine coarsen most : ℕ) : Type 0 where
  pub known : field < fields
  pub refines : refine ≤ most
  pub coarsens : coarsen ≤ most

abbrev pub KeepsTest : ℕ → Test → Type 0
KeepsTest fields (Region low high level) = IsCorner low × IsCorner high × (level ≤ finest_level)
KeepsTest fields (Mass field refine coarsen) = KeepsThresholds fields field refine coarsen greatest_amount
KeepsTest fields (Slope field refine coarsen) = KeepsThresholds fields field refine coarsen greatest_slope
KeepsTest fields (Contrast field refine coarsen) = KeepsThresholds fields field refine coarsen greatest_amount

pub record KeepsCriterion (fields : ℕ) (c : Criterion) : Type 0 where
  pub some : 1 ≤ c.until
  pub most : c.until ≤ last_phase
  pub test : KeepsTest fields c.test
