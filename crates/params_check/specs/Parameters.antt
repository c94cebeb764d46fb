-- The parameters of a run: what they are, their limits, and the values that a tree stands for where it has no fault.
use Rattle.std.specs.Prelude.{◌≡◌, ℕ, ◌+◌, ◌*◌, ◌^◌, ◌<◌, ◌≤◌, ℤ, pos, List, Bool, max, nat_abs, map, length, slice_index_or, codes, All, IsTrue}
use Rattle.block_index.specs.Places.{Grid, IsDomain}
use Rattle.params_syntax.specs.declared.tree.Group.{Group}
use Rattle.params_syntax.specs.Canonical.{canonical_text}
use Rattle.params_syntax.specs.Reading.{longest}
use Rattle.params_check.specs.declared.axis_kind.AxisKind.{AxisKind}
use Rattle.params_check.specs.declared.axis_kind.AxisKind.TheVariants.{Periodic}
use Rattle.params_check.specs.declared.shape.Shape.{Shape}
use Rattle.params_check.specs.declared.criterion.Criterion.{Criterion}
use Rattle.params_check.specs.Amounts.{initial_total}
use Rattle.params_check.specs.Bounds.{most_blocks, most_cells, most_rounds, most_cycles, most_fields, most_subs, greatest_amount, fastest, greatest_den}
use Rattle.params_check.specs.Forms.{all_differ, is_field_name}
use Rattle.params_check.specs.Keys.{mesh_block, mesh_max_blocks, mesh_rounds, mesh_strict, method_velocity, method_den, method_cycles, output_mesh, output_fields, output_checkpoint}
use Rattle.params_check.specs.Limits.{IsBlock, KeepsShape, KeepsCriterion}
use Rattle.params_check.specs.TreeValues.{settings_of, subs_of, number_at, numbers_at, answer_at, axes_of, wraps, grid_of_mesh, fields_of, shape_of, criterion_of}

-- The parameters of a run.
pub record Parameters : Type 0 where
  pub grid : Grid
  pub axes : List AxisKind
  pub block : ℕ
  pub max_blocks : ℕ
  pub rounds : ℕ
  pub strict : Bool
  pub fields : List (List ℕ)
  pub shapes : List Shape
  pub criteria : List Criterion
  pub velocity : List ℤ
  pub den : ℕ
  pub cycles : ℕ
  pub mesh_every : ℕ
  pub fields_every : ℕ
  pub checkpoint_every : ℕ
  -- the canonical text
  pub text : List ℕ

-- The values of a tree's settings, and the defaults of those that aren't there.
unfoldable pub values_of : List Group → Parameters
values_of groups =
    let mesh = settings_of (codes "Mesh") groups in
    let method = settings_of (codes "Method") groups in
    let output = settings_of (codes "Output") groups in
    record {
      grid = grid_of_mesh mesh;
      axes = axes_of mesh;
      block = number_at mesh_block mesh;
      max_blocks = number_at mesh_max_blocks mesh;
      rounds = number_at mesh_rounds mesh;
      strict = answer_at mesh_strict mesh;
      fields = fields_of groups;
      shapes = map (shape_of (fields_of groups)) (subs_of (codes "Initial") groups);
      criteria = map (criterion_of (fields_of groups)) (subs_of (codes "Adapt") groups);
      velocity = numbers_at method_velocity method;
      den = number_at method_den method;
      cycles = number_at method_cycles method;
      mesh_every = number_at output_mesh output;
      fields_every = number_at output_fields output;
      checkpoint_every = number_at output_checkpoint output;
      text = canonical_text groups;
    }

-- ---- what several values make together

-- how many trees there are
abbrev pub trees : Parameters → ℕ
trees p = p.grid.trees_x * p.grid.trees_y * p.grid.trees_z

-- how many amounts the blocks can hold in all
abbrev pub most_amounts : Parameters → ℕ
most_amounts p = p.max_blocks * (p.block * p.block * p.block) * max 1 (length p.fields)

-- how fast amounts move, all axes together
abbrev pub speed : Parameters → ℕ
speed p = nat_abs (slice_index_or p.velocity 0 (pos 0)) + nat_abs (slice_index_or p.velocity 1 (pos 0)) + nat_abs (slice_index_or p.velocity 2 (pos 0))

-- the initial total of a field, by its position
abbrev pub total_of : Parameters → ℕ → ℕ
total_of p field = initial_total p.grid p.block p.shapes field

-- ---- limits

-- the axes are periodic where the domain says so
pub record KeepsAxes (p : Parameters) : Type 0 where
  pub three : length p.axes ≡ 3
  pub x : p.grid.wraps_x ≡ wraps (slice_index_or p.axes 0 Periodic)
  pub y : p.grid.wraps_y ≡ wraps (slice_index_or p.axes 1 Periodic)
  pub z : p.grid.wraps_z ≡ wraps (slice_index_or p.axes 2 Periodic)

-- All limits of parameters.
pub record IsParameters (p : Parameters) : Type 0 where
  pub domain : IsDomain p.grid
  pub axes : KeepsAxes p
  pub block : IsBlock p.block
  pub some_blocks : 1 ≤ p.max_blocks
  pub most_blocks : p.max_blocks ≤ most_blocks
  -- the roots are no more blocks than there may be
  pub trees : trees p ≤ p.max_blocks
  pub amounts : most_amounts p ≤ most_cells
  pub rounds : p.rounds ≤ most_rounds
  pub few_fields : length p.fields ≤ most_fields
  pub names : All (λ name. IsTrue (is_field_name name)) p.fields
  pub different_names : IsTrue (all_differ p.fields)
  pub few_shapes : length p.shapes ≤ most_subs
  pub shapes : All (KeepsShape (length p.fields)) p.shapes
  pub few_criteria : length p.criteria ≤ most_subs
  pub criteria : All (KeepsCriterion (length p.fields)) p.criteria
  pub three_speeds : length p.velocity ≡ 3
  pub speeds : All (λ v. nat_abs v ≤ fastest) p.velocity
  pub some_den : 1 ≤ p.den
  pub most_den : p.den ≤ greatest_den
  pub cycles : p.cycles ≤ most_cycles
  pub mesh_every : p.mesh_every ≤ most_cycles
  pub fields_every : p.fields_every ≤ most_cycles
  pub checkpoint_every : p.checkpoint_every ≤ most_cycles
  -- no cell gives out more than it has
  pub courant : speed p * 2 ^ p.grid.finest ≤ p.den
  pub totals : (field : ℕ) → field < length p.fields → total_of p field ≤ greatest_amount
  pub short_text : length p.text ≤ longest
