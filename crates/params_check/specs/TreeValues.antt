-- What the settings of a tree stand for: the value of each key, or its default.
use Rattle.std.specs.Prelude.{ℕ, ℤ, List, Bool, true, false, not, cond, map, slice_index, slice_index_or, codes, Option}
use Rattle.std.specs.List.{prefix_len}
use Rattle.std.specs.Option.{option_or}
use Rattle.block_index.specs.Places.{Grid}
use Rattle.params_syntax.specs.declared.tree.Value.{Value}
use Rattle.params_syntax.specs.declared.tree.Setting.{Setting}
use Rattle.params_syntax.specs.declared.tree.Group.{Group}
use Rattle.params_check.specs.declared.axis_kind.AxisKind.{AxisKind}
use Rattle.params_check.specs.declared.axis_kind.AxisKind.TheVariants.{Periodic, Outflow, Closed}
use Rattle.params_check.specs.declared.shape.Form.{Form}
use Rattle.params_check.specs.declared.shape.Form.TheVariants.{Cuboid, Ball}
use Rattle.params_check.specs.declared.shape.Shape.{Shape}
use Rattle.params_check.specs.declared.criterion.Test.{Test}
use Rattle.params_check.specs.declared.criterion.Test.TheVariants.{Region, Mass, Slope, Contrast}
use Rattle.params_check.specs.declared.criterion.Criterion.{Criterion}
use Rattle.params_check.specs.Keys.{Key, mesh_array, mesh_max_level, mesh_boundary, field_names, shape_kind, shape_field, shape_low, shape_high, shape_center, shape_radius, shape_amount, criterion_kind, criterion_until, criterion_field, criterion_low, criterion_high, criterion_level, criterion_refine, criterion_coarsen}
use Rattle.params_check.specs.Values.{same, items_of, settings_among, SubGroup, subs_among, value_of, size_in, word_in, numbers_in, sizes_in, words_in}

-- the settings of a group
abbrev pub settings_of : List ℕ → List Group → List Setting
settings_of group groups = settings_among (items_of group groups)

-- the subs of a group
abbrev pub subs_of : List ℕ → List Group → List SubGroup
subs_of group groups = subs_among (items_of group groups)

-- the value of a key among settings, or its default
abbrev pub value_at : Key → List Setting → Option Value
value_at k sets = option_or (value_of k.name sets) k.default

abbrev pub number_at : Key → List Setting → ℕ
number_at k sets = size_in (value_at k sets)

abbrev pub word_at : Key → List Setting → List ℕ
word_at k sets = word_in (value_at k sets)

abbrev pub sizes_at : Key → List Setting → List ℕ
sizes_at k sets = sizes_in (value_at k sets)

abbrev pub numbers_at : Key → List Setting → List ℤ
numbers_at k sets = numbers_in (value_at k sets)

abbrev pub words_at : Key → List Setting → List (List ℕ)
words_at k sets = words_in (value_at k sets)

-- the word is `yes`
abbrev pub answer_at : Key → List Setting → Bool
answer_at k sets = same (word_at k sets) (codes "yes")

-- ---- the domain

abbrev pub axis_kind : List ℕ → AxisKind
axis_kind word = cond (same word (codes "open")) Outflow (cond (same word (codes "closed")) Closed Periodic)

abbrev pub wraps : AxisKind → Bool
wraps Periodic = true
wraps Outflow = false
wraps Closed = false

-- the grid of three numbers of trees, three kinds of axes and a finest level
abbrev pub grid_by : List ℕ → List AxisKind → ℕ → Grid
grid_by array axes finest = record {
  trees_x = slice_index array 0;
  trees_y = slice_index array 1;
  trees_z = slice_index array 2;
  wraps_x = wraps (slice_index_or axes 0 Periodic);
  wraps_y = wraps (slice_index_or axes 1 Periodic);
  wraps_z = wraps (slice_index_or axes 2 Periodic);
  finest = finest;
}

-- the kinds of the axes by the settings of the mesh
abbrev pub axes_of : List Setting → List AxisKind
axes_of mesh = map axis_kind (words_at mesh_boundary mesh)

abbrev pub grid_of_mesh : List Setting → Grid
grid_of_mesh mesh = grid_by (sizes_at mesh_array mesh) (axes_of mesh) (number_at mesh_max_level mesh)

-- ---- fields, shapes, criteria

-- the names of the fields
abbrev pub fields_of : List Group → List (List ℕ)
fields_of groups = words_at field_names (settings_of (codes "Field") groups)

-- the position of a name among others
abbrev pub position_of : List ℕ → List (List ℕ) → ℕ
position_of name names = prefix_len (λ n. not (same n name)) names

-- the form of a kind of shape, by the values of its keys
abbrev pub form_of : List ℕ → Option Value → Option Value → Option Value → Option Value → Form
form_of kind low high center radius =
    cond (same kind (codes "ball")) (Ball (sizes_in center) (size_in radius)) (Cuboid (sizes_in low) (sizes_in high))

abbrev pub shape_of : List (List ℕ) → SubGroup → Shape
shape_of names sub = record {
  field = position_of (word_at shape_field sub.sets) names;
  amount = number_at shape_amount sub.sets;
  form =
      form_of (word_at shape_kind sub.sets) (value_at shape_low sub.sets) (value_at shape_high sub.sets)
      (value_at shape_center sub.sets) (value_at shape_radius sub.sets);
}

-- a test of a kind that looks at a field
abbrev pub sampling_test : List ℕ → ℕ → ℕ → ℕ → Test
sampling_test kind field refine coarsen =
    cond (same kind (codes "mass")) (Mass field refine coarsen)
    (cond (same kind (codes "slope")) (Slope field refine coarsen) (Contrast field refine coarsen))

-- the test of a kind of criterion, by the values of its keys
abbrev pub test_of : List (List ℕ) → List ℕ → Option Value → Option Value → Option Value → Option Value → Option Value → Option Value → Test
test_of names kind field low high level refine coarsen =
    cond (same kind (codes "box")) (Region (sizes_in low) (sizes_in high) (size_in level))
    (sampling_test kind (position_of (word_in field) names) (size_in refine) (size_in coarsen))

abbrev pub criterion_of : List (List ℕ) → SubGroup → Criterion
criterion_of names sub = record {
  until = number_at criterion_until sub.sets;
  test =
      test_of names (word_at criterion_kind sub.sets) (value_at criterion_field sub.sets) (value_at criterion_low sub.sets)
      (value_at criterion_high sub.sets) (value_at criterion_level sub.sets) (value_at criterion_refine sub.sets) (value_at criterion_coarsen sub.sets);
}
