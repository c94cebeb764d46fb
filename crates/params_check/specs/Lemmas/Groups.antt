-- The groups of a text: their names, their keys, and which of them have subs.
use Rattle.std.specs.Prelude.{ℕ, List, codes}
use Rattle.params_syntax.specs.declared.tree.Item.{Item}
use Rattle.params_check.specs.declared.fault.ParamFault.{ParamFault}
use Rattle.params_check.specs.declared.group_kind.GroupKind.{GroupKind}
use Rattle.params_check.specs.declared.group_kind.GroupKind.TheVariants.{Mesh, Field, Initial, Adapt, Method, Output}
use Rattle.params_check.specs.Keys.{Key, mesh_keys, field_keys, shape_keys, criterion_keys, method_keys, output_keys}
use Rattle.params_check.specs.Walks.{plain_faults, group_of_subs_faults}

abbrev pub group_name : GroupKind → List ℕ
group_name Mesh = codes "Mesh"
group_name Field = codes "Field"
group_name Initial = codes "Initial"
group_name Adapt = codes "Adapt"
group_name Method = codes "Method"
group_name Output = codes "Output"

-- the keys of a group, or of its subs
abbrev pub keys_of : GroupKind → List Key
keys_of Mesh = mesh_keys
keys_of Field = field_keys
keys_of Initial = shape_keys
keys_of Adapt = criterion_keys
keys_of Method = method_keys
keys_of Output = output_keys

-- the faults of the first walk in a group of a kind
abbrev pub kind_faults : List ℕ → GroupKind → List Item → List ParamFault
kind_faults group Mesh items = plain_faults group mesh_keys items
kind_faults group Field items = plain_faults group field_keys items
kind_faults group Initial items = group_of_subs_faults group shape_keys items
kind_faults group Adapt items = group_of_subs_faults group criterion_keys items
kind_faults group Method items = plain_faults group method_keys items
kind_faults group Output items = plain_faults group output_keys items
