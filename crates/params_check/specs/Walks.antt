-- The faults of a tree in the order of three walks. The fault that is answered is the first of them.
use Rattle.std.specs.Prelude.{◌≡◌, ℕ, ◌*◌, ◌^◌, List, [], ◌∷◌, ◌++◌, Bool, not, ◌&&◌, ◌||◌, nat_le, nat_lt, cond, length, slice_index_or, codes, Option, Some, None, is_none, Ok, Err}
use Rattle.std.specs.declared.result.Result.{Result}
use Rattle.std.specs.List.{flat_map, list_any, range_with_len}
use Rattle.params_syntax.specs.declared.tree.Value.{Value}
use Rattle.params_syntax.specs.declared.tree.Setting.{Setting}
use Rattle.params_syntax.specs.declared.tree.Item.{Item}
use Rattle.params_syntax.specs.declared.tree.Item.TheVariants.{Set, Sub}
use Rattle.params_syntax.specs.declared.tree.Group.{Group}
use Rattle.params_check.specs.declared.fault.ParamFault.{ParamFault}
use Rattle.params_check.specs.declared.fault.ParamKind.{ParamKind}
use Rattle.params_check.specs.declared.fault.ParamKind.TheVariants.{Missing, Unknown, Repeated, WrongForm, OutOfRange, Size, Courant, TotalTooLarge}
use Rattle.params_check.specs.declared.fault.CheckError.{CheckError}
use Rattle.params_check.specs.declared.fault.CheckError.TheVariants.{Param, Memory}
use Rattle.params_check.specs.Bounds.{most_cells, most_subs, greatest_amount}
use Rattle.params_check.specs.Forms.{has_form, is_in_range, is_had}
use Rattle.params_check.specs.Keys.{Key, is_among, mesh_keys, field_keys, method_keys, output_keys, shape_kind, shape_keys, criterion_kind, criterion_keys}
use Rattle.params_check.specs.Parameters.{Parameters, values_of, trees, most_amounts, speed, total_of}
use Rattle.params_check.specs.TreeValues.{settings_of, subs_of, word_at, fields_of}
use Rattle.params_check.specs.Values.{same, SubGroup, value_of}

abbrev pub fault : List ℕ → List ℕ → List ℕ → ParamKind → ParamFault
fault group sub name kind = record { group = group; sub = sub; key = name; kind = kind }

-- the fault where a condition holds
abbrev pub fault_if : Bool → ParamFault → List ParamFault
fault_if b f = cond b (f ∷ []) []

-- the faults of each element, of which some stood before
abbrev pub in_turn : {X : Type 0} → (List X → X → List ParamFault) → List X → List X → List ParamFault
in_turn f before [] = []
in_turn f before (x ∷ xs) = f before x ++ in_turn f (before ++ x ∷ []) xs

abbrev pub item_name : Item → List ℕ
item_name (Set s) = s.name
item_name (Sub name sets) = name

abbrev pub has_key : List Key → List ℕ → Bool
has_key keys name = list_any (λ k. same k.name name) keys

-- The first walk over the items of a group of settings.
abbrev pub plain_item_faults : List ℕ → List Key → List Item → Item → List ParamFault
plain_item_faults group keys before (Sub name sets) = fault group [] name WrongForm ∷ []
plain_item_faults group keys before (Set s) =
    fault_if (not (has_key keys s.name)) (fault group [] s.name Unknown)
    ++ fault_if (list_any (λ item. same (item_name item) s.name) before) (fault group [] s.name Repeated)

-- the first walk over the settings of a sub
abbrev pub sub_setting_faults : List ℕ → List ℕ → List Key → List Setting → Setting → List ParamFault
sub_setting_faults group sub keys before s =
    fault_if (not (has_key keys s.name)) (fault group sub s.name Unknown)
    ++ fault_if (list_any (λ t. same t.name s.name) before) (fault group sub s.name Repeated)

-- The first walk over the items of a group of subs.
abbrev pub sub_faults : List ℕ → List Key → List Item → Item → List ParamFault
sub_faults group keys before (Set s) = fault group [] s.name WrongForm ∷ []
sub_faults group keys before (Sub name sets) =
    fault_if (list_any (λ item. same (item_name item) name) before) (fault group name [] Repeated)
    ++ fault_if (nat_le most_subs (length before)) (fault group name [] OutOfRange)
    ++ in_turn (sub_setting_faults group name keys) [] sets

abbrev pub plain_faults : List ℕ → List Key → List Item → List ParamFault
plain_faults group keys items = in_turn (plain_item_faults group keys) [] items

abbrev pub group_of_subs_faults : List ℕ → List Key → List Item → List ParamFault
group_of_subs_faults group keys items = in_turn (sub_faults group keys) [] items

-- the first walk over the items of a group by its name
unfoldable pub items_faults : List ℕ → List Item → List ParamFault
items_faults group items =
    cond (same group (codes "Mesh")) (plain_faults group mesh_keys items)
    (cond (same group (codes "Field")) (plain_faults group field_keys items)
    (cond (same group (codes "Initial")) (group_of_subs_faults group shape_keys items)
    (cond (same group (codes "Adapt")) (group_of_subs_faults group criterion_keys items)
    (cond (same group (codes "Method")) (plain_faults group method_keys items)
    (cond (same group (codes "Output")) (plain_faults group output_keys items) [])))))

unfoldable pub group_names : List (List ℕ)
group_names = codes "Mesh" ∷ codes "Field" ∷ codes "Initial" ∷ codes "Adapt" ∷ codes "Method" ∷ codes "Output" ∷ []

abbrev pub group_faults : List Group → Group → List ParamFault
group_faults before g =
    fault_if (not (is_among group_names g.name)) (fault g.name [] [] Unknown)
    ++ fault_if (list_any (λ h. same h.name g.name) before) (fault g.name [] [] Repeated)
    ++ items_faults g.name g.items

-- The first walk: groups, subs and keys in the order of the text. Each has a name that is known, once.
unfoldable pub first_walk : List Group → List ParamFault
first_walk groups = in_turn group_faults [] groups

-- the faults of a value
abbrev pub value_faults : List ℕ → List ℕ → List (List ℕ) → List ℕ → Key → Value → List ParamFault
value_faults group sub names kind k value =
    fault_if (not (is_had k kind)) (fault group sub k.name Unknown)
    ++ fault_if (not (has_form k.wanted value)) (fault group sub k.name WrongForm)
    ++ fault_if (not (is_in_range names kind k.wanted value)) (fault group sub k.name OutOfRange)

-- the faults of a key whose value is there or not
abbrev pub key_faults : List ℕ → List ℕ → List (List ℕ) → List ℕ → Key → Option Value → List ParamFault
key_faults group sub names kind k None = fault_if (is_none k.default && is_had k kind) (fault group sub k.name Missing)
key_faults group sub names kind k (Some value) = value_faults group sub names kind k value

-- the second walk over the keys of a group or a sub
abbrev pub keys_faults : List ℕ → List ℕ → List (List ℕ) → List ℕ → List Setting → List Key → List ParamFault
keys_faults group sub names kind sets keys = flat_map (λ k. key_faults group sub names kind k (value_of k.name sets)) keys

-- the second walk over the subs of a group, whose kinds stand under a key
abbrev pub subs_faults : List ℕ → List (List ℕ) → Key → List Key → List SubGroup → List ParamFault
subs_faults group names kind_key keys subs =
    flat_map (λ sub. keys_faults group sub.name names (word_at kind_key sub.sets) sub.sets keys) subs

-- The second walk: all keys in the order of the table. Only keys of subs look at the names of the fields.
unfoldable pub second_walk : List Group → List ParamFault
second_walk groups =
    keys_faults (codes "Mesh") [] [] [] (settings_of (codes "Mesh") groups) mesh_keys
    ++ keys_faults (codes "Field") [] [] [] (settings_of (codes "Field") groups) field_keys
    ++ subs_faults (codes "Initial") (fields_of groups) shape_kind shape_keys (subs_of (codes "Initial") groups)
    ++ subs_faults (codes "Adapt") (fields_of groups) criterion_kind criterion_keys (subs_of (codes "Adapt") groups)
    ++ keys_faults (codes "Method") [] [] [] (settings_of (codes "Method") groups) method_keys
    ++ keys_faults (codes "Output") [] [] [] (settings_of (codes "Output") groups) output_keys

abbrev pub total_faults : Parameters → ℕ → List ParamFault
total_faults p field =
    fault_if (nat_lt greatest_amount (total_of p field)) (fault (codes "Initial") [] (slice_index_or p.fields field []) TotalTooLarge)

-- The third walk: what several values must meet together.
unfoldable pub third_walk : Parameters → List ParamFault
third_walk p =
    fault_if (nat_lt p.max_blocks (trees p) || nat_lt most_cells (most_amounts p)) (fault (codes "Mesh") [] (codes "max_blocks") Size)
    ++ fault_if (nat_lt p.den (speed p * 2 ^ p.grid.finest)) (fault (codes "Method") [] (codes "velocity") Courant)
    ++ flat_map (total_faults p) (range_with_len 0 (length p.fields))

abbrev pub all_faults : List Group → List ParamFault
all_faults groups = first_walk groups ++ second_walk groups ++ third_walk (values_of groups)

-- a value, unless there is a fault
abbrev pub unless_fault : {A : Type 0} → List ParamFault → A → Result A ParamFault
unless_fault [] x = Ok x
unless_fault (f ∷ fs) x = Err f

-- The parameters of a tree, or its first fault.
abbrev pub parameters_of : List Group → Result Parameters ParamFault
parameters_of groups = unless_fault (all_faults groups) (values_of groups)

-- why a tree has no parameters: its first fault, unless memory was refused
abbrev pub IsRefused : List Group → CheckError → Type 0
IsRefused groups (Param f) = parameters_of groups ≡ Err f
IsRefused groups Memory = Unit {0}
