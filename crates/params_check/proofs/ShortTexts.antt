-- The canonical text of a tree that two walks met no fault in is short.
use Rattle.std.proofs.Common.{◌≡◌, ℕ, ◌+◌, ◌*◌, ◌≤◌, true, false, ◌||◌, cond, List, [], ◌∷◌, ◌++◌, length, flat_map, codes, arith, refl, sym, ap, ◌∙◌, subst, All, append_assoc}
use Rattle.std.proofs.lemmas.Bool.{cond-true, cond-false, or_parts}
use Rattle.std.proofs.lemmas.List.{length-append}
use Rattle.std.proofs.lemmas.List.Concat.{length-flat_map}
use Rattle.std.proofs.lemmas.List.Elements.{All-nil, All-cons, All-head, All-tail, All-weaker}
use Rattle.params_syntax.specs.declared.tree.Setting.{Setting}
use Rattle.params_syntax.specs.declared.tree.Item.{Item}
use Rattle.params_syntax.specs.declared.tree.Item.TheVariants.{Set, Sub}
use Rattle.params_syntax.specs.declared.tree.Group.{Group}
use Rattle.params_syntax.specs.Trees.{Each, IsSetting, IsItem, IsGroup, IsTree}
use Rattle.params_syntax.specs.Canonical.{setting_text, item_text, group_text, canonical_text}
use Rattle.params_check.specs.Values.{same, items_of, settings_among, subs_among}
use Rattle.params_check.specs.Keys.{Key, is_among, mesh_keys, field_keys, method_keys, output_keys, shape_kind, shape_keys, criterion_kind, criterion_keys}
use Rattle.params_check.specs.TreeValues.{word_at, fields_of}
use Rattle.params_check.specs.Walks.{in_turn, plain_item_faults, plain_faults, sub_faults, sub_setting_faults, group_of_subs_faults, items_faults, group_names, first_walk, second_walk}
use Rattle.params_check.proofs.Turns.{none-first, none-second, InTurn}
use Rattle.params_check.proofs.Once.{StandsOnce, has_name, WeighsAtMost, sum-once, weight_left, same-true, same-itself, among-each}
use Rattle.params_check.proofs.Lengths.{name-short}
use Rattle.params_check.proofs.WalkedKeys.{KeyKept, plain-once, sub-once, settings-sum}
use Rattle.params_check.proofs.WalkedGroups.{GroupOnce, groups-once, items-few, SubKept, AllKept, all-kept}

-- ---- groups of settings

-- each item is a setting
plain-text : (group : List ℕ) (keys : List Key) (before items : List Item) → in_turn (plain_item_faults group keys) before items ≡ []
    → flat_map item_text items ≡ flat_map (λ s. codes "  " ++ setting_text s) (settings_among items)
plain-text group keys before [] e = refl
plain-text group keys before (Set s ∷ items) e =
    let rest = in_turn (plain_item_faults group keys) (before ++ Set s ∷ []) items in
    ap (λ (l : List ℕ). item_text (Set s) ++ l)
    (plain-text group keys (before ++ Set s ∷ []) items (none-second (plain_item_faults group keys before (Set s)) rest e))
plain-text group keys before (Sub name sets ∷ items) e = absurd cc

Each-settings : (items : List Item) → Each IsItem items → Each IsSetting (settings_among items)
Each-settings [] h = tt
Each-settings (Set s ∷ items) h = (h.0, Each-settings items h.1)
Each-settings (Sub name sets ∷ items) h = Each-settings items h.1

plain-short : (group : List ℕ) (names : List (List ℕ)) (keys : List Key) (items : List Item) → length keys ≤ 7 → plain_faults group keys items ≡ []
    → All (KeyKept names [] (settings_among items)) keys → Each IsItem items → length (flat_map item_text items) ≤ 1295
plain-short group names keys items few e kept h =
    let sum : length (flat_map (λ s. codes "  " ++ setting_text s) (settings_among items)) ≤ length keys * (2 + 183) =
    settings-sum names [] keys (settings_among items) (codes "  ") (plain-once group keys items e) kept (Each-settings items h) in
    omega (arith, ap (length {A = ℕ}) (plain-text group keys [] items e))

-- ---- groups of subs

sub-short : (group : List ℕ) (names : List (List ℕ)) (kind : List ℕ) (keys : List Key) (name : List ℕ) (sets : List Setting) → length keys ≤ 8
    → in_turn (sub_setting_faults group name keys) [] sets ≡ [] → All (KeyKept names kind sets) keys → IsItem (Sub name sets)
    → length (item_text (Sub name sets)) ≤ 1537
sub-short group names kind keys name sets few e kept h =
    let body = flat_map (λ s. codes "    " ++ setting_text s) sets in
    let sum : length body ≤ length keys * (4 + 183) = settings-sum names kind keys sets (codes "    ") (sub-once group name keys sets e) kept h.1 in
    omega (
      arith,
      length-append (codes "  " ++ name ++ codes " {\n" ++ body) (codes "  }\n"),
      length-append (codes "  " ++ name ++ codes " {\n") body,
      length-append (codes "  " ++ name) (codes " {\n"),
      length-append (codes "  ") name,
      name-short name h.0,
    )

subs-sum : (group : List ℕ) (names : List (List ℕ)) (kind_key : Key) (keys : List Key) (before items : List Item) → length keys ≤ 8
    → in_turn (sub_faults group keys) before items ≡ [] → All (SubKept names kind_key keys) (subs_among items) → Each IsItem items
    → length (flat_map item_text items) ≤ length items * 1537
subs-sum group names kind_key keys before [] few e kept h = omega arith
subs-sum group names kind_key keys before (Set s ∷ items) few e kept h = absurd cc
subs-sum group names kind_key keys before (Sub name sets ∷ items) few e kept h =
    let here = sub_faults group keys before (Sub name sets) in
    let rest = in_turn (sub_faults group keys) (before ++ Sub name sets ∷ []) items in
    let inside : in_turn (sub_setting_faults group name keys) [] sets ≡ [] = none-second _ (in_turn (sub_setting_faults group name keys) [] sets) (none-first here rest e) in
    omega (
      arith,
      length-append (item_text (Sub name sets)) (flat_map item_text items),
      sub-short group names (word_at kind_key sets) keys name sets few inside (All-head (SubKept names kind_key keys) _ (subs_among items) kept) h.0,
      subs-sum group names kind_key keys (before ++ Sub name sets ∷ []) items few (none-second here rest e)
          (All-tail (SubKept names kind_key keys) _ (subs_among items) kept) h.1,
    )

subs-short : (group : List ℕ) (names : List (List ℕ)) (kind_key : Key) (keys : List Key) (items : List Item) → length keys ≤ 8
    → group_of_subs_faults group keys items ≡ [] → All (SubKept names kind_key keys) (subs_among items) → Each IsItem items
    → length (flat_map item_text items) ≤ 24592
subs-short group names kind_key keys items few e kept h =
    omega (arith, subs-sum group names kind_key keys [] items few e kept h, items-few group keys items e)

-- ---- all groups

-- the most bytes of a group's items
abbrev most_items : List ℕ → ℕ
most_items name = cond (same name (codes "Initial") || same name (codes "Adapt")) 24592 1295

-- the items of a group of this name are short
abbrev ItemsShort : List Group → List ℕ → Type 0
ItemsShort all name =
    (items : List Item) → items_of name all ≡ items → items_faults name items ≡ [] → Each IsItem items → length (flat_map item_text items) ≤ most_items name

mesh-short : (all : List Group) → AllKept all → ItemsShort all (codes "Mesh")
unfolding items_faults mesh_keys
mesh-short all kept items e none h =
    plain-short (codes "Mesh") [] mesh_keys items (omega arith) none
    (subst (λ (l : List Item). All (KeyKept [] [] (settings_among l)) mesh_keys) e kept.mesh) h

field-short : (all : List Group) → AllKept all → ItemsShort all (codes "Field")
unfolding items_faults field_keys
field-short all kept items e none h =
    plain-short (codes "Field") [] field_keys items (omega arith) none
    (subst (λ (l : List Item). All (KeyKept [] [] (settings_among l)) field_keys) e kept.field) h

method-short : (all : List Group) → AllKept all → ItemsShort all (codes "Method")
unfolding items_faults method_keys
method-short all kept items e none h =
    plain-short (codes "Method") [] method_keys items (omega arith) none
    (subst (λ (l : List Item). All (KeyKept [] [] (settings_among l)) method_keys) e kept.method) h

output-short : (all : List Group) → AllKept all → ItemsShort all (codes "Output")
unfolding items_faults output_keys
output-short all kept items e none h =
    plain-short (codes "Output") [] output_keys items (omega arith) none
    (subst (λ (l : List Item). All (KeyKept [] [] (settings_among l)) output_keys) e kept.output) h

initial-short : (all : List Group) → AllKept all → ItemsShort all (codes "Initial")
unfolding items_faults shape_keys
initial-short all kept items e none h =
    subs-short (codes "Initial") (fields_of all) shape_kind shape_keys items (omega arith) none
    (subst (λ (l : List Item). All (SubKept (fields_of all) shape_kind shape_keys) (subs_among l)) e kept.shapes) h

adapt-short : (all : List Group) → AllKept all → ItemsShort all (codes "Adapt")
unfolding items_faults criterion_keys
adapt-short all kept items e none h =
    subs-short (codes "Adapt") (fields_of all) criterion_kind criterion_keys items (omega arith) none
    (subst (λ (l : List Item). All (SubKept (fields_of all) criterion_kind criterion_keys) (subs_among l)) e kept.criteria) h

items-short : (all : List Group) → AllKept all → (name : List ℕ) → is_among group_names name ≡ true → ItemsShort all name
unfolding group_names
items-short all kept name known =
    among-each (ItemsShort all) group_names name known (
      mesh-short all kept,
      (
        field-short all kept,
        (initial-short all kept, (adapt-short all kept, (method-short all kept, (output-short all kept, tt)))),
      ),
    )

group-short : (all : List Group) → AllKept all → (g : Group) → items_of g.name all ≡ g.items → is_among group_names g.name ≡ true
    → items_faults g.name g.items ≡ [] → IsGroup g → length (group_text g) ≤ most_items g.name + 37
group-short all kept g found known none h =
    let body = flat_map item_text g.items in
    omega (
      arith,
      length-append (g.name ++ codes " {\n" ++ body) (codes "}\n"),
      length-append (g.name ++ codes " {\n") body,
      length-append g.name (codes " {\n"),
      name-short g.name h.0,
      items-short all kept g.name known g.items found none h.1,
    )

-- ---- each group is found under its name

items_of-here : (g : Group) (groups : List Group) → items_of g.name (g ∷ groups) ≡ g.items
items_of-here g groups = cond-true (same g.name g.name) g.items (items_of g.name groups) (same-itself g.name)

items_of-later : (name : List ℕ) (before groups : List Group) → has_name (λ (h : Group). h.name) (λ (n : List ℕ). n) before name ≡ false
    → items_of name (before ++ groups) ≡ items_of name groups
items_of-later name [] groups none = refl
items_of-later name (g ∷ before) groups none =
    let parts = or_parts (same g.name name) _ none in
    cond-false (same g.name name) g.items (items_of name (before ++ groups)) parts.0 ∙ items_of-later name before groups parts.1

-- the group's text is as short as its name says
abbrev GroupShort : Group → Type 0
GroupShort g = length (group_text g) ≤ most_items g.name + 37

groups-short : (all : List Group) → AllKept all → (before groups : List Group) → all ≡ before ++ groups → InTurn GroupOnce before groups → Each IsGroup groups
    → All GroupShort groups
groups-short all kept before [] e once h = All-nil GroupShort
groups-short all kept before (g ∷ groups) e once h =
    let found : items_of g.name all ≡ g.items = ap (items_of g.name) e ∙ items_of-later g.name before (g ∷ groups) once.0.once.first ∙ items_of-here g groups in
    All-cons GroupShort g groups (group-short all kept g found once.0.once.known once.0.items h.0)
    (groups-short all kept (before ++ g ∷ []) groups (e ∙ sym (append_assoc before (g ∷ []) groups)) once.1 h.1)

once-alone : (groups before : List Group) → InTurn GroupOnce before groups
    → InTurn (StandsOnce (λ (h : Group). h.name) (λ (n : List ℕ). n) group_names) before groups
once-alone [] before once = tt
once-alone (g ∷ groups) before once = (once.0.once, once-alone groups (before ++ g ∷ []) once.1)

-- two groups of subs and four of settings
all-names : weight_left (λ (h : Group). h.name) (λ (n : List ℕ). n) (λ (n : List ℕ). most_items n + 37) [] group_names ≤ 65536
unfolding group_names
all-names = omega arith

pub canonical_text-short : (groups : List Group) → IsTree groups → first_walk groups ≡ [] → second_walk groups ≡ [] → length (canonical_text groups) ≤ 65536
canonical_text-short groups h first second =
    let once = groups-once groups first in
    let name = λ (h : Group). h.name in
    let key = λ (n : List ℕ). n in
    let weight = λ (n : List ℕ). most_items n + 37 in
    let f = λ (g : Group). length (group_text g) in
    let bounds : All (WeighsAtMost name key weight f) groups =
    All-weaker GroupShort (WeighsAtMost name key weight f)
    (λ g short k is. subst (λ (n : List ℕ). length (group_text g) ≤ most_items n + 37) (sym (same-true k g.name is)) short)
    groups (groups-short groups (all-kept groups second) [] groups refl once h) in
    omega (
      arith,
      length-flat_map group_text groups,
      sum-once name key weight f group_names [] groups (once-alone groups [] once) bounds,
      all-names,
    )
