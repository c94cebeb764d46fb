-- Groups that two walks met no fault in.
use Rattle.std.proofs.Common.{◌≡◌, ℕ, ◌+◌, ◌<◌, ◌≤◌, Bool, true, false, not, cond, List, [], ◌∷◌, ◌++◌, length, codes, arith, refl, ap, ◌∙◌, subst, All, nat_le, inl, inr}
use Rattle.std.specs.List.{list_any}
use Rattle.std.proofs.lemmas.Bool.{cases_Bool, not-false, leb-false, cond-true, cond-false}
use Rattle.std.proofs.lemmas.List.Elements.{All-weaker}
use Rattle.params_syntax.specs.declared.tree.Item.{Item}
use Rattle.params_syntax.specs.declared.tree.Item.TheVariants.{Set, Sub}
use Rattle.params_syntax.specs.declared.tree.Group.{Group}
use Rattle.params_check.specs.declared.fault.ParamKind.TheVariants.{Unknown, Repeated, OutOfRange}
use Rattle.params_check.specs.Values.{same, items_of, SubGroup, subs_among}
use Rattle.params_check.specs.Keys.{Key, is_among, mesh_keys, field_keys, method_keys, output_keys, shape_kind, shape_keys, criterion_kind, criterion_keys}
use Rattle.params_check.specs.TreeValues.{settings_of, subs_of, word_at, fields_of}
use Rattle.params_check.specs.Walks.{fault, fault_if, in_turn, item_name, sub_faults, sub_setting_faults, group_of_subs_faults, items_faults, group_names, group_faults, first_walk, keys_faults, subs_faults, second_walk}
use Rattle.params_check.proofs.Turns.{none-first, none-second, fault_if-none, flat_map-none, InTurn, InTurn-none, InTurn-length}
use Rattle.params_check.proofs.Once.{StandsOnce, same-true}
use Rattle.params_check.proofs.WalkedKeys.{KeyKept, keys-kept}

-- ---- the first walk

-- The group is known, stands once, and its items have no fault.
pub record GroupOnce (before : List Group) (g : Group) : Type 0 where
  pub once : StandsOnce (λ (h : Group). h.name) (λ (n : List ℕ). n) group_names before g
  pub items : items_faults g.name g.items ≡ []

group-once : (before : List Group) (g : Group) → group_faults before g ≡ [] → GroupOnce before g
group-once before g e =
    let unknown = fault_if (not (is_among group_names g.name)) (fault g.name [] [] Unknown) in
    let repeated = fault_if (list_any (λ h. same h.name g.name) before) (fault g.name [] [] Repeated) in
    let front = none-first (unknown ++ repeated) (items_faults g.name g.items) e in
    record {
      once = record {
        known = not-false (is_among group_names g.name) (fault_if-none _ (fault g.name [] [] Unknown) (none-first unknown repeated front));
        first = fault_if-none _ (fault g.name [] [] Repeated) (none-second unknown repeated front);
      };
      items = none-second (unknown ++ repeated) (items_faults g.name g.items) e;
    }

pub groups-once : (groups : List Group) → first_walk groups ≡ [] → InTurn GroupOnce [] groups
unfolding first_walk
groups-once groups e = InTurn-none group_faults GroupOnce group-once [] groups e

cond-none : {A : Type 0} (b : Bool) (xs ys : List A) → xs ≡ [] → ys ≡ [] → cond b xs ys ≡ []
cond-none true xs ys e f = e
cond-none false xs ys e f = f

-- a group that isn't there has no fault in its items
no_items : (name : List ℕ) → items_faults name [] ≡ []
unfolding items_faults
no_items name =
    cond-none (same name (codes "Mesh")) [] _ refl
    (cond-none (same name (codes "Field")) [] _ refl
    (cond-none (same name (codes "Initial")) [] _ refl
    (cond-none (same name (codes "Adapt")) [] _ refl
    (cond-none (same name (codes "Method")) [] _ refl (cond-none (same name (codes "Output")) [] [] refl refl)))))

-- the items of each group have no fault
pub items_of-none : (name : List ℕ) (before groups : List Group) → InTurn GroupOnce before groups → items_faults name (items_of name groups) ≡ []
items_of-none name before [] once = no_items name
items_of-none name before (g ∷ groups) once =
    elim (cases_Bool (same g.name name)) [
      | inl t ↦
          ap (items_faults name) (cond-true (same g.name name) g.items (items_of name groups) t)
          ∙ subst (λ (n : List ℕ). items_faults n g.items ≡ []) (same-true g.name name t) once.0.items
      | inr f ↦
          ap (items_faults name) (cond-false (same g.name name) g.items (items_of name groups) f)
          ∙ items_of-none name (before ++ g ∷ []) groups once.1
    ]

-- A group of subs has at most 16.
sub-number : (group : List ℕ) (keys : List Key) (before : List Item) (item : Item) → sub_faults group keys before item ≡ [] → length before < 16
sub-number group keys before (Set s) e = absurd cc
sub-number group keys before (Sub name sets) e =
    let repeated = fault_if (list_any (λ item. same (item_name item) name) before) (fault group name [] Repeated) in
    let many = fault_if (nat_le 16 (length before)) (fault group name [] OutOfRange) in
    let rest = in_turn (sub_setting_faults group name keys) [] sets in
    leb-false 16 (length before) (fault_if-none _ (fault group name [] OutOfRange) (none-second repeated many (none-first (repeated ++ many) rest e)))

pub items-few : (group : List ℕ) (keys : List Key) (items : List Item) → group_of_subs_faults group keys items ≡ [] → length items ≤ 16
items-few group keys items e =
    let h : length {A = Item} [] + length items ≤ 16 = InTurn-length (λ before item. sub_faults group keys before item ≡ []) 16 (sub-number group keys) [] items (omega arith)
    (InTurn-none (sub_faults group keys) (λ before item. sub_faults group keys before item ≡ []) (λ before item h. h) [] items e) in
    omega (arith, h)

pub subs_among-length : (items : List Item) → length (subs_among items) ≤ length items
subs_among-length [] = omega arith
subs_among-length (Set s ∷ items) = omega (arith, subs_among-length items)
subs_among-length (Sub name sets ∷ items) = omega (arith, subs_among-length items)

-- ---- the second walk

-- each key of the sub is one that its kind takes
abbrev pub SubKept : List (List ℕ) → Key → List Key → SubGroup → Type 0
SubKept names kind_key keys sub = All (KeyKept names (word_at kind_key sub.sets) sub.sets) keys

pub subs-kept : (group : List ℕ) (names : List (List ℕ)) (kind_key : Key) (keys : List Key) (subs : List SubGroup) → subs_faults group names kind_key keys subs ≡ []
    → All (SubKept names kind_key keys) subs
subs-kept group names kind_key keys subs e =
    let f = λ (sub : SubGroup). keys_faults group sub.name names (word_at kind_key sub.sets) sub.sets keys in
    All-weaker (λ sub. f sub ≡ []) (SubKept names kind_key keys)
    (λ sub none. keys-kept group sub.name names (word_at kind_key sub.sets) sub.sets keys none) subs (flat_map-none f subs e)

-- The values of all settings are ones that their keys take.
pub record AllKept (groups : List Group) : Type 0 where
  pub mesh : All (KeyKept [] [] (settings_of (codes "Mesh") groups)) mesh_keys
  pub field : All (KeyKept [] [] (settings_of (codes "Field") groups)) field_keys
  pub shapes : All (SubKept (fields_of groups) shape_kind shape_keys) (subs_of (codes "Initial") groups)
  pub criteria : All (SubKept (fields_of groups) criterion_kind criterion_keys) (subs_of (codes "Adapt") groups)
  pub method : All (KeyKept [] [] (settings_of (codes "Method") groups)) method_keys
  pub output : All (KeyKept [] [] (settings_of (codes "Output") groups)) output_keys

pub all-kept : (groups : List Group) → second_walk groups ≡ [] → AllKept groups
unfolding second_walk
all-kept groups e =
    let names = fields_of groups in
    let a = keys_faults (codes "Mesh") [] [] [] (settings_of (codes "Mesh") groups) mesh_keys in
    let b = keys_faults (codes "Field") [] [] [] (settings_of (codes "Field") groups) field_keys in
    let c = subs_faults (codes "Initial") names shape_kind shape_keys (subs_of (codes "Initial") groups) in
    let d = subs_faults (codes "Adapt") names criterion_kind criterion_keys (subs_of (codes "Adapt") groups) in
    let m = keys_faults (codes "Method") [] [] [] (settings_of (codes "Method") groups) method_keys in
    let o = keys_faults (codes "Output") [] [] [] (settings_of (codes "Output") groups) output_keys in
    let abcdm = none-first (a ++ b ++ c ++ d ++ m) o e in
    let abcd = none-first (a ++ b ++ c ++ d) m abcdm in
    let abc = none-first (a ++ b ++ c) d abcd in
    let ab = none-first (a ++ b) c abc in
    record {
      mesh = keys-kept (codes "Mesh") [] [] [] (settings_of (codes "Mesh") groups) mesh_keys (none-first a b ab);
      field = keys-kept (codes "Field") [] [] [] (settings_of (codes "Field") groups) field_keys (none-second a b ab);
      shapes = subs-kept (codes "Initial") names shape_kind shape_keys (subs_of (codes "Initial") groups) (none-second (a ++ b) c abc);
      criteria = subs-kept (codes "Adapt") names criterion_kind criterion_keys (subs_of (codes "Adapt") groups) (none-second (a ++ b ++ c) d abcd);
      method = keys-kept (codes "Method") [] [] [] (settings_of (codes "Method") groups) method_keys (none-second (a ++ b ++ c ++ d) m abcdm);
      output = keys-kept (codes "Output") [] [] [] (settings_of (codes "Output") groups) output_keys (none-second (a ++ b ++ c ++ d ++ m) o e);
    }
