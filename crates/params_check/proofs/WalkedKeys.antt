-- Settings that two walks met no fault in: each key is known and stands once, and each value is one that its key takes.
use Rattle.std.proofs.Common.{◌≡◌, ℕ, ◌+◌, ◌*◌, ◌≤◌, Bool, true, false, not, ◌&&◌, List, [], ◌∷◌, ◌++◌, Option, Some, None, length, flat_map, arith, refl, ap, ◌∙◌, subst, All}
use Rattle.std.specs.Prelude.{is_none}
use Rattle.std.specs.List.{list_any}
use Rattle.std.proofs.lemmas.Bool.{not-false, or_parts, or_from}
use Rattle.std.proofs.lemmas.List.{length-append}
use Rattle.std.proofs.lemmas.List.Concat.{length-flat_map}
use Rattle.std.proofs.lemmas.List.Elements.{All-weaker}
use Rattle.params_syntax.specs.declared.tree.Value.{Value}
use Rattle.params_syntax.specs.declared.tree.Setting.{Setting}
use Rattle.params_syntax.specs.declared.tree.Item.{Item}
use Rattle.params_syntax.specs.declared.tree.Item.TheVariants.{Set, Sub}
use Rattle.params_syntax.specs.Trees.{Each, IsSetting}
use Rattle.params_syntax.specs.Canonical.{setting_text}
use Rattle.params_check.specs.declared.fault.ParamFault.{ParamFault}
use Rattle.params_check.specs.declared.fault.ParamKind.TheVariants.{Missing, Unknown, Repeated, WrongForm, OutOfRange}
use Rattle.params_check.specs.Values.{same, value_of, settings_among}
use Rattle.params_check.specs.Forms.{has_form, is_in_range, is_had}
use Rattle.params_check.specs.Keys.{Key}
use Rattle.params_check.specs.Walks.{fault, fault_if, in_turn, item_name, has_key, plain_item_faults, plain_faults, sub_setting_faults, key_faults, keys_faults}
use Rattle.params_check.proofs.Turns.{none-first, none-second, fault_if-none, flat_map-none, InTurn, InTurn-none}
use Rattle.params_check.proofs.Once.{WeighsAtMost, sum-once, weight_left-even}
use Rattle.params_check.proofs.Settings.{KeyOnce, IsFound, settings-found, keys-known, at_key, All-from_Each}
use Rattle.params_check.proofs.Fits.{Kept}
use Rattle.params_check.proofs.Lengths.{value-short, setting-short}

-- ---- the first walk

setting-once : (keys : List Key) (before : List Setting) (s : Setting) (b : Bool) (f g : ParamFault)
    → fault_if (not (has_key keys s.name)) f ++ fault_if b g ≡ [] → (b ≡ false → list_any (λ (t : Setting). same t.name s.name) before ≡ false)
    → KeyOnce keys before s
setting-once keys before s b f g e first = record {
  known = not-false (has_key keys s.name) (fault_if-none _ f (none-first (fault_if (not (has_key keys s.name)) f) (fault_if b g) e));
  first = first (fault_if-none b g (none-second (fault_if (not (has_key keys s.name)) f) (fault_if b g) e));
}

-- the settings of a sub
pub sub-once : (group sub : List ℕ) (keys : List Key) (sets : List Setting) → in_turn (sub_setting_faults group sub keys) [] sets ≡ [] → InTurn (KeyOnce keys) [] sets
sub-once group sub keys sets e =
    InTurn-none (sub_setting_faults group sub keys) (KeyOnce keys)
    (λ before s none. setting-once keys before s (list_any (λ t. same t.name s.name) before) (fault group sub s.name Unknown) (fault group sub s.name Repeated) none (λ h. h))
    [] sets e

settings_among-push : (items : List Item) (s : Setting) → settings_among (items ++ Set s ∷ []) ≡ settings_among items ++ s ∷ []
settings_among-push [] s = refl
settings_among-push (Set t ∷ items) s = ap (λ (l : List Setting). t ∷ l) (settings_among-push items s)
settings_among-push (Sub name sets ∷ items) s = settings_among-push items s

-- a name that no item has no setting among them has
unnamed : (items : List Item) (n : List ℕ) → list_any (λ item. same (item_name item) n) items ≡ false
    → list_any (λ (t : Setting). same t.name n) (settings_among items) ≡ false
unnamed [] n h = refl
unnamed (Set t ∷ items) n h =
    let parts = or_parts (same t.name n) _ h in
    or_from (same t.name n) _ parts.0 (unnamed items n parts.1)
unnamed (Sub name sets ∷ items) n h = unnamed items n (or_parts (same name n) _ h).1

plain-once_from : (group : List ℕ) (keys : List Key) (before items : List Item) → in_turn (plain_item_faults group keys) before items ≡ []
    → InTurn (KeyOnce keys) (settings_among before) (settings_among items)
plain-once_from group keys before [] e = tt
plain-once_from group keys before (Sub name sets ∷ items) e = absurd cc
plain-once_from group keys before (Set s ∷ items) e =
    let here = plain_item_faults group keys before (Set s) in
    let rest = in_turn (plain_item_faults group keys) (before ++ Set s ∷ []) items in (
      setting-once keys (settings_among before) s (list_any (λ item. same (item_name item) s.name) before)
          (fault group [] s.name Unknown) (fault group [] s.name Repeated) (none-first here rest e) (unnamed before s.name),
      subst (λ (l : List Setting). InTurn (KeyOnce keys) l (settings_among items)) (settings_among-push before s)
          (plain-once_from group keys (before ++ Set s ∷ []) items (none-second here rest e)),
    )

-- the settings of a group
pub plain-once : (group : List ℕ) (keys : List Key) (items : List Item) → plain_faults group keys items ≡ [] → InTurn (KeyOnce keys) [] (settings_among items)
plain-once group keys items e = plain-once_from group keys [] items e

-- ---- the second walk

abbrev pub KeyKept : List (List ℕ) → List ℕ → List Setting → Key → Type 0
KeyKept names kind sets k = Kept names kind k (value_of k.name sets)

key-kept : (group sub : List ℕ) (names : List (List ℕ)) (kind : List ℕ) (k : Key) (o : Option Value) → key_faults group sub names kind k o ≡ []
    → Kept names kind k o
key-kept group sub names kind k None e = fault_if-none (is_none k.default && is_had k kind) (fault group sub k.name Missing) e
key-kept group sub names kind k (Some v) e =
    let unknown = fault_if (not (is_had k kind)) (fault group sub k.name Unknown) in
    let wrong = fault_if (not (has_form k.wanted v)) (fault group sub k.name WrongForm) in
    let out = fault_if (not (is_in_range names kind k.wanted v)) (fault group sub k.name OutOfRange) in
    let front = none-first (unknown ++ wrong) out e in (
      not-false (is_had k kind) (fault_if-none _ (fault group sub k.name Unknown) (none-first unknown wrong front)),
      not-false (has_form k.wanted v) (fault_if-none _ (fault group sub k.name WrongForm) (none-second unknown wrong front)),
      not-false (is_in_range names kind k.wanted v) (fault_if-none _ (fault group sub k.name OutOfRange) (none-second (unknown ++ wrong) out e)),
    )

pub keys-kept : (group sub : List ℕ) (names : List (List ℕ)) (kind : List ℕ) (sets : List Setting) (keys : List Key) → keys_faults group sub names kind sets keys ≡ []
    → All (KeyKept names kind sets) keys
keys-kept group sub names kind sets keys e =
    All-weaker (λ k. key_faults group sub names kind k (value_of k.name sets) ≡ []) (KeyKept names kind sets)
    (λ k. key-kept group sub names kind k (value_of k.name sets)) keys
    (flat_map-none (λ k. key_faults group sub names kind k (value_of k.name sets)) keys e)

-- ---- both

module _ (names : List (List ℕ)) (kind : List ℕ) (keys : List Key) (sets : List Setting) where
  found-short : All (KeyKept names kind sets) keys → (s : Setting) → IsFound sets s → has_key keys s.name ≡ true → IsSetting s → length (setting_text s) ≤ 183
  found-short kept s found known h =
      let k = at_key (KeyKept names kind sets) keys s.name known kept in
      let o : value_of k.0.name sets ≡ Some s.value = ap (λ (n : List ℕ). value_of n sets) k.1 ∙ found in
      let good = subst (Kept names kind k.0) o k.2 in
      setting-short s h (value-short names kind k.0.wanted s.value good.1 good.2 h.1)

  -- the text of each setting is short
  pub settings-short : InTurn (KeyOnce keys) [] sets → All (KeyKept names kind sets) keys → Each IsSetting sets → All (λ s. length (setting_text s) ≤ 183) sets
  settings-short once kept h i d inside =
      found-short kept _ (settings-found keys sets once i d inside) (keys-known keys [] sets once i d inside) (All-from_Each IsSetting sets h i d inside)

  -- so are the texts of all together
  pub settings-sum : (margin : List ℕ) → InTurn (KeyOnce keys) [] sets → All (KeyKept names kind sets) keys → Each IsSetting sets
      → length (flat_map (λ s. margin ++ setting_text s) sets) ≤ length keys * (length margin + 183)
  settings-sum margin once kept h =
      let f = λ (s : Setting). length (margin ++ setting_text s) in
      let w = λ (k : Key). length margin + 183 in
      let each : All (WeighsAtMost (λ (s : Setting). s.name) (λ (k : Key). k.name) w f) sets =
      All-weaker (λ s. length (setting_text s) ≤ 183) (WeighsAtMost (λ (s : Setting). s.name) (λ (k : Key). k.name) w f)
      (λ s short k is. omega (arith, length-append margin (setting_text s))) sets (settings-short once kept h) in
      omega (
        arith,
        length-flat_map (λ s. margin ++ setting_text s) sets,
        sum-once (λ (s : Setting). s.name) (λ (k : Key). k.name) w f keys [] sets once each,
        weight_left-even (λ (s : Setting). s.name) (λ (k : Key). k.name) (length margin + 183) [] keys,
      )
