-- The limits of what was read: a step keeps them where its token is formed and its list isn't too long, and a state
-- had them where the next one has.
use Rattle.std.proofs.Common.{◌≡◌, ℕ, ◌≤◌, List, [], ◌∷◌, ◌++◌, length, Some, length-append, arith}
use Rattle.params_syntax.specs.declared.tree.Value.{Value}
use Rattle.params_syntax.specs.declared.tree.Value.TheVariants as values
use Rattle.params_syntax.specs.declared.tree.Setting.{Setting}
use Rattle.params_syntax.specs.declared.tree.Item.{Item}
use Rattle.params_syntax.specs.declared.tree.Item.TheVariants.{Set, Sub}
use Rattle.params_syntax.specs.declared.tree.Group.{Group}
use Rattle.params_syntax.specs.declared.state.Frame.{Frame}
use Rattle.params_syntax.specs.declared.state.Frame.TheVariants.{InGroup, InSub}
use Rattle.params_syntax.specs.declared.state.State.{State}
use Rattle.params_syntax.specs.declared.state.State.TheVariants.{Top, GroupNamed, Inside, Named, Assigned, Listed, Element, Separated, Valued}
use Rattle.params_syntax.specs.declared.token.Token.{Token}
use Rattle.params_syntax.specs.declared.token.Token.TheVariants as tokens
use Rattle.params_syntax.specs.Limits.{most_elements}
use Rattle.params_syntax.specs.Trees.{Each, IsName, IsAtom, IsValue, IsSetting, IsItem, IsGroup, IsTree}
use Rattle.params_syntax.specs.Machine.States.{step, closed, with_setting, open_elements}
use Rattle.params_syntax.proofs.Steps.{EachStep, by_steps}

-- the form of a token's value
abbrev pub IsFormed : Token → Type 0
IsFormed (tokens.Sign sign) = Unit {0}
IsFormed (tokens.Name n) = IsName n
IsFormed (tokens.Atom a) = IsAtom a

pub record FrameKeeps (gs : List Group) (g : List ℕ) (items : List Item) : Type 0 where
  pub groups : IsTree gs
  pub name : IsName g
  pub items_keep : Each IsItem items

pub record SubKeeps (gs : List Group) (g : List ℕ) (items : List Item) (sub : List ℕ) (sets : List Setting) : Type 0 where
  pub outer : FrameKeeps gs g items
  pub sub_name : IsName sub
  pub sets_keep : Each IsSetting sets

abbrev pub KeepsFrame : Frame → Type 0
KeepsFrame (InGroup gs g items) = FrameKeeps gs g items
KeepsFrame (InSub gs g items sub sets) = SubKeeps gs g items sub sets

-- a name in a frame
abbrev pub KeepsNamed : Frame → List ℕ → Type 0
KeepsNamed f n = KeepsFrame f × IsName n

-- What was read keeps the limits of a tree.
abbrev pub KeepsLimits : State → Type 0
KeepsLimits (Top gs) = IsTree gs
KeepsLimits (GroupNamed gs g) = IsTree gs × IsName g
KeepsLimits (Inside f) = KeepsFrame f
KeepsLimits (Named f n) = KeepsNamed f n
KeepsLimits (Assigned f n) = KeepsNamed f n
KeepsLimits (Listed f n) = KeepsNamed f n
KeepsLimits (Element f n atoms) = KeepsNamed f n × Each IsAtom atoms × (length atoms ≤ most_elements)
KeepsLimits (Separated f n atoms) = KeepsNamed f n × Each IsAtom atoms × (length atoms ≤ most_elements)
KeepsLimits (Valued f n v) = KeepsNamed f n × IsValue v

pub open_elements-few : (s : State) → KeepsLimits s → open_elements s ≤ most_elements
open_elements-few (Element f n atoms) h = h.2
open_elements-few (Separated f n atoms) h = h.2
open_elements-few (Valued f n (values.Atom a)) h = omega arith
open_elements-few (Valued f n (values.List atoms)) h = omega arith
open_elements-few (Top gs) h = omega arith
open_elements-few (GroupNamed gs g) h = omega arith
open_elements-few (Inside f) h = omega arith
open_elements-few (Named f n) h = omega arith
open_elements-few (Assigned f n) h = omega arith
open_elements-few (Listed f n) h = omega arith

-- ---- one element more

Each-push : {X : Type 0} (P : X → Type 0) (xs : List X) (x : X) → Each P xs → P x → Each P (xs ++ x ∷ [])
Each-push P [] x h p = (p, tt)
Each-push P (y ∷ xs) x h p = (h.0, Each-push P xs x h.1 p)

Each-front : {X : Type 0} (P : X → Type 0) (xs : List X) (x : X) → Each P (xs ++ x ∷ []) → Each P xs
Each-front P [] x h = tt
Each-front P (y ∷ xs) x h = (h.0, Each-front P xs x h.1)

Each-last : {X : Type 0} (P : X → Type 0) (xs : List X) (x : X) → Each P (xs ++ x ∷ []) → P x
Each-last P [] x h = h.0
Each-last P (y ∷ xs) x h = Each-last P xs x h.1

-- ---- forward

abbrev Forward : State → Token → State → Type 0
Forward s t next = KeepsLimits s → IsFormed t → open_elements next ≤ most_elements → KeepsLimits next

closed-keeps : (f : Frame) → KeepsFrame f → KeepsLimits (closed f)
closed-keeps (InGroup gs g items) h = Each-push IsGroup gs (record { name = g; items = items }) h.groups (h.name, h.items_keep)
closed-keeps (InSub gs g items sub sets) h = record {
  groups = h.outer.groups;
  name = h.outer.name;
  items_keep = Each-push IsItem items (Sub sub sets) h.outer.items_keep (h.sub_name, h.sets_keep);
}

with_setting-keeps : (f : Frame) (s : Setting) → KeepsFrame f → IsSetting s → KeepsFrame (with_setting f s)
with_setting-keeps (InGroup gs g items) s h k = record { groups = h.groups; name = h.name; items_keep = Each-push IsItem items (Set s) h.items_keep k }
with_setting-keeps (InSub gs g items sub sets) s h k = record {
  outer = h.outer;
  sub_name = h.sub_name;
  sets_keep = Each-push IsSetting sets s h.sets_keep k;
}

each_forward : EachStep Forward
each_forward = record {
  group_name = λ gs n h t few. (h, t);
  group_opens = λ gs g h t few. record { groups = h.0; name = h.1; items_keep = tt };
  item_name = λ f n h t few. (h, t);
  sub_opens = λ gs g items n h t few. record { outer = h.0; sub_name = h.1; sets_keep = tt };
  closes = λ f h t few. closed-keeps f h;
  equals = λ f n h t few. h;
  atom_value = λ f n a h t few. (h, t);
  list_opens = λ f n h t few. h;
  first_element = λ f n a h t few. (h, (t, tt), few);
  empty_closes = λ f n h t few. (h, (tt, omega arith));
  comma = λ f n atoms h t few. h;
  element = λ f n atoms a h t few. (h.0, Each-push IsAtom atoms a h.1 t, few);
  list_closes = λ f n atoms h t few. (h.0, (h.1, h.2));
  ends = λ f n v h t few. with_setting-keeps f (record { name = n; value = v }) h.0.0 (h.0.1, h.1);
}

pub step-keeps : (s : State) (t : Token) (next : State) → step s t ≡ Some next → KeepsLimits s → IsFormed t → open_elements next ≤ most_elements → KeepsLimits next
step-keeps = by_steps Forward each_forward

-- ---- backward

abbrev Backward : State → Token → State → Type 0
Backward s t next = KeepsLimits next → KeepsLimits s

closed-kept : (f : Frame) → KeepsLimits (closed f) → KeepsFrame f
closed-kept (InGroup gs g items) h =
    let last = Each-last IsGroup gs (record { name = g; items = items }) h in
    record { groups = Each-front IsGroup gs (record { name = g; items = items }) h; name = last.0; items_keep = last.1 }
closed-kept (InSub gs g items sub sets) h =
    let last = Each-last IsItem items (Sub sub sets) h.items_keep in
    record {
      outer = record { groups = h.groups; name = h.name; items_keep = Each-front IsItem items (Sub sub sets) h.items_keep };
      sub_name = last.0;
      sets_keep = last.1;
    }

abbrev KeptSetting : Frame → Setting → Type 0
KeptSetting f s = KeepsFrame f × IsSetting s

with_setting-kept : (f : Frame) (s : Setting) → KeepsFrame (with_setting f s) → KeptSetting f s
with_setting-kept (InGroup gs g items) s h =
    (record { groups = h.groups; name = h.name; items_keep = Each-front IsItem items (Set s) h.items_keep }, Each-last IsItem items (Set s) h.items_keep)
with_setting-kept (InSub gs g items sub sets) s h =
    (record { outer = h.outer; sub_name = h.sub_name; sets_keep = Each-front IsSetting sets s h.sets_keep }, Each-last IsSetting sets s h.sets_keep)

ends-kept : (f : Frame) (n : List ℕ) (v : Value) → KeepsFrame (with_setting f (record { name = n; value = v })) → KeepsLimits (Valued f n v)
ends-kept f n v h = let k = with_setting-kept f (record { name = n; value = v }) h in ((k.0, k.1.0), k.1.1)

each_backward : EachStep Backward
each_backward = record {
  group_name = λ gs n h. h.0;
  group_opens = λ gs g h. (h.groups, h.name);
  item_name = λ f n h. h.0;
  sub_opens = λ gs g items n h. (h.outer, h.sub_name);
  closes = closed-kept;
  equals = λ f n h. h;
  atom_value = λ f n a h. h.0;
  list_opens = λ f n h. h;
  first_element = λ f n a h. h.0;
  empty_closes = λ f n h. h.0;
  comma = λ f n atoms h. h;
  element = λ f n atoms a h. (h.0, Each-front IsAtom atoms a h.1, omega (arith, h.2, length-append atoms (a ∷ [])));
  list_closes = λ f n atoms h. (h.0, h.1.0, h.1.1);
  ends = ends-kept;
}

pub step-kept : (s : State) (t : Token) (next : State) → step s t ≡ Some next → KeepsLimits next → KeepsLimits s
step-kept = by_steps Backward each_backward
