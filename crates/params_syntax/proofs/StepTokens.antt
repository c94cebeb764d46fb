-- The tokens that a state was read from, and how many elements its open list has.
use Rattle.std.proofs.Common.{◌≡◌, ℕ, List, [], ◌∷◌, ◌++◌, Some, refl, sym, ap, ◌∙◌, append_assoc, length-append, arith}
use Rattle.std.proofs.lemmas.List.{append-nil}
use Rattle.std.specs.List.{flat_map}
use Rattle.std.proofs.lemmas.List.Concat.{flat_map-append}
use Rattle.params_syntax.specs.declared.tree.Atom.{Atom}
use Rattle.params_syntax.specs.declared.tree.Setting.{Setting}
use Rattle.params_syntax.specs.declared.tree.Item.{Item}
use Rattle.params_syntax.specs.declared.tree.Item.TheVariants.{Set, Sub}
use Rattle.params_syntax.specs.declared.tree.Group.{Group}
use Rattle.params_syntax.specs.declared.state.Frame.{Frame}
use Rattle.params_syntax.specs.declared.state.Frame.TheVariants.{InGroup, InSub}
use Rattle.params_syntax.specs.declared.state.State.{State}
use Rattle.params_syntax.specs.declared.state.State.TheVariants.{Top, GroupNamed, Inside, Named, Assigned, Listed, Element, Separated, Valued}
use Rattle.params_syntax.specs.declared.token.Token.{Token}
use Rattle.params_syntax.specs.declared.token.Token.TheVariants as tokens
use Rattle.params_syntax.specs.Grammar.{opens, closes, equals, ends, list_opens, list_closes, comma, elements, value_tokens, setting_tokens, item_tokens, group_tokens, tree_tokens, counted}
use Rattle.params_syntax.specs.Machine.States.{step, closed, with_setting, open_elements}
use Rattle.params_syntax.proofs.Steps.{EachStep, by_steps}

-- a group without its end
abbrev open_group : List Group → List ℕ → List Item → List Token
open_group gs g items = tree_tokens gs ++ (tokens.Name g ∷ opens ∷ flat_map item_tokens items)

abbrev frame_tokens : Frame → List Token
frame_tokens (InGroup gs g items) = open_group gs g items
frame_tokens (InSub gs g items sub sets) = open_group gs g items ++ (tokens.Name sub ∷ opens ∷ flat_map setting_tokens sets)

abbrev pub state_tokens : State → List Token
state_tokens (Top gs) = tree_tokens gs
state_tokens (GroupNamed gs g) = tree_tokens gs ++ tokens.Name g ∷ []
state_tokens (Inside f) = frame_tokens f
state_tokens (Named f n) = frame_tokens f ++ tokens.Name n ∷ []
state_tokens (Assigned f n) = frame_tokens f ++ tokens.Name n ∷ equals ∷ []
state_tokens (Listed f n) = frame_tokens f ++ tokens.Name n ∷ equals ∷ list_opens ∷ []
state_tokens (Element f n atoms) = frame_tokens f ++ (tokens.Name n ∷ equals ∷ list_opens ∷ elements atoms)
state_tokens (Separated f n atoms) = frame_tokens f ++ (tokens.Name n ∷ equals ∷ list_opens ∷ elements atoms ++ comma ∷ [])
state_tokens (Valued f n v) = frame_tokens f ++ (tokens.Name n ∷ equals ∷ value_tokens v)

abbrev IsSome_list : List Atom → Type 0
IsSome_list [] = ⊥
IsSome_list (a ∷ atoms) = Unit {0}

-- a list with a first element has one
abbrev pub HasElements : State → Type 0
HasElements (Element f n atoms) = IsSome_list atoms
HasElements (Separated f n atoms) = IsSome_list atoms
HasElements _ = Unit {0}

-- ---- pieces at the end

flat_map-push : {X A : Type 0} (f : X → List A) (xs : List X) (x : X) → flat_map f (xs ++ x ∷ []) ≡ flat_map f xs ++ f x
flat_map-push f xs x = flat_map-append f xs (x ∷ []) ∙ ap (λ l. flat_map f xs ++ l) (append-nil (f x))

elements-push : (b : Atom) (atoms : List Atom) (a : Atom) → elements ((b ∷ atoms) ++ a ∷ []) ≡ elements (b ∷ atoms) ++ comma ∷ tokens.Atom a ∷ []
elements-push b [] a = refl
elements-push b (c ∷ atoms) a = ap (λ (ts : List Token). tokens.Atom b ∷ comma ∷ ts) (elements-push c atoms a)

IsSome_list-push : (atoms : List Atom) (a : Atom) → IsSome_list (atoms ++ a ∷ [])
IsSome_list-push [] a = tt
IsSome_list-push (b ∷ atoms) a = tt

-- one token more in the middle of a list
onto : (front : List Token) (xs : List Token) (t : Token) → front ++ (xs ++ t ∷ []) ≡ (front ++ xs) ++ t ∷ []
onto front xs t = sym (append_assoc front xs (t ∷ []))

closed-tokens : (f : Frame) → state_tokens (closed f) ≡ frame_tokens f ++ closes ∷ []
closed-tokens (InGroup gs g items) =
    flat_map-push group_tokens gs (record { name = g; items = items })
    ∙ onto (tree_tokens gs) (tokens.Name g ∷ opens ∷ flat_map item_tokens items) closes
closed-tokens (InSub gs g items sub sets) =
    ap (λ (ts : List Token). tree_tokens gs ++ (tokens.Name g ∷ opens ∷ ts)) (flat_map-push item_tokens items (Sub sub sets))
    ∙ sym (append_assoc (tree_tokens gs) (tokens.Name g ∷ opens ∷ flat_map item_tokens items) (item_tokens (Sub sub sets)))
    ∙ onto (open_group gs g items) (tokens.Name sub ∷ opens ∷ flat_map setting_tokens sets) closes

with_setting-tokens : (f : Frame) (s : Setting) → frame_tokens (with_setting f s) ≡ frame_tokens f ++ setting_tokens s
with_setting-tokens (InGroup gs g items) s =
    ap (λ (ts : List Token). tree_tokens gs ++ (tokens.Name g ∷ opens ∷ ts)) (flat_map-push item_tokens items (Set s))
    ∙ sym (append_assoc (tree_tokens gs) (tokens.Name g ∷ opens ∷ flat_map item_tokens items) (setting_tokens s))
with_setting-tokens (InSub gs g items sub sets) s =
    ap (λ (ts : List Token). open_group gs g items ++ (tokens.Name sub ∷ opens ∷ ts)) (flat_map-push setting_tokens sets s)
    ∙ sym (append_assoc (open_group gs g items) (tokens.Name sub ∷ opens ∷ flat_map setting_tokens sets) (setting_tokens s))

-- ---- each step adds its token

-- a list keeps that it has an element, and the state has the token at the end
abbrev Adds : State → Token → State → Type 0
Adds s t next = HasElements s → HasElements next × (state_tokens next ≡ state_tokens s ++ t ∷ [])

element-adds : (f : Frame) (n : List ℕ) (atoms : List Atom) (a : Atom) → IsSome_list atoms
    → state_tokens (Element f n (atoms ++ a ∷ [])) ≡ state_tokens (Separated f n atoms) ++ tokens.Atom a ∷ []
element-adds f n [] a some = absurd some
element-adds f n (b ∷ atoms) a some =
    ap (λ (ts : List Token). frame_tokens f ++ (tokens.Name n ∷ equals ∷ list_opens ∷ ts))
    (elements-push b atoms a ∙ sym (append_assoc (elements (b ∷ atoms)) (comma ∷ []) (tokens.Atom a ∷ [])))
    ∙ onto (frame_tokens f) (tokens.Name n ∷ equals ∷ list_opens ∷ elements (b ∷ atoms) ++ comma ∷ []) (tokens.Atom a)

each_adds : EachStep Adds
each_adds = record {
  group_name = λ gs n h. (tt, refl);
  group_opens = λ gs g h. (tt, onto (tree_tokens gs) (tokens.Name g ∷ []) opens);
  item_name = λ f n h. (tt, refl);
  sub_opens = λ gs g items n h. (tt, onto (open_group gs g items) (tokens.Name n ∷ []) opens);
  closes = λ f h. (closed-has f, closed-tokens f);
  equals = λ f n h. (tt, onto (frame_tokens f) (tokens.Name n ∷ []) equals);
  atom_value = λ f n a h. (tt, onto (frame_tokens f) (tokens.Name n ∷ equals ∷ []) (tokens.Atom a));
  list_opens = λ f n h. (tt, onto (frame_tokens f) (tokens.Name n ∷ equals ∷ []) list_opens);
  first_element = λ f n a h. (tt, onto (frame_tokens f) (tokens.Name n ∷ equals ∷ list_opens ∷ []) (tokens.Atom a));
  empty_closes = λ f n h. (tt, onto (frame_tokens f) (tokens.Name n ∷ equals ∷ list_opens ∷ []) list_closes);
  comma = λ f n atoms h. (h, onto (frame_tokens f) (tokens.Name n ∷ equals ∷ list_opens ∷ elements atoms) comma);
  element = λ f n atoms a h. (IsSome_list-push atoms a, element-adds f n atoms a h);
  list_closes = λ f n atoms h. (tt, onto (frame_tokens f) (tokens.Name n ∷ equals ∷ list_opens ∷ elements atoms) list_closes);
  ends = λ f n v h. (tt, with_setting-tokens f (record { name = n; value = v }) ∙ onto (frame_tokens f) (tokens.Name n ∷ equals ∷ value_tokens v) ends);
}
  where
    closed-has : (f : Frame) → HasElements (closed f)
    closed-has (InGroup gs g items) = tt
    closed-has (InSub gs g items sub sets) = tt

pub step-adds : (s : State) (t : Token) (next : State) → step s t ≡ Some next → HasElements s → HasElements next × (state_tokens next ≡ state_tokens s ++ t ∷ [])
step-adds = by_steps Adds each_adds

-- ---- each step counts its token

abbrev Counts : State → Token → State → Type 0
Counts s t next = open_elements next ≡ counted (open_elements s) t

each_counts : EachStep Counts
each_counts = record {
  group_name = λ gs n. refl;
  group_opens = λ gs g. refl;
  item_name = λ f n. refl;
  sub_opens = λ gs g items n. refl;
  closes = closed-counts;
  equals = λ f n. refl;
  atom_value = λ f n a. refl;
  list_opens = λ f n. refl;
  first_element = λ f n a. refl;
  empty_closes = λ f n. refl;
  comma = λ f n atoms. refl;
  element = λ f n atoms a. omega (arith, length-append atoms (a ∷ []));
  list_closes = λ f n atoms. refl;
  ends = λ f n v. refl;
}
  where
    closed-counts : (f : Frame) → open_elements (closed f) ≡ 0
    closed-counts (InGroup gs g items) = refl
    closed-counts (InSub gs g items sub sets) = refl

pub step-counts : (s : State) (t : Token) (next : State) → step s t ≡ Some next → open_elements next ≡ counted (open_elements s) t
step-counts = by_steps Counts each_counts
