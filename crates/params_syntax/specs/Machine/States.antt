-- How a tree is read token by token: the state after each token, where the token is allowed. Lists may be of any
-- length here.
use Rattle.std.specs.Prelude.{ℕ, List, [], ◌∷◌, ◌++◌, length, Option, Some, None}
use Rattle.params_syntax.specs.declared.tree.Atom.{Atom}
use Rattle.params_syntax.specs.declared.tree.Value.TheVariants as values
use Rattle.params_syntax.specs.declared.tree.Setting.{Setting}
use Rattle.params_syntax.specs.declared.tree.Item.TheVariants.{Set, Sub}
use Rattle.params_syntax.specs.declared.tree.Group.{Group}
use Rattle.params_syntax.specs.declared.state.Frame.{Frame}
use Rattle.params_syntax.specs.declared.state.Frame.TheVariants.{InGroup, InSub}
use Rattle.params_syntax.specs.declared.state.State.{State}
use Rattle.params_syntax.specs.declared.state.State.TheVariants.{Top, GroupNamed, Inside, Named, Assigned, Listed, Element, Separated, Valued}
use Rattle.params_syntax.specs.declared.token.Sign.{Sign}
use Rattle.params_syntax.specs.declared.token.Sign.TheVariants.{Opens, Closes, Equals, Ends, ListOpens, ListCloses, Comma}
use Rattle.params_syntax.specs.declared.token.Token.{Token}
use Rattle.params_syntax.specs.declared.token.Token.TheVariants as tokens

-- after a name
abbrev pub on_name : State → List ℕ → Option State
on_name (Top groups) name = Some (GroupNamed groups name)
on_name (Inside frame) name = Some (Named frame name)
on_name _ name = None

-- after a number or a word
abbrev pub on_atom : State → Atom → Option State
on_atom (Assigned frame name) atom = Some (Valued frame name (values.Atom atom))
on_atom (Listed frame name) atom = Some (Element frame name (atom ∷ []))
on_atom (Separated frame name atoms) atom = Some (Element frame name (atoms ++ atom ∷ []))
on_atom _ atom = None

-- after the `{` of a sub, which may not stand in another
abbrev pub in_sub : Frame → List ℕ → Option State
in_sub (InGroup groups group items) sub = Some (Inside (InSub groups group items sub []))
in_sub (InSub groups group items open_sub sets) sub = None

-- after `{`
abbrev pub on_opens : State → Option State
on_opens (GroupNamed groups group) = Some (Inside (InGroup groups group []))
on_opens (Named frame name) = in_sub frame name
on_opens _ = None

-- the group or sub ends
abbrev pub closed : Frame → State
closed (InGroup groups group items) = Top (groups ++ record { name = group; items = items } ∷ [])
closed (InSub groups group items sub sets) = Inside (InGroup groups group (items ++ Sub sub sets ∷ []))

-- after `}`
abbrev pub on_closes : State → Option State
on_closes (Inside frame) = Some (closed frame)
on_closes _ = None

-- after `=`
abbrev pub on_equals : State → Option State
on_equals (Named frame name) = Some (Assigned frame name)
on_equals _ = None

-- one setting more
abbrev pub with_setting : Frame → Setting → Frame
with_setting (InGroup groups group items) s = InGroup groups group (items ++ Set s ∷ [])
with_setting (InSub groups group items sub sets) s = InSub groups group items sub (sets ++ s ∷ [])

-- after `;`
abbrev pub on_ends : State → Option State
on_ends (Valued frame name value) = Some (Inside (with_setting frame (record { name = name; value = value })))
on_ends _ = None

-- after `[`
abbrev pub on_list_opens : State → Option State
on_list_opens (Assigned frame name) = Some (Listed frame name)
on_list_opens _ = None

-- after `]`
abbrev pub on_list_closes : State → Option State
on_list_closes (Listed frame name) = Some (Valued frame name (values.List []))
on_list_closes (Element frame name atoms) = Some (Valued frame name (values.List atoms))
on_list_closes _ = None

-- after `,`
abbrev pub on_comma : State → Option State
on_comma (Element frame name atoms) = Some (Separated frame name atoms)
on_comma _ = None

-- after a sign
abbrev pub on_sign : State → Sign → Option State
on_sign s Opens = on_opens s
on_sign s Closes = on_closes s
on_sign s Equals = on_equals s
on_sign s Ends = on_ends s
on_sign s ListOpens = on_list_opens s
on_sign s ListCloses = on_list_closes s
on_sign s Comma = on_comma s

-- the state after a token, where it is allowed
abbrev pub step : State → Token → Option State
step s (tokens.Sign sign) = on_sign s sign
step s (tokens.Name name) = on_name s name
step s (tokens.Atom atom) = on_atom s atom

-- how many elements the open list has
abbrev pub open_elements : State → ℕ
open_elements (Element frame name atoms) = length atoms
open_elements (Separated frame name atoms) = length atoms
open_elements (Valued frame name (values.Atom atom)) = 1
open_elements _ = 0

-- one value between groups, and another inside of one
abbrev pub at_top : {X : Type 0} → (List Group → X) → X → State → X
at_top top inside (Top groups) = top groups
at_top top inside _ = inside
