-- The steps of reading, one by one: what holds of each of them holds of every step.
use Rattle.std.proofs.Common.{◌≡◌, ℕ, List, [], ◌∷◌, ◌++◌, Some, subst}
use Rattle.std.proofs.lemmas.Option.{same_Some}
use Rattle.params_syntax.specs.declared.tree.Atom.{Atom}
use Rattle.params_syntax.specs.declared.tree.Value.{Value}
use Rattle.params_syntax.specs.declared.tree.Value.TheVariants as values
use Rattle.params_syntax.specs.declared.tree.Item.{Item}
use Rattle.params_syntax.specs.declared.tree.Group.{Group}
use Rattle.params_syntax.specs.declared.state.Frame.{Frame}
use Rattle.params_syntax.specs.declared.state.Frame.TheVariants.{InGroup, InSub}
use Rattle.params_syntax.specs.declared.state.State.{State}
use Rattle.params_syntax.specs.declared.state.State.TheVariants.{Top, GroupNamed, Inside, Named, Assigned, Listed, Element, Separated, Valued}
use Rattle.params_syntax.specs.declared.token.Sign.{Sign}
use Rattle.params_syntax.specs.declared.token.Sign.TheVariants.{Opens, Closes, Equals, Ends, ListOpens, ListCloses, Comma}
use Rattle.params_syntax.specs.declared.token.Token.{Token}
use Rattle.params_syntax.specs.declared.token.Token.TheVariants as tokens
use Rattle.params_syntax.specs.Grammar.{opens, closes, equals, ends, list_opens, list_closes, comma}
use Rattle.params_syntax.specs.Machine.States.{step, on_name, on_atom, in_sub, on_opens, closed, on_closes, on_equals, with_setting, on_ends, on_list_opens, on_list_closes, on_comma, on_sign}

-- what holds of each kind of step
pub record EachStep (P : State → Token → State → Type 0) : Type 0 where
  pub group_name : (gs : List Group) (n : List ℕ) → P (Top gs) (tokens.Name n) (GroupNamed gs n)
  pub group_opens : (gs : List Group) (g : List ℕ) → P (GroupNamed gs g) opens (Inside (InGroup gs g []))
  pub item_name : (f : Frame) (n : List ℕ) → P (Inside f) (tokens.Name n) (Named f n)
  pub sub_opens : (gs : List Group) (g : List ℕ) (items : List Item) (n : List ℕ) → P (Named (InGroup gs g items) n) opens (Inside (InSub gs g items n []))
  pub closes : (f : Frame) → P (Inside f) closes (closed f)
  pub equals : (f : Frame) (n : List ℕ) → P (Named f n) equals (Assigned f n)
  pub atom_value : (f : Frame) (n : List ℕ) (a : Atom) → P (Assigned f n) (tokens.Atom a) (Valued f n (values.Atom a))
  pub list_opens : (f : Frame) (n : List ℕ) → P (Assigned f n) list_opens (Listed f n)
  pub first_element : (f : Frame) (n : List ℕ) (a : Atom) → P (Listed f n) (tokens.Atom a) (Element f n (a ∷ []))
  pub empty_closes : (f : Frame) (n : List ℕ) → P (Listed f n) list_closes (Valued f n (values.List []))
  pub comma : (f : Frame) (n : List ℕ) (atoms : List Atom) → P (Element f n atoms) comma (Separated f n atoms)
  pub element : (f : Frame) (n : List ℕ) (atoms : List Atom) (a : Atom) → P (Separated f n atoms) (tokens.Atom a) (Element f n (atoms ++ a ∷ []))
  pub list_closes : (f : Frame) (n : List ℕ) (atoms : List Atom) → P (Element f n atoms) list_closes (Valued f n (values.List atoms))
  pub ends : (f : Frame) (n : List ℕ) (v : Value) → P (Valued f n v) ends (Inside (with_setting f (record { name = n; value = v })))

-- what holds at the state of an option
at_some : (P : State → Type 0) (s next : State) → Some s ≡ Some next → P s → P next
at_some P s next e p = subst P (same_Some s next e) p

by_name : (P : State → Token → State → Type 0) → EachStep P → (s : State) (n : List ℕ) (next : State) → on_name s n ≡ Some next → P s (tokens.Name n) next
by_name P each (Top gs) n next e = at_some (P (Top gs) (tokens.Name n)) _ next e (each.group_name gs n)
by_name P each (Inside f) n next e = at_some (P (Inside f) (tokens.Name n)) _ next e (each.item_name f n)
by_name P each _ n next e = absurd cc

by_atom : (P : State → Token → State → Type 0) → EachStep P → (s : State) (a : Atom) (next : State) → on_atom s a ≡ Some next → P s (tokens.Atom a) next
by_atom P each (Assigned f n) a next e = at_some (P (Assigned f n) (tokens.Atom a)) _ next e (each.atom_value f n a)
by_atom P each (Listed f n) a next e = at_some (P (Listed f n) (tokens.Atom a)) _ next e (each.first_element f n a)
by_atom P each (Separated f n atoms) a next e = at_some (P (Separated f n atoms) (tokens.Atom a)) _ next e (each.element f n atoms a)
by_atom P each _ a next e = absurd cc

by_sub : (P : State → Token → State → Type 0) → EachStep P → (f : Frame) (n : List ℕ) (next : State) → in_sub f n ≡ Some next → P (Named f n) opens next
by_sub P each (InGroup gs g items) n next e = at_some (P (Named (InGroup gs g items) n) opens) _ next e (each.sub_opens gs g items n)
by_sub P each (InSub gs g items sub sets) n next e = absurd cc

by_opens : (P : State → Token → State → Type 0) → EachStep P → (s next : State) → on_opens s ≡ Some next → P s opens next
by_opens P each (GroupNamed gs g) next e = at_some (P (GroupNamed gs g) opens) _ next e (each.group_opens gs g)
by_opens P each (Named f n) next e = by_sub P each f n next e
by_opens P each _ next e = absurd cc

by_closes : (P : State → Token → State → Type 0) → EachStep P → (s next : State) → on_closes s ≡ Some next → P s closes next
by_closes P each (Inside f) next e = at_some (P (Inside f) closes) _ next e (each.closes f)
by_closes P each _ next e = absurd cc

by_equals : (P : State → Token → State → Type 0) → EachStep P → (s next : State) → on_equals s ≡ Some next → P s equals next
by_equals P each (Named f n) next e = at_some (P (Named f n) equals) _ next e (each.equals f n)
by_equals P each _ next e = absurd cc

by_ends : (P : State → Token → State → Type 0) → EachStep P → (s next : State) → on_ends s ≡ Some next → P s ends next
by_ends P each (Valued f n v) next e = at_some (P (Valued f n v) ends) _ next e (each.ends f n v)
by_ends P each _ next e = absurd cc

by_list_opens : (P : State → Token → State → Type 0) → EachStep P → (s next : State) → on_list_opens s ≡ Some next → P s list_opens next
by_list_opens P each (Assigned f n) next e = at_some (P (Assigned f n) list_opens) _ next e (each.list_opens f n)
by_list_opens P each _ next e = absurd cc

by_list_closes : (P : State → Token → State → Type 0) → EachStep P → (s next : State) → on_list_closes s ≡ Some next → P s list_closes next
by_list_closes P each (Listed f n) next e = at_some (P (Listed f n) list_closes) _ next e (each.empty_closes f n)
by_list_closes P each (Element f n atoms) next e = at_some (P (Element f n atoms) list_closes) _ next e (each.list_closes f n atoms)
by_list_closes P each _ next e = absurd cc

by_comma : (P : State → Token → State → Type 0) → EachStep P → (s next : State) → on_comma s ≡ Some next → P s comma next
by_comma P each (Element f n atoms) next e = at_some (P (Element f n atoms) comma) _ next e (each.comma f n atoms)
by_comma P each _ next e = absurd cc

by_sign : (P : State → Token → State → Type 0) → EachStep P → (s : State) (sign : Sign) (next : State) → on_sign s sign ≡ Some next → P s (tokens.Sign sign) next
by_sign P each s Opens next e = by_opens P each s next e
by_sign P each s Closes next e = by_closes P each s next e
by_sign P each s Equals next e = by_equals P each s next e
by_sign P each s Ends next e = by_ends P each s next e
by_sign P each s ListOpens next e = by_list_opens P each s next e
by_sign P each s ListCloses next e = by_list_closes P each s next e
by_sign P each s Comma next e = by_comma P each s next e

pub by_steps : (P : State → Token → State → Type 0) → EachStep P → (s : State) (t : Token) (next : State) → step s t ≡ Some next → P s t next
by_steps P each s (tokens.Sign sign) next e = by_sign P each s sign next e
by_steps P each s (tokens.Name n) next e = by_name P each s n next e
by_steps P each s (tokens.Atom a) next e = by_atom P each s a next e
