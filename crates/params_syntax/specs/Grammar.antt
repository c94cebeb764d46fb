-- The grammar: the tokens that a tree is spelled with.
use Rattle.std.specs.Prelude.{◌≡◌, ℕ, suc, List, [], ◌∷◌, ◌++◌}
use Rattle.std.specs.List.{flat_map}
use Rattle.params_syntax.specs.declared.tree.Atom.{Atom}
use Rattle.params_syntax.specs.declared.tree.Value.{Value}
use Rattle.params_syntax.specs.declared.tree.Value.TheVariants as values
use Rattle.params_syntax.specs.declared.tree.Setting.{Setting}
use Rattle.params_syntax.specs.declared.tree.Item.{Item}
use Rattle.params_syntax.specs.declared.tree.Item.TheVariants.{Set, Sub}
use Rattle.params_syntax.specs.declared.tree.Group.{Group}
use Rattle.params_syntax.specs.declared.token.Token.{Token}
use Rattle.params_syntax.specs.declared.token.Token.TheVariants as tokens
use Rattle.params_syntax.specs.declared.token.Sign.TheVariants.{Opens, Closes, Equals, Ends, ListOpens, ListCloses, Comma}

-- the signs
abbrev pub opens : Token
opens = tokens.Sign Opens

abbrev pub closes : Token
closes = tokens.Sign Closes

abbrev pub equals : Token
equals = tokens.Sign Equals

abbrev pub ends : Token
ends = tokens.Sign Ends

abbrev pub list_opens : Token
list_opens = tokens.Sign ListOpens

abbrev pub list_closes : Token
list_closes = tokens.Sign ListCloses

abbrev pub comma : Token
comma = tokens.Sign Comma

-- numbers and words with a comma between each two
abbrev pub elements : List Atom → List Token
elements [] = []
elements (a ∷ []) = tokens.Atom a ∷ []
elements (a ∷ b ∷ atoms) = tokens.Atom a ∷ comma ∷ elements (b ∷ atoms)

abbrev pub value_tokens : Value → List Token
value_tokens (values.Atom atom) = tokens.Atom atom ∷ []
value_tokens (values.List atoms) = list_opens ∷ elements atoms ++ list_closes ∷ []

abbrev pub setting_tokens : Setting → List Token
setting_tokens s = tokens.Name s.name ∷ equals ∷ value_tokens s.value ++ ends ∷ []

abbrev pub item_tokens : Item → List Token
item_tokens (Set s) = setting_tokens s
item_tokens (Sub name sets) = tokens.Name name ∷ opens ∷ flat_map setting_tokens sets ++ closes ∷ []

abbrev pub group_tokens : Group → List Token
group_tokens g = tokens.Name g.name ∷ opens ∷ flat_map item_tokens g.items ++ closes ∷ []

-- The tokens of a tree: any number of groups.
abbrev pub tree_tokens : List Group → List Token
tree_tokens groups = flat_map group_tokens groups

-- The tokens begin some tree, whose lists may be of any length: each token is allowed after those before it.
abbrev pub BeginTree : List Token → Type 0
BeginTree ts = (groups : List Group) × (more : List Token) × (ts ++ more ≡ tree_tokens groups)

-- one token more: how many numbers and words stand at the end with nothing but commas between them
abbrev pub counted : ℕ → Token → ℕ
counted n (tokens.Sign Comma) = n
counted n (tokens.Sign sign) = 0
counted n (tokens.Name name) = 0
counted n (tokens.Atom atom) = suc n

abbrev pub counted_on : ℕ → List Token → ℕ
counted_on n [] = n
counted_on n (t ∷ ts) = counted_on (counted n t) ts

-- How many elements the list that the tokens end in has so far.
abbrev pub last_elements : List Token → ℕ
last_elements ts = counted_on 0 ts
