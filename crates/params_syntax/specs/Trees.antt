-- The limits of a tree: what forms its names, words and numbers have, and how long its lists are.
use Rattle.std.specs.Prelude.{ℕ, suc, ℤ, pos, negsuc, ◌≤◌, List, [], ◌∷◌, length, IsTrue}
use Rattle.params_syntax.specs.Limits.{longest_name, greatest, most_elements}
use Rattle.params_syntax.specs.declared.tree.Atom.{Atom}
use Rattle.params_syntax.specs.declared.tree.Atom.TheVariants.{Number, Word}
use Rattle.params_syntax.specs.declared.tree.Value.{Value}
use Rattle.params_syntax.specs.declared.tree.Value.TheVariants as values
use Rattle.params_syntax.specs.declared.tree.Setting.{Setting}
use Rattle.params_syntax.specs.declared.tree.Item.{Item}
use Rattle.params_syntax.specs.declared.tree.Item.TheVariants.{Set, Sub}
use Rattle.params_syntax.specs.declared.tree.Group.{Group}
use Rattle.params_syntax.specs.Tokens.{begins_name, is_name_byte, is_word_byte}

-- each element has the property
abbrev pub Each : {X : Type 0} → (X → Type 0) → List X → Type 0
Each P [] = Unit {0}
Each P (x ∷ xs) = P x × Each P xs

-- a name of a text: a letter or `_`, then letters, digits and `_`
abbrev pub IsName : List ℕ → Type 0
IsName [] = ⊥
IsName (b ∷ bs) = IsTrue (begins_name b) × Each (λ c. IsTrue (is_name_byte c)) bs × (length (b ∷ bs) ≤ longest_name)

abbrev pub IsWord : List ℕ → Type 0
IsWord bytes = Each (λ c. IsTrue (is_word_byte c)) bytes × (length bytes ≤ longest_name)

abbrev pub IsNumber : ℤ → Type 0
IsNumber (pos n) = n ≤ greatest
IsNumber (negsuc n) = suc n ≤ greatest

abbrev pub IsAtom : Atom → Type 0
IsAtom (Number z) = IsNumber z
IsAtom (Word word) = IsWord word

abbrev pub IsValue : Value → Type 0
IsValue (values.Atom atom) = IsAtom atom
IsValue (values.List atoms) = Each IsAtom atoms × (length atoms ≤ most_elements)

abbrev pub IsSetting : Setting → Type 0
IsSetting s = IsName s.name × IsValue s.value

abbrev pub IsItem : Item → Type 0
IsItem (Set s) = IsSetting s
IsItem (Sub name sets) = IsName name × Each IsSetting sets

abbrev pub IsGroup : Group → Type 0
IsGroup g = IsName g.name × Each IsItem g.items

abbrev pub IsTree : List Group → Type 0
IsTree groups = Each IsGroup groups
