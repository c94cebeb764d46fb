-- Settings and subs of a tree by their names, and the values of settings.
use Rattle.std.specs.Prelude.{ℕ, ℤ, pos, List, [], ◌∷◌, Bool, cond, map, nat_abs, nat_eq, Option, Some, None}
use Rattle.std.specs.Cmp.Lexicographic.{pointwise}
use Rattle.params_syntax.specs.declared.tree.Atom.{Atom}
use Rattle.params_syntax.specs.declared.tree.Atom.TheVariants.{Number, Word}
use Rattle.params_syntax.specs.declared.tree.Value.{Value}
use Rattle.params_syntax.specs.declared.tree.Value.TheVariants as values
use Rattle.params_syntax.specs.declared.tree.Setting.{Setting}
use Rattle.params_syntax.specs.declared.tree.Item.{Item}
use Rattle.params_syntax.specs.declared.tree.Item.TheVariants.{Set, Sub}
use Rattle.params_syntax.specs.declared.tree.Group.{Group}

-- two names have the same bytes
abbrev pub same : List ℕ → List ℕ → Bool
same a b = pointwise nat_eq a b

-- the items of the first group with a name
abbrev pub items_of : List ℕ → List Group → List Item
items_of name [] = []
items_of name (g ∷ groups) = cond (same g.name name) g.items (items_of name groups)

-- the settings among items
abbrev pub settings_among : List Item → List Setting
settings_among [] = []
settings_among (Set s ∷ items) = s ∷ settings_among items
settings_among (Sub name sets ∷ items) = settings_among items

-- a sub with its settings
pub record SubGroup : Type 0 where
  pub name : List ℕ
  pub sets : List Setting

-- the subs among items
abbrev pub subs_among : List Item → List SubGroup
subs_among [] = []
subs_among (Set s ∷ items) = subs_among items
subs_among (Sub name sets ∷ items) = record { name = name; sets = sets } ∷ subs_among items

-- the value of the first setting of a key
abbrev pub value_of : List ℕ → List Setting → Option Value
value_of key [] = None
value_of key (s ∷ sets) = cond (same s.name key) (Some s.value) (value_of key sets)

-- the size of a number, of a word none
abbrev pub size_of : Atom → ℕ
size_of (Number z) = nat_abs z
size_of (Word word) = 0

-- the number, or of a word 0
abbrev pub number_of : Atom → ℤ
number_of (Number z) = z
number_of (Word word) = pos 0

-- the word, or of a number none
abbrev pub word_of : Atom → List ℕ
word_of (Number z) = []
word_of (Word word) = word

-- the value as a number, a word, a list of numbers or a list of words; or what it is otherwise
abbrev pub size_in : Option Value → ℕ
size_in None = 0
size_in (Some (values.Atom atom)) = size_of atom
size_in (Some (values.List atoms)) = 0

abbrev pub word_in : Option Value → List ℕ
word_in None = []
word_in (Some (values.Atom atom)) = word_of atom
word_in (Some (values.List atoms)) = []

abbrev pub numbers_in : Option Value → List ℤ
numbers_in None = []
numbers_in (Some (values.Atom atom)) = []
numbers_in (Some (values.List atoms)) = map number_of atoms

abbrev pub sizes_in : Option Value → List ℕ
sizes_in None = []
sizes_in (Some (values.Atom atom)) = []
sizes_in (Some (values.List atoms)) = map size_of atoms

abbrev pub words_in : Option Value → List (List ℕ)
words_in None = []
words_in (Some (values.Atom atom)) = []
words_in (Some (values.List atoms)) = map word_of atoms
