-- The canonical text of a tree. Each line ends with a line feed; what stands in a group is indented by two spaces,
-- what stands in a sub by four.
use Rattle.std.specs.Prelude.{ℕ, List, [], ◌∷◌, ◌++◌, codes}
use Rattle.std.specs.List.{flat_map}
use Rattle.std.specs.Fmt.{signed_decimal}
use Rattle.params_syntax.specs.declared.tree.Atom.{Atom}
use Rattle.params_syntax.specs.declared.tree.Atom.TheVariants.{Number, Word}
use Rattle.params_syntax.specs.declared.tree.Value.{Value}
use Rattle.params_syntax.specs.declared.tree.Value.TheVariants as values
use Rattle.params_syntax.specs.declared.tree.Setting.{Setting}
use Rattle.params_syntax.specs.declared.tree.Item.{Item}
use Rattle.params_syntax.specs.declared.tree.Item.TheVariants.{Set, Sub}
use Rattle.params_syntax.specs.declared.tree.Group.{Group}

abbrev pub atom_text : Atom → List ℕ
atom_text (Number z) = signed_decimal z
atom_text (Word word) = codes "\"" ++ word ++ codes "\""

abbrev pub elements_text : List Atom → List ℕ
elements_text [] = []
elements_text (a ∷ []) = atom_text a
elements_text (a ∷ b ∷ atoms) = atom_text a ++ codes ", " ++ elements_text (b ∷ atoms)

abbrev pub value_text : Value → List ℕ
value_text (values.Atom atom) = atom_text atom
value_text (values.List atoms) = codes "[" ++ elements_text atoms ++ codes "]"

-- a setting, without its indentation
abbrev pub setting_text : Setting → List ℕ
setting_text s = s.name ++ codes " = " ++ value_text s.value ++ codes ";\n"

-- a setting in a sub
abbrev pub sub_setting_text : Setting → List ℕ
sub_setting_text s = codes "    " ++ setting_text s

abbrev pub item_text : Item → List ℕ
item_text (Set s) = codes "  " ++ setting_text s
item_text (Sub name sets) = codes "  " ++ name ++ codes " {\n" ++ flat_map sub_setting_text sets ++ codes "  }\n"

abbrev pub group_text : Group → List ℕ
group_text g = g.name ++ codes " {\n" ++ flat_map item_text g.items ++ codes "}\n"

abbrev pub canonical_text : List Group → List ℕ
canonical_text groups = flat_map group_text groups
