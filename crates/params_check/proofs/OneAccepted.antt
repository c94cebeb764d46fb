-- The tree of a short text is accepted.
use Rattle.std.proofs.Common.{◌≡◌, ℕ, pos, List, [], ◌∷◌, codes, refl, ap, rules, Ok}
use Rattle.std.specs.Fmt.{digits}
use Rattle.params_syntax.specs.declared.tree.Atom.TheVariants.{Number, Word}
use Rattle.params_syntax.specs.declared.tree.Value.{Value}
use Rattle.params_syntax.specs.declared.tree.Value.TheVariants as values
use Rattle.params_syntax.specs.declared.tree.Setting.{Setting}
use Rattle.params_syntax.specs.declared.tree.Item.{Item}
use Rattle.params_syntax.specs.declared.tree.Item.TheVariants.{Set, Sub}
use Rattle.params_syntax.specs.declared.tree.Group.{Group}
use Rattle.params_syntax.specs.Trees.{IsTree}
use Rattle.params_syntax.specs.Canonical.{canonical_text}
use Rattle.params_check.specs.Examples.{drop_text}
use Rattle.params_check.specs.Keys.{mesh_keys, field_keys, method_keys, output_keys, shape_keys, criterion_keys}
use Rattle.params_check.specs.Parameters.{values_of, total_of}
use Rattle.params_check.specs.Walks.{items_faults, group_names, first_walk, second_walk, third_walk, all_faults, unless_fault, parameters_of}

abbrev setting : List ℕ → Value → Setting
setting name value = record { name = name; value = value }

abbrev group : List ℕ → List Item → Group
group name items = record { name = name; items = items }

abbrev number : ℕ → Value
number n = values.Atom (Number (pos n))

abbrev word : List ℕ → Value
word w = values.Atom (Word w)

abbrev numbers : ℕ → ℕ → ℕ → Value
numbers x y z = values.List (Number (pos x) ∷ Number (pos y) ∷ Number (pos z) ∷ [])

abbrev drop_sub : Item
drop_sub =
    Sub (codes "drop")
    (
    setting (codes "field") (word (codes "a"))
    ∷ setting (codes "shape") (word (codes "box"))
    ∷ setting (codes "low") (numbers 3 0 0)
    ∷ setting (codes "high") (numbers 4 1 1)
    ∷ setting (codes "amount") (number 1)
    ∷ []
    )

abbrev pub drop_tree : List Group
drop_tree =
    group (codes "Mesh")
    (
    Set (setting (codes "array") (numbers 1 1 1))
    ∷ Set (setting (codes "block") (number 4))
    ∷ Set (setting (codes "boundary") (values.List (Word (codes "open") ∷ Word (codes "closed") ∷ Word (codes "closed") ∷ [])))
    ∷ []
    )
    ∷ group (codes "Field") (Set (setting (codes "names") (values.List (Word (codes "a") ∷ []))) ∷ [])
    ∷ group (codes "Initial") (drop_sub ∷ [])
    ∷ group (codes "Method")
    (
    Set (setting (codes "velocity") (numbers 1 0 0))
    ∷ Set (setting (codes "den") (number 1))
    ∷ Set (setting (codes "cycles") (number 1))
    ∷ []
    )
    ∷ group (codes "Output") (Set (setting (codes "checkpoint") (number 1)) ∷ [])
    ∷ []

first-none : first_walk drop_tree ≡ []
unfolding first_walk items_faults group_names mesh_keys field_keys method_keys output_keys shape_keys criterion_keys
first-none = refl

second-none : second_walk drop_tree ≡ []
unfolding second_walk mesh_keys field_keys method_keys output_keys shape_keys criterion_keys
second-none = refl

third-none : third_walk (values_of drop_tree) ≡ []
unfolding third_walk values_of
third-none = refl

no-fault : all_faults drop_tree ≡ []
no-fault = rw (first-none, second-none, third-none) refl

pub drop_tree-accepted : parameters_of drop_tree ≡ Ok (values_of drop_tree)
drop_tree-accepted = ap (λ fs. unless_fault fs (values_of drop_tree)) no-fault

pub drop_tree-limits : IsTree drop_tree
drop_tree-limits = search rules

pub drop_tree-text : canonical_text drop_tree ≡ drop_text
unfolding digits drop_text
drop_tree-text = refl

pub drop_tree-total : total_of (values_of drop_tree) 0 ≡ 1
unfolding values_of
drop_tree-total = refl
