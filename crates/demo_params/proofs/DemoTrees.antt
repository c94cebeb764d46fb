-- The tree that a text of the demonstration spells, by its size and its drawn numbers.
use Rattle.std.proofs.Common.{ℕ, pos, List, [], ◌∷◌, codes}
use Rattle.params_syntax.specs.declared.tree.Atom.TheVariants.{Number, Word}
use Rattle.params_syntax.specs.declared.tree.Value.{Value}
use Rattle.params_syntax.specs.declared.tree.Value.TheVariants as values
use Rattle.params_syntax.specs.declared.tree.Setting.{Setting}
use Rattle.params_syntax.specs.declared.tree.Item.{Item}
use Rattle.params_syntax.specs.declared.tree.Item.TheVariants.{Set, Sub}
use Rattle.params_syntax.specs.declared.tree.Group.{Group}

abbrev pub setting : List ℕ → Value → Setting
setting name value = record { name = name; value = value }

abbrev pub group : List ℕ → List Item → Group
group name items = record { name = name; items = items }

abbrev pub number : ℕ → Value
number n = values.Atom (Number (pos n))

abbrev pub word : List ℕ → Value
word w = values.Atom (Word w)

abbrev pub numbers : ℕ → ℕ → ℕ → Value
numbers x y z = values.List (Number (pos x) ∷ Number (pos y) ∷ Number (pos z) ∷ [])

abbrev pub mesh_of : ℕ → Group
mesh_of size =
    group (codes "Mesh")
    (
    Set (setting (codes "array") (numbers size size size))
    ∷ Set (setting (codes "block") (number 8))
    ∷ Set (setting (codes "max_level") (number 2))
    ∷ Set (setting (codes "max_blocks") (number 8192))
    ∷ Set (setting (codes "initial_rounds") (number 2))
    ∷ Set (setting (codes "boundary") (values.List (Word (codes "periodic") ∷ Word (codes "periodic") ∷ Word (codes "periodic") ∷ [])))
    ∷ []
    )

abbrev pub fields_group : Group
fields_group = group (codes "Field") (Set (setting (codes "names") (values.List (Word (codes "a") ∷ []))) ∷ [])

-- the ball by its center, its radius and its amount
abbrev pub ball_of : ℕ → ℕ → ℕ → ℕ → ℕ → Group
ball_of x y z radius amount =
    group (codes "Initial")
    (
    Sub (codes "ball")
    (
    setting (codes "shape") (word (codes "ball"))
    ∷ setting (codes "field") (word (codes "a"))
    ∷ setting (codes "center") (numbers x y z)
    ∷ setting (codes "radius") (number radius)
    ∷ setting (codes "amount") (number amount)
    ∷ []
    )
    ∷ []
    )

abbrev pub heavy_group : Group
heavy_group =
    group (codes "Adapt")
    (
    Sub (codes "heavy")
    (
    setting (codes "type") (word (codes "mass"))
    ∷ setting (codes "field") (word (codes "a"))
    ∷ setting (codes "refine") (number 40)
    ∷ setting (codes "coarsen") (number 4)
    ∷ []
    )
    ∷ []
    )

-- the flow by its velocity and its cycles
abbrev pub flow_of : ℕ → ℕ → ℕ → ℕ → Group
flow_of u v w cycles =
    group (codes "Method")
    (
    Set (setting (codes "velocity") (numbers u v w))
    ∷ Set (setting (codes "den") (number 128))
    ∷ Set (setting (codes "cycles") (number cycles))
    ∷ []
    )
