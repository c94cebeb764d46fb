-- The keys of a parameter text: for each group what keys it has, and of each key its name, which kinds of sub have it,
-- what values it takes, and what it is where it is left out.
use Rattle.std.specs.Prelude.{ℕ, pos, List, [], ◌∷◌, Bool, Option, Some, None, codes}
use Rattle.std.specs.List.{list_any}
use Rattle.params_syntax.specs.declared.tree.Atom.TheVariants.{Number, Word}
use Rattle.params_syntax.specs.declared.tree.Value.{Value}
use Rattle.params_syntax.specs.declared.tree.Value.TheVariants as values
use Rattle.params_check.specs.Bounds.{most_trees, finest_level, least_edge, greatest_edge, most_blocks, most_rounds, last_phase, most_cycles, farthest, greatest_amount, fastest, greatest_den}
use Rattle.params_check.specs.Values.{same}

-- What values a key takes.
pub data Wanted : Type 0 where
  -- a number from a least one to a greatest
  NumberFrom : ℕ → ℕ → Wanted
  -- an even number from a least one to a greatest
  EvenFrom : ℕ → ℕ → Wanted
  -- three numbers, each from a least one to a greatest
  TripleFrom : ℕ → ℕ → Wanted
  -- three numbers, each of at most this size, with either sign
  TripleUpTo : ℕ → Wanted
  -- one of these words
  OneOf : List (List ℕ) → Wanted
  -- three of these words
  ThreeOf : List (List ℕ) → Wanted
  -- the names of the fields
  NewNames : Wanted
  -- the name of a field
  FieldName : Wanted
  -- a number from 0 to the greatest amount, and for the kind `slope` to the greatest slope
  Threshold : Wanted

-- A key.
pub record Key : Type 0 where
  pub name : List ℕ
  -- the kinds of sub that have it; where none is named, all have it
  pub kinds : List (List ℕ)
  pub wanted : Wanted
  -- its value where it is left out; without one it is required
  pub default : Option Value

abbrev pub key : List ℕ → List (List ℕ) → Wanted → Option Value → Key
key name kinds wanted default = record { name = name; kinds = kinds; wanted = wanted; default = default }

abbrev pub is_among : List (List ℕ) → List ℕ → Bool
is_among words word = list_any (λ w. same w word) words

-- ---- values that stand for what is left out

abbrev pub number : ℕ → Option Value
number n = Some (values.Atom (Number (pos n)))

abbrev pub word : List ℕ → Option Value
word w = Some (values.Atom (Word w))

abbrev pub three_zeros : Option Value
three_zeros = Some (values.List (Number (pos 0) ∷ Number (pos 0) ∷ Number (pos 0) ∷ []))

abbrev pub three_words : List ℕ → Option Value
three_words w = Some (values.List (Word w ∷ Word w ∷ Word w ∷ []))

abbrev pub no_words : Option Value
no_words = Some (values.List [])

-- ---- the group `Mesh`

abbrev pub mesh_array : Key
mesh_array = key (codes "array") [] (TripleFrom 1 most_trees) None

abbrev pub mesh_block : Key
mesh_block = key (codes "block") [] (EvenFrom least_edge greatest_edge) None

abbrev pub mesh_max_level : Key
mesh_max_level = key (codes "max_level") [] (NumberFrom 0 finest_level) (number 0)

abbrev pub mesh_max_blocks : Key
mesh_max_blocks = key (codes "max_blocks") [] (NumberFrom 1 most_blocks) (number 4096)

abbrev pub mesh_rounds : Key
mesh_rounds = key (codes "initial_rounds") [] (NumberFrom 0 most_rounds) (number 0)

abbrev pub mesh_strict : Key
mesh_strict = key (codes "strict") [] (OneOf (codes "yes" ∷ codes "no" ∷ [])) (word (codes "no"))

abbrev pub mesh_boundary : Key
mesh_boundary = key (codes "boundary") [] (ThreeOf (codes "periodic" ∷ codes "open" ∷ codes "closed" ∷ [])) (three_words (codes "periodic"))

unfoldable pub mesh_keys : List Key
mesh_keys = mesh_array ∷ mesh_block ∷ mesh_max_level ∷ mesh_max_blocks ∷ mesh_rounds ∷ mesh_strict ∷ mesh_boundary ∷ []

-- ---- the group `Field`

abbrev pub field_names : Key
field_names = key (codes "names") [] NewNames no_words

unfoldable pub field_keys : List Key
field_keys = field_names ∷ []

-- ---- the group `Method`

abbrev pub method_velocity : Key
method_velocity = key (codes "velocity") [] (TripleUpTo fastest) three_zeros

abbrev pub method_den : Key
method_den = key (codes "den") [] (NumberFrom 1 greatest_den) (number 1)

abbrev pub method_cycles : Key
method_cycles = key (codes "cycles") [] (NumberFrom 0 most_cycles) (number 0)

unfoldable pub method_keys : List Key
method_keys = method_velocity ∷ method_den ∷ method_cycles ∷ []

-- ---- the group `Output`

abbrev pub output_mesh : Key
output_mesh = key (codes "mesh") [] (NumberFrom 0 most_cycles) (number 0)

abbrev pub output_fields : Key
output_fields = key (codes "fields") [] (NumberFrom 0 most_cycles) (number 0)

abbrev pub output_checkpoint : Key
output_checkpoint = key (codes "checkpoint") [] (NumberFrom 0 most_cycles) (number 0)

unfoldable pub output_keys : List Key
output_keys = output_mesh ∷ output_fields ∷ output_checkpoint ∷ []

-- ---- the subs of the group `Initial`

abbrev pub box_kind : List (List ℕ)
box_kind = codes "box" ∷ []

abbrev pub ball_kind : List (List ℕ)
ball_kind = codes "ball" ∷ []

abbrev pub shape_kind : Key
shape_kind = key (codes "shape") [] (OneOf (codes "box" ∷ codes "ball" ∷ [])) None

abbrev pub shape_field : Key
shape_field = key (codes "field") [] FieldName None

abbrev pub shape_low : Key
shape_low = key (codes "low") box_kind (TripleFrom 0 farthest) None

abbrev pub shape_high : Key
shape_high = key (codes "high") box_kind (TripleFrom 0 farthest) None

abbrev pub shape_center : Key
shape_center = key (codes "center") ball_kind (TripleFrom 0 farthest) None

abbrev pub shape_radius : Key
shape_radius = key (codes "radius") ball_kind (NumberFrom 0 farthest) None

abbrev pub shape_amount : Key
shape_amount = key (codes "amount") [] (NumberFrom 0 greatest_amount) None

-- the keys of a shape; the first gives its kind
unfoldable pub shape_keys : List Key
shape_keys = shape_kind ∷ shape_field ∷ shape_low ∷ shape_high ∷ shape_center ∷ shape_radius ∷ shape_amount ∷ []

-- ---- the subs of the group `Adapt`

abbrev pub sampling_kinds : List (List ℕ)
sampling_kinds = codes "mass" ∷ codes "slope" ∷ codes "contrast" ∷ []

abbrev pub criterion_kind : Key
criterion_kind = key (codes "type") [] (OneOf (codes "box" ∷ codes "mass" ∷ codes "slope" ∷ codes "contrast" ∷ [])) None

abbrev pub criterion_until : Key
criterion_until = key (codes "until") [] (NumberFrom 1 last_phase) (number last_phase)

abbrev pub criterion_field : Key
criterion_field = key (codes "field") sampling_kinds FieldName None

abbrev pub criterion_low : Key
criterion_low = key (codes "low") box_kind (TripleFrom 0 farthest) None

abbrev pub criterion_high : Key
criterion_high = key (codes "high") box_kind (TripleFrom 0 farthest) None

abbrev pub criterion_level : Key
criterion_level = key (codes "level") box_kind (NumberFrom 0 finest_level) None

abbrev pub criterion_refine : Key
criterion_refine = key (codes "refine") sampling_kinds Threshold None

abbrev pub criterion_coarsen : Key
criterion_coarsen = key (codes "coarsen") sampling_kinds Threshold None

-- the keys of a criterion; the first gives its kind
unfoldable pub criterion_keys : List Key
criterion_keys =
    criterion_kind ∷ criterion_until ∷ criterion_field ∷ criterion_low ∷ criterion_high ∷ criterion_level ∷ criterion_refine ∷ criterion_coarsen ∷ []
