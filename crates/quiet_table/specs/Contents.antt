-- What values and slots contain: envelopes, and all the rest. Both are plain data.
use Rattle.std.specs.Prelude.{Bool, true, false, List, [], ◌∷◌, ◌++◌, map, Option, Some, None}
use Rattle.quiet_table.specs.declared.item.Item.{Item}
use Rattle.quiet_table.specs.declared.item.Item.TheVariants.{Cell, Inbox}

-- what a value contains: the envelopes, and all but them
pub record Contents (R E : Type 0) : Type 0 where
  pub rest : R
  pub parcels : List E

module _ {C B R E : Type 0} (cell_rest : C → R) (cell_parcels : C → List E) (box_rest : B → R) (box_parcels : B → List E) where
  -- the contents of what lies in a slot
  abbrev pub contents_of : Item C B → Contents R E
  contents_of (Cell x) = record { rest = cell_rest x; parcels = cell_parcels x }
  contents_of (Inbox x) = record { rest = box_rest x; parcels = box_parcels x }

abbrev pub is_cell : {C B : Type 0} → Item C B → Bool
is_cell (Cell x) = true
is_cell (Inbox x) = false

module _ {R E : Type 0} where
  abbrev pub rest_of : Contents R E → R
  rest_of c = c.rest

  abbrev pub parcels_of : Contents R E → List E
  parcels_of c = c.parcels

-- all envelopes, one slot after another
abbrev pub pool : {E : Type 0} → List (List E) → List E
pool [] = []
pool (es ∷ ess) = es ++ pool ess

module _ {I R E : Type 0} (contents : I → Contents R E) where
  -- the contents of the slots that have a value, in order
  abbrev pub opening_contents : List (Option I) → List (Contents R E)
  opening_contents [] = []
  opening_contents (None ∷ xs) = opening_contents xs
  opening_contents (Some i ∷ xs) = contents i ∷ opening_contents xs

-- the origin of the contents that slots had at first
abbrev pub origin_of : {I R E O : Type 0} → (I → Contents R E) → (List R → O) → List (Option I) → O
origin_of contents origin slots = origin (map (λ c. c.rest) (opening_contents contents slots))
