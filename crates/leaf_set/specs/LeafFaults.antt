-- What is wrong with a list of places that is no balanced mesh of a domain: the first of five faults.
use Rattle.std.specs.Prelude.{◌≡◌, ℕ, ◌+◌, ◌-◌, ◌<◌, ◌≤◌, ◌⊎◌, true, List, Some, slice_get}
use Rattle.block_index.specs.Places.{Cube, Grid, IsInside, covers}
use Rattle.block_index.specs.Order.{IsBefore}
use Rattle.block_index.specs.Touching.{Touches}
use Rattle.leaf_set.specs.Meshes.{cover_count}
use Rattle.leaf_set.specs.declared.leaf_fault.LeafFault.{LeafFault}
use Rattle.leaf_set.specs.declared.leaf_fault.LeafFault.TheVariants.{Order, Outside, Overlap, Hole, Jump, Memory}

-- the place at `at` doesn't stand after the one before it
pub record BreaksOrder (places : List Cube) (at : ℕ) : Type 0 where
  pub before : Cube
  pub place : Cube
  pub later : 1 ≤ at
  pub is_before : slice_get places (at - 1) ≡ Some before
  pub is_place : slice_get places at ≡ Some place
  pub unordered : IsBefore before place → ⊥

-- the place at `at` isn't inside the domain
pub record LiesOutside (grid : Grid) (places : List Cube) (at : ℕ) : Type 0 where
  pub place : Cube
  pub is_place : slice_get places at ≡ Some place
  pub outside : IsInside grid place → ⊥

-- of the places at a and at b, which is later, one contains the other
pub record Overlaps (places : List Cube) (a b : ℕ) : Type 0 where
  pub first : Cube
  pub second : Cube
  pub later : a < b
  pub is_first : slice_get places a ≡ Some first
  pub is_second : slice_get places b ≡ Some second
  pub contains : (covers first second ≡ true) ⊎ (covers second first ≡ true)

-- a finest place of the domain that none of the places covers
pub record IsBare (grid : Grid) (places : List Cube) (c : Cube) : Type 0 where
  pub inside : IsInside grid c
  pub finest : c.level ≡ grid.finest
  pub bare : cover_count places c ≡ 0

-- the places at a and at b, which is later, touch, and their levels are more than one apart
pub record Jumps (grid : Grid) (places : List Cube) (a b : ℕ) : Type 0 where
  pub first : Cube
  pub second : Cube
  pub later : a < b
  pub is_first : slice_get places a ≡ Some first
  pub is_second : slice_get places b ≡ Some second
  pub touch : Touches grid first second
  pub apart : (first.level + 1 < second.level) ⊎ (second.level + 1 < first.level)

-- the least number with a property
pub record IsFirst (P : ℕ → Type 0) (at : ℕ) : Type 0 where
  pub here : P at
  pub none_before : (i : ℕ) → i < at → P i → ⊥

-- the first pair with a property, by its first number and then its second
pub record IsFirstPair (P : ℕ → ℕ → Type 0) (a b : ℕ) : Type 0 where
  pub here : P a b
  pub none_of_lesser : (i j : ℕ) → i < a → P i j → ⊥
  pub none_before : (j : ℕ) → j < b → P a j → ⊥

-- the first bare place in the order of places
pub record IsFirstBare (grid : Grid) (places : List Cube) (c : Cube) : Type 0 where
  pub here : IsBare grid places c
  pub none_before : (q : Cube) → IsBefore q c → IsBare grid places q → ⊥

abbrev pub StandInOrder : List Cube → Type 0
StandInOrder places = (at : ℕ) → BreaksOrder places at → ⊥

abbrev pub LieInside : Grid → List Cube → Type 0
LieInside grid places = (at : ℕ) → LiesOutside grid places at → ⊥

abbrev pub LieApart : List Cube → Type 0
LieApart places = (a b : ℕ) → Overlaps places a b → ⊥

abbrev pub CoverAll : Grid → List Cube → Type 0
CoverAll grid places = (c : Cube) → IsBare grid places c → ⊥

-- The fault of a list of places: the first of the five, in this order, that the list has, at its first place. Want
-- of memory may stand in its stead.
abbrev pub IsLeafFault : Grid → List Cube → LeafFault → Type 0
IsLeafFault grid places (Order at) = IsFirst (BreaksOrder places) at
IsLeafFault grid places (Outside at) = StandInOrder places × IsFirst (LiesOutside grid places) at
IsLeafFault grid places (Overlap a b) = StandInOrder places × LieInside grid places × IsFirstPair (Overlaps places) a b
IsLeafFault grid places (Hole at) = StandInOrder places × LieInside grid places × LieApart places × IsFirstBare grid places at
IsLeafFault grid places (Jump a b) =
    StandInOrder places × LieInside grid places × LieApart places × CoverAll grid places × IsFirstPair (Jumps grid places) a b
IsLeafFault grid places Memory = Unit {0}
