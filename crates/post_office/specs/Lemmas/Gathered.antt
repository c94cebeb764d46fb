-- The cells of all shards, put back into their first order from the last on.
use Rattle.std.specs.Prelude.{◌≡◌, ℕ, ◌+◌, List, ◌++◌, length, reverse, Some, slice_get}
use Rattle.post_office.specs.Shares.{of_shard}

module _ {C : Type 0} where
  -- row k has those of these cells that shard k owns
  abbrev pub Rows : List ℕ → List C → List (List C) → Type 0
  Rows owners cells rows = (k : ℕ) (row : List C) → slice_get rows k ≡ Some row → row ≡ of_shard owners k cells

  -- so many of the cells were taken out, last first; the rows have the ones in front of them
  pub record Left (owners : List ℕ) (cells : List C) (rows : List (List C)) (taken : ℕ) (out : List C) : Type 0 where
    pub front : List C
    pub parts : cells ≡ front ++ reverse out
    pub count : length front + taken ≡ length owners
    pub rows_left : Rows owners front rows
