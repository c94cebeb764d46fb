-- A list of leaves to which others are added.
use Rattle.std.specs.Prelude.{◌≡◌, ℕ, ◌+◌, ◌≤◌, ◌⊎◌, ◌↔◌, List, length, Contains}
use Rattle.std.specs.List.Sorted.{IsStrictlyIncreasing}

-- ks are js and those of `names` that aren't b, ascending where js are
pub record IsAdded (b : ℕ) (names js ks : List ℕ) : Type 0 where
  pub ascending : IsStrictlyIncreasing js → IsStrictlyIncreasing ks
  pub members : (j : ℕ) → Contains ks j ↔ ((Contains names j × (j ≡ b → ⊥)) ⊎ Contains js j)
  pub few : length ks ≤ length js + length names
