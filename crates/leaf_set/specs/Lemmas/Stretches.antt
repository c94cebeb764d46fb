-- The line of places of the deepest level in order, on which a place takes a stretch: those that it covers.
use Rattle.std.specs.Prelude.{ℕ, ◌+◌, ◌-◌, ◌/◌, ◌^◌, ◌≤◌}
use Rattle.block_index.specs.Places.{Cube, Grid, IsInside, deepest}
use Rattle.block_index.specs.Order.{rank, level_count}

-- where the stretch of a place begins: at each spot of the line there is a rank for each level
abbrev pub beginning : Cube → ℕ
beginning c = rank c / level_count

-- where the stretch ends and the next may begin
abbrev pub ending : Cube → ℕ
ending c = beginning c + 8 ^ (deepest - c.level)

-- of the places of the domain that begin at a spot or after it, c begins first
pub record IsFirstFrom (grid : Grid) (at : ℕ) (c : Cube) : Type 0 where
  pub inside : IsInside grid c
  pub from : at ≤ beginning c
  pub first : (q : Cube) → IsInside grid q → at ≤ beginning q → beginning c ≤ beginning q

-- no place of the domain begins there or after
abbrev pub AreNoneFrom : Grid → ℕ → Type 0
AreNoneFrom grid at = (q : Cube) → IsInside grid q → at ≤ beginning q → ⊥
