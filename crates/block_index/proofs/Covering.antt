-- That a place covers another, as four equations.
use Rattle.std.proofs.Common.{◌≡◌, ◌-◌, ◌/◌, ◌^◌, ◌≤◌, IsTrue, tests, rules}
use Rattle.block_index.specs.Places.{Cube, covers}

-- a is c or contains it
pub record Covers (a c : Cube) : Type 0 where
  pub level : a.level ≤ c.level
  pub x : c.x / 2 ^ (c.level - a.level) ≡ a.x
  pub y : c.y / 2 ^ (c.level - a.level) ≡ a.y
  pub z : c.z / 2 ^ (c.level - a.level) ≡ a.z

pub Covers-from_test : (a c : Cube) → IsTrue (covers a c) → Covers a c
Covers-from_test a c h = search (tests, rules)

pub test-from_Covers : (a c : Cube) → Covers a c → IsTrue (covers a c)
test-from_Covers a c h = search (tests, rules)
