-- Runs with room for as many leaves as there can be.
use Rattle.std.specs.Prelude.{◌*◌, ◌^◌, ◌≤◌}
use Rattle.params_check.specs.Parameters.{Parameters, trees}

-- there may be as many blocks as the domain has places of the finest level
abbrev pub HasRoom : Parameters → Type 0
HasRoom p = trees p * 8 ^ p.grid.finest ≤ p.max_blocks
