-- The flux of an amount through a face.
use Rattle.std.specs.Prelude.{ℕ, ◌*◌, ◌/◌, ◌^◌}

-- What a speed of `speed / den` root cells a cycle takes of an amount through a face of a level, rounded down. A cell
-- of the level is 2 ^ level times narrower than a root cell.
abbrev pub flux : ℕ → ℕ → ℕ → ℕ → ℕ
flux q speed den level = q * speed * 2 ^ level / den
