-- What a share of an amount is.
use Rattle.std.specs.Prelude.{ℕ, ◌*◌, ◌/◌}
use Rattle.advect.specs.declared.share.Share.{Share}

abbrev pub carried : Share → ℕ → ℕ
carried s q = q * s.parts / s.den
