use Rattle.std.proofs.Common.{◌≡◌, ◌+◌, ◌*◌, ℕ, false, ltb}
use Rattle.quiet_table.proofs.Giving.{box_above}

above : (s n slots : ℕ) → slots ≡ 2 * n → ltb (2 * (n + s)) slots ≡ false
above = box_above
