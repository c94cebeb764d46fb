use Rattle.std.proofs.Common.{◌≡◌, ◌<◌, ◌*◌, ℕ, arith, true, ltb}
use Rattle.std.proofs.lemmas.Bool.{lt-ltb}

two_below : (s n slots : ℕ) → s < n → slots ≡ 2 * n → ltb (2 * s) slots ≡ true
two_below s n slots h e = lt-ltb (2 * s) slots (omega arith)
