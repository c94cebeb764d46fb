-- Numbers by their last four digits.
use Rattle.std.proofs.Common.{◌≡◌, ℕ, ◌≤◌, ◌/◌, List, arith}
use Rattle.run_report.specs.FileNames.{last_digit}

pub four_digits-one : (a b : ℕ) → a ≤ 9999 → b ≤ 9999 → last_digit (a / 1000) ≡ last_digit (b / 1000) → last_digit (a / 100) ≡ last_digit (b / 100)
    → last_digit (a / 10) ≡ last_digit (b / 10) → last_digit a ≡ last_digit b → a ≡ b
four_digits-one a b few_a few_b thousands hundreds tens ones = omega (arith, few_a, few_b, thousands, hundreds, tens, ones)
