-- The value of digits, one after another.
use Rattle.std.proofs.Common.{◌≡◌, ℕ, ◌+◌, ◌-◌, ◌*◌, ◌<◌, ◌≤◌, List, length, true, get_or, take, length-take, sym, ap, ◌∙◌, subst, arith}
use Rattle.std.specs.Char.{digit_value}
use Rattle.std.specs.Str.Parse.{digits_value}
use Rattle.std.proofs.lemmas.Str.{digit_value_digit}
use Rattle.std.proofs.lemmas.Str.Parse.{digits_value-take-le}
use Rattle.std.proofs.lemmas.Int.Digits.{digits_value_more}
use Rattle.std.proofs.lemmas.Bool.Decides.{nat_tests}
use Rattle.std.proofs.lemmas.List.Sums.{prefix_len_passes}
use Rattle.std.proofs.lemmas.List.{get_or-take}
use Rattle.std.specs.List.{prefix_len}
use Rattle.params_syntax.specs.Limits.{greatest}
use Rattle.params_syntax.specs.Tokens.{is_digit}

digit_range : (b : ℕ) → is_digit b ≡ true → (48 ≤ b) × (b ≤ 57)
digit_range b e = (grind (arith, nat_tests), grind (arith, nat_tests))

digit_is : (b : ℕ) → is_digit b ≡ true → digit_value b ≡ b - 48
digit_is b e = let range = digit_range b e in omega (arith, digit_value_digit b range)

abbrev pub AreDigits : List ℕ → Type 0
AreDigits ds = (k : ℕ) → k < length ds → is_digit (get_or ds k 0) ≡ true

-- one digit more
pub digits_value-next : (ds : List ℕ) (i v d : ℕ) → i < length ds → AreDigits ds → v ≡ digits_value 10 (take i ds) → d ≡ get_or ds i 0 - 48
    → v * 10 + d ≡ digits_value 10 (take (i + 1) ds)
digits_value-next ds i v d inside are e f =
    let more = digits_value_more 10 ds i inside in
    let digit = digit_is (get_or ds i 0) (are i inside) in
    omega (arith, more, digit, e, f)

-- digits whose front is out of range are out of range
pub digits_value-high : (ds : List ℕ) (i v : ℕ) → v ≡ digits_value 10 (take i ds) → greatest < v → greatest < digits_value 10 ds
digits_value-high ds i v e high = omega (arith, digits_value-take-le 10 ds i (omega arith), e, high)

-- the longest front of digits has digits alone
pub AreDigits-front : (bytes digits : List ℕ) (n : ℕ) → n ≡ prefix_len is_digit bytes → digits ≡ take n bytes → AreDigits digits
AreDigits-front bytes digits n e front = let P : List ℕ → Type 0 = AreDigits in subst P (sym front) at_front
  where
    at_front : AreDigits (take n bytes)
    at_front k inside =
        let low : k < n = omega (arith, inside, length-take n bytes) in
        ap is_digit (get_or-take n bytes k 0 low) ∙ prefix_len_passes is_digit bytes k 0 (omega (arith, e, low))
