-- The kinds of bytes: no letter, digit or `_` is a sign, a blank or the start of a comment.
use Rattle.std.proofs.Common.{◌≡◌, ℕ, ◌≤◌, Bool, true, false, ◌==◌, nat_le, List, ◌∷◌, None, refl, subst, arith}
use Rattle.std.proofs.lemmas.Bool.{both_ways, ne_eqb, and_parts, leb-true, lt-leb}
use Rattle.params_syntax.specs.Tokens.{is_digit, begins_name, is_name_byte, sign_of, after_gap}

-- a byte with a property isn't a byte without it
apart : (test : ℕ → Bool) (b k : ℕ) → test b ≡ true → test k ≡ false → (b == k) ≡ false
apart test b k is not_there =
    ne_eqb b k (λ same. both_ways (test k) not_there (subst (λ n. test n ≡ true) same is))

pub is_name_byte-sign_of : (b : ℕ) → is_name_byte b ≡ true → sign_of b ≡ None
is_name_byte-sign_of b is =
    let not_at = λ (k : ℕ) (e : is_name_byte k ≡ false). apart is_name_byte b k is e in
    rw (not_at 123 refl, not_at 125 refl, not_at 61 refl, not_at 59 refl, not_at 91 refl, not_at 93 refl, not_at 44 refl) refl

pub is_digit-begins_name : (b : ℕ) → is_digit b ≡ true → begins_name b ≡ false
is_digit-begins_name b is =
    let low : b ≤ 57 = leb-true b 57 (and_parts (nat_le 48 b) (nat_le b 57) is).1 in
    rw (lt-leb 65 b (omega arith), lt-leb 97 b (omega arith), apart is_digit b 95 is refl) refl

pub is_name_byte-after_gap : (b : ℕ) (bs : List ℕ) → is_name_byte b ≡ true → after_gap (b ∷ bs) ≡ b ∷ bs
is_name_byte-after_gap b bs is =
    let not_at = λ (k : ℕ) (e : is_name_byte k ≡ false). apart is_name_byte b k is e in
    rw (not_at 32 refl, not_at 9 refl, not_at 10 refl, not_at 13 refl, not_at 35 refl) refl
