-- How the text of one token is read, whatever stands after it that doesn't lengthen it.
use Rattle.std.proofs.Common.{◌≡◌, ℕ, ◌^◌, ◌<◌, ◌≤◌, Bool, true, false, nat_le, List, [], ◌∷◌, ◌++◌, length, Ok, refl, ap, ◌∙◌, arith}
use Rattle.std.specs.Prelude.{ℤ, pos, decimal, IsTrue}
use Rattle.std.specs.List.{take_while}
use Rattle.std.specs.Str.Parse.{digits_value}
use Rattle.std.proofs.lemmas.Bool.{or_left, or_right, cond-true, cond-false, le-leb, and_parts, and_from, leb-true}
use Rattle.std.proofs.lemmas.List.{drop_at}
use Rattle.std.proofs.lemmas.List.Sums.{take_while-cons}
use Rattle.std.proofs.lemmas.Str.Parse.{IsNumeralModel, numerals_by_value}
use Rattle.std.proofs.lemmas.Fmt.{digits_decimal, digits_value-decimal, decimal_nonempty}
use Rattle.params_syntax.specs.declared.tree.Atom.TheVariants.{Number, Word}
use Rattle.params_syntax.specs.declared.token.Token.TheVariants as tokens
use Rattle.params_syntax.specs.Limits.{longest_name, greatest}
use Rattle.params_syntax.specs.Tokens.{is_digit, begins_name, is_name_byte, is_word_byte, name_at, digits_at, word_at, token_at}
use Rattle.params_syntax.specs.Trees.{Each}
use Rattle.params_syntax.proofs.Bytes.{is_name_byte-sign_of, is_digit-begins_name}

-- all bytes up to the first without the property
pub take_while-stops : (test : ℕ → Bool) (xs : List ℕ) (y : ℕ) (ys : List ℕ) → Each (λ c. IsTrue (test c)) xs → test y ≡ false
    → take_while test (xs ++ y ∷ ys) ≡ xs
take_while-stops test [] y ys all stops = take_while-cons test y ys ∙ cond-false (test y) _ [] stops
take_while-stops test (x ∷ xs) y ys all stops =
    take_while-cons test x (xs ++ y ∷ ys)
    ∙ (cond-true (test x) _ [] all.0 ∙ ap (λ (l : List ℕ). x ∷ l) (take_while-stops test xs y ys all.1 stops))

pub name_at-again : (name : List ℕ) (y : ℕ) (ys : List ℕ) → Each (λ c. IsTrue (is_name_byte c)) name → length name ≤ longest_name
    → is_name_byte y ≡ false → name_at (name ++ y ∷ ys) ≡ Ok (tokens.Name name, y ∷ ys)
name_at-again name y ys all short stops =
    rw (take_while-stops is_name_byte name y ys all stops, drop_at name (y ∷ ys) (length name) refl, le-leb (length name) longest_name short) refl

pub word_at-again : (word rest : List ℕ) → Each (λ c. IsTrue (is_word_byte c)) word → length word ≤ longest_name
    → word_at (word ++ 34 ∷ rest) ≡ Ok (tokens.Atom (Word word), rest)
word_at-again word rest all short =
    rw (take_while-stops is_word_byte word 34 rest all refl, drop_at word (34 ∷ rest) (length word) refl, le-leb (length word) longest_name short) refl

pub token_at-name : (b : ℕ) (bs : List ℕ) → begins_name b ≡ true → token_at b bs ≡ name_at (b ∷ bs)
token_at-name b bs is = rw (is_name_byte-sign_of b (or_left (begins_name b) (is_digit b) is), is) refl

pub token_at-digit : (b : ℕ) (bs : List ℕ) → is_digit b ≡ true → token_at b bs ≡ digits_at pos (b ∷ bs)
token_at-digit b bs is = rw (is_name_byte-sign_of b (or_right (begins_name b) (is_digit b) is), is_digit-begins_name b is, is) refl

abbrev pub AllDecimal : List ℕ → Type 0
AllDecimal ds = Each (λ c. IsTrue (is_digit c)) ds

-- the bytes of a number without its sign, by std's words
decimal_bytes : IsNumeralModel AllDecimal (digits_value 10)
decimal_bytes = numerals_by_value AllDecimal (record {
  empty = tt;
  parts = λ c cs all. let both = and_parts (nat_le 48 c) (nat_le c 57) all.0 in ((leb-true 48 c both.0, leb-true c 57 both.1), all.1);
  more = λ c cs here all. (and_from (nat_le 48 c) (nat_le c 57) (le-leb 48 c here.0) (le-leb c 57 here.1), all);
})

pub decimal-all : (n : ℕ) → n ≤ greatest → AllDecimal (decimal n)
decimal-all n small = digits_decimal decimal_bytes n (omega arith)

pub digits_at-again : (signed : ℕ → ℤ) (n y : ℕ) (ys : List ℕ) → n ≤ greatest → is_digit y ≡ false
    → digits_at signed (decimal n ++ y ∷ ys) ≡ Ok (tokens.Atom (Number (signed n)), y ∷ ys)
digits_at-again signed n y ys small stops =
    let fits : n < 2 ^ 64 = omega arith in
    rw (
      take_while-stops is_digit (decimal n) y ys (decimal-all n small) stops,
      drop_at (decimal n) (y ∷ ys) (length (decimal n)) refl,
      digits_value-decimal decimal_bytes n fits,
      le-leb 1 (length (decimal n)) (decimal_nonempty n fits),
      le-leb n greatest small,
    ) refl
