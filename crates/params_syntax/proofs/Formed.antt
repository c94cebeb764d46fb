-- A token that can be formed has its form, and what stands after it is shorter.
use Rattle.std.proofs.Common.{◌≡◌, ℕ, zero, suc, ◌-◌, ◌≤◌, ℤ, pos, List, [], ◌∷◌, length, drop, Bool, true, false, cond, eqb, leb, ◌&&◌, Option, Some, None, Ok, Err, Result, refl, ap, ◌∙◌, subst, length-drop, arith}
use Rattle.std.specs.List.{take_while}
use Rattle.std.specs.Str.Parse.{digits_value}
use Rattle.std.proofs.lemmas.List.Sums.{take_while-cons}
use Rattle.std.proofs.lemmas.Bool.{leb-true}
use Rattle.params_syntax.specs.declared.fault.SyntaxKind.{SyntaxKind}
use Rattle.params_syntax.specs.declared.token.Sign.{Sign}
use Rattle.params_syntax.specs.declared.token.Token.{Token}
use Rattle.params_syntax.specs.Limits.{longest_name, greatest}
use Rattle.params_syntax.specs.Tokens.{Found, is_digit, begins_name, is_name_byte, is_word_byte, is_blank, sign_of, begun_at, skipped, after_gap, negative, name_at, digits_at, closed_at, word_at, token_at}
use Rattle.params_syntax.specs.Trees.{Each, IsNumber}
use Rattle.params_syntax.proofs.StepLimits.{IsFormed}

-- what a reading of a token answers
pub record IsGood (most : ℕ) (t : Token) (after : List ℕ) : Type 0 where
  pub formed : IsFormed t
  pub shorter : length after ≤ most

abbrev Good : ℕ → Result Found SyntaxKind → Type 0
Good most (Ok x) = IsGood most x.0 x.1
Good most (Err k) = Unit {0}

-- a reading that is chosen by a test
chosen : (b : Bool) (P : Result Found SyntaxKind → Type 0) (x y : Result Found SyntaxKind) → (b ≡ true → P x) → (b ≡ false → P y) → P (cond b x y)
chosen true P x y p q = p refl
chosen false P x y p q = q refl

both : (a b : Bool) → (a && b) ≡ true → (a ≡ true) × (b ≡ true)
both true b e = (refl, e)
both false b e = absurd cc

Each-take_while : (p : ℕ → Bool) (xs : List ℕ) → Each (λ c. p c ≡ true) (take_while p xs)
Each-take_while p [] = tt
Each-take_while p (x ∷ xs) = rw (take_while-cons p x xs) (by (p x) refl (Each-take_while p xs))
  where
    by : (b : Bool) → p x ≡ b → Each (λ c. p c ≡ true) (take_while p xs) → Each (λ c. p c ≡ true) (cond b (x ∷ take_while p xs) [])
    by true e each = (e, each)
    by false e each = tt

after-shorter : (n : ℕ) (xs : List ℕ) → length (drop n xs) ≤ length xs
after-shorter n xs = omega (arith, length-drop n xs)

name-good : (b : ℕ) (bs : List ℕ) → begins_name b ≡ true → Good (length bs) (name_at (b ∷ bs))
name-good b bs first =
    let is_name : is_name_byte b ≡ true = rw first refl in
    let name : take_while is_name_byte (b ∷ bs) ≡ b ∷ take_while is_name_byte bs = take_while-cons is_name_byte b bs ∙ ap (λ t. cond t (b ∷ take_while is_name_byte bs) []) is_name in
    rw name (chosen (leb (length (b ∷ take_while is_name_byte bs)) longest_name) (Good (length bs)) _ _
    (λ few. record {
      formed = (first, Each-take_while is_name_byte bs, leb-true _ longest_name few);
      shorter = after-shorter (length (take_while is_name_byte bs)) bs;
    })
    (λ many. tt))

IsNumber-negative : (n : ℕ) → n ≤ greatest → IsNumber (negative n)
IsNumber-negative zero h = h
IsNumber-negative (suc n) h = h

-- digits, where there are some
digits-good : (signed : ℕ → ℤ) (bytes : List ℕ) → ((n : ℕ) → n ≤ greatest → IsNumber (signed n))
    → Good (length bytes - 1) (digits_at signed bytes)
digits-good signed bytes is =
    let digits = take_while is_digit bytes in
    chosen (leb 1 (length digits) && leb (digits_value 10 digits) greatest) (Good (length bytes - 1)) _ _
    (λ test.
    let tests = both _ _ test in
    let some : 1 ≤ length digits = leb-true 1 (length digits) tests.0 in
    record {
      formed = is (digits_value 10 digits) (leb-true _ greatest tests.1);
      shorter = omega (arith, length-drop (length digits) bytes, some);
    })
    (λ no. tt)

word-good : (bytes : List ℕ) → Good (length bytes) (word_at bytes)
word-good bytes = closes (take_while is_word_byte bytes) (Each-take_while is_word_byte bytes) (drop (length (take_while is_word_byte bytes)) bytes) (after-shorter (length (take_while is_word_byte bytes)) bytes)
  where
    closes : (word : List ℕ) → Each (λ c. is_word_byte c ≡ true) word → (rest : List ℕ) → length rest ≤ length bytes → Good (length bytes) (closed_at word rest)
    closes word each [] short = tt
    closes word each (b ∷ rest) short =
        chosen (eqb b 34 && leb (length word) longest_name) (Good (length bytes)) _ _
        (λ test. record {
          formed = (each, leb-true _ longest_name (both _ _ test).1);
          shorter = omega arith;
        })
        (λ no. tt)

less : (m n : ℕ) (r : Result Found SyntaxKind) → m ≤ n → Good m r → Good n r
less m n (Ok x) h g = record { formed = g.formed; shorter = omega (arith, g.shorter, h) }
less m n (Err k) h g = tt

token-good : (b : ℕ) (bs : List ℕ) → Good (length bs) (token_at b bs)
token-good b bs = begun (sign_of b)
  where
    begun : (o : Option Sign) → Good (length bs) (begun_at o b bs)
    begun (Some sign) = record { formed = tt; shorter = omega arith }
    begun None =
        chosen (begins_name b) (Good (length bs)) _ _ (λ e. name-good b bs e) (λ not_name.
        chosen (is_digit b) (Good (length bs)) _ _ (λ e. less (length (b ∷ bs) - 1) (length bs) _ (omega arith) (digits-good pos (b ∷ bs) (λ n h. h))) (λ not_digit.
        chosen (eqb b 45) (Good (length bs)) _ _ (λ e. less (length bs - 1) (length bs) _ (omega arith) (digits-good negative bs IsNumber-negative)) (λ not_minus.
        chosen (eqb b 34) (Good (length bs)) _ _ (λ e. word-good bs) (λ nothing. tt))))

pub token_at-good : (b : ℕ) (bs : List ℕ) (t : Token) (after : List ℕ) → token_at b bs ≡ Ok (t, after) → IsGood (length bs) t after
token_at-good b bs t after e = let P : Result Found SyntaxKind → Type 0 = Good (length bs) in subst P e (token-good b bs)

-- ---- blanks and comments

skipped-shorter : (c : Bool) (bytes : List ℕ) → length (skipped c bytes) ≤ length bytes
skipped-shorter c [] = omega arith
skipped-shorter true (b ∷ bs) = by (eqb b 10) (skipped-shorter false bs) (skipped-shorter true bs)
  where
    by : (t : Bool) → length (skipped false bs) ≤ length bs → length (skipped true bs) ≤ length bs
        → length (cond t (skipped false bs) (skipped true bs)) ≤ length (b ∷ bs)
    by true out inside = omega (arith, out)
    by false out inside = omega (arith, inside)
skipped-shorter false (b ∷ bs) = by (is_blank b) (eqb b 35) (skipped-shorter false bs) (skipped-shorter true bs)
  where
    by : (t u : Bool) → length (skipped false bs) ≤ length bs → length (skipped true bs) ≤ length bs
        → length (cond t (skipped false bs) (cond u (skipped true bs) (b ∷ bs))) ≤ length (b ∷ bs)
    by true u out inside = omega (arith, out)
    by false true out inside = omega (arith, inside)
    by false false out inside = omega arith

pub after_gap-shorter : (bytes : List ℕ) → length (after_gap bytes) ≤ length bytes
after_gap-shorter bytes = skipped-shorter false bytes
