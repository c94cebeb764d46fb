-- The tokens of a text up to its end, built from the back: a token's text in front of it gives one token more.
use Rattle.std.proofs.Common.{◌≡◌, ℕ, ◌<◌, suc, false, List, [], ◌∷◌, ◌++◌, length, Ok, refl, ap, ◌∙◌, append_assoc, arith}
use Rattle.std.specs.Prelude.{ℤ, pos, negsuc, decimal}
use Rattle.std.specs.Fmt.{signed_decimal}
use Rattle.std.specs.List.{flat_map}
use Rattle.std.proofs.lemmas.Bool.{or_left, or_right}
use Rattle.std.proofs.lemmas.Fmt.{decimal_nonempty}
use Rattle.params_syntax.specs.declared.tree.Atom.{Atom}
use Rattle.params_syntax.specs.declared.tree.Atom.TheVariants.{Number, Word}
use Rattle.params_syntax.specs.declared.token.Token.{Token}
use Rattle.params_syntax.specs.declared.token.Token.TheVariants as tokens
use Rattle.params_syntax.specs.Tokens.{is_digit, begins_name, is_name_byte, negative, after_gap, digits_at, token_at, FrontTokens}
use Rattle.params_syntax.specs.Trees.{Each, IsName, IsWord, IsNumber, IsAtom}
use Rattle.params_syntax.specs.Canonical.{atom_text}
use Rattle.params_syntax.proofs.Bytes.{is_name_byte-after_gap}
use Rattle.params_syntax.proofs.TokenTexts.{name_at-again, word_at-again, digits_at-again, token_at-name, token_at-digit, AllDecimal, decimal-all}

-- These are all tokens of the text.
pub record HasTokens (text : List ℕ) (ts : List Token) : Type 0 where
  pub rest : List ℕ
  pub tokens : FrontTokens text ts rest
  pub ended : after_gap rest ≡ []

-- blanks and comments in front change nothing
pub HasTokens-gap : (text gap_text : List ℕ) (ts : List Token) → after_gap gap_text ≡ after_gap text → HasTokens text ts → HasTokens gap_text ts
HasTokens-gap text gap_text [] same has = record {
  rest = gap_text;
  tokens = refl;
  ended = same ∙ (ap after_gap has.tokens ∙ has.ended);
}
HasTokens-gap text gap_text (t ∷ ts) same has =
    let first = has.tokens.1 in
    record { rest = has.rest; tokens = (has.tokens.0, (first.0, first.1, same ∙ first.2, first.3), has.tokens.2); ended = has.ended }

pub HasTokens-next : (text : List ℕ) (t : Token) (b : ℕ) (bs rest : List ℕ) (ts : List Token) → after_gap text ≡ b ∷ bs
    → token_at b bs ≡ Ok (t, rest) → HasTokens rest ts → HasTokens text (t ∷ ts)
HasTokens-next text t b bs rest ts gap formed has =
    record { rest = has.rest; tokens = (rest, (b, bs, gap, formed), has.tokens); ended = has.ended }

pub HasTokens-name : (name : List ℕ) (y : ℕ) (text : List ℕ) (ts : List Token) → IsName name → is_name_byte y ≡ false
    → HasTokens (y ∷ text) ts → HasTokens (name ++ y ∷ text) (tokens.Name name ∷ ts)
HasTokens-name [] y text ts is stops has = absurd is
HasTokens-name (b ∷ bs) y text ts is stops has =
    let first = or_left (begins_name b) (is_digit b) is.0 in
    HasTokens-next ((b ∷ bs) ++ y ∷ text) (tokens.Name (b ∷ bs)) b (bs ++ y ∷ text) (y ∷ text) ts
    (is_name_byte-after_gap b (bs ++ y ∷ text) first)
    (token_at-name b (bs ++ y ∷ text) is.0 ∙ name_at-again (b ∷ bs) y text (first, is.1) is.2 stops) has

HasTokens-word : (word text : List ℕ) (ts : List Token) → IsWord word → HasTokens text ts
    → HasTokens (34 ∷ (word ++ 34 ∷ text)) (tokens.Atom (Word word) ∷ ts)
HasTokens-word word text ts is has =
    HasTokens-next (34 ∷ (word ++ 34 ∷ text)) (tokens.Atom (Word word)) 34 (word ++ 34 ∷ text) text ts refl (word_at-again word text is.0 is.1) has

HasTokens-digits : (ds : List ℕ) (z : ℤ) (y : ℕ) (text : List ℕ) (ts : List Token) → AllDecimal ds → 0 < length ds
    → digits_at pos (ds ++ y ∷ text) ≡ Ok (tokens.Atom (Number z), y ∷ text) → HasTokens (y ∷ text) ts → HasTokens (ds ++ y ∷ text) (tokens.Atom (Number z) ∷ ts)
HasTokens-digits [] z y text ts all some formed has = absurd (omega arith)
HasTokens-digits (d ∷ ds) z y text ts all some formed has =
    HasTokens-next ((d ∷ ds) ++ y ∷ text) (tokens.Atom (Number z)) d (ds ++ y ∷ text) (y ∷ text) ts
    (is_name_byte-after_gap d (ds ++ y ∷ text) (or_right (begins_name d) (is_digit d) all.0)) (token_at-digit d (ds ++ y ∷ text) all.0 ∙ formed) has

HasTokens-number : (z : ℤ) (y : ℕ) (text : List ℕ) (ts : List Token) → IsNumber z → is_digit y ≡ false
    → HasTokens (y ∷ text) ts → HasTokens (signed_decimal z ++ y ∷ text) (tokens.Atom (Number z) ∷ ts)
HasTokens-number (pos n) y text ts is stops has =
    HasTokens-digits (decimal n) (pos n) y text ts (decimal-all n is) (decimal_nonempty n (omega arith)) (digits_at-again pos n y text is stops) has
HasTokens-number (negsuc n) y text ts is stops has =
    HasTokens-next (45 ∷ (decimal (suc n) ++ y ∷ text)) (tokens.Atom (Number (negsuc n))) 45 (decimal (suc n) ++ y ∷ text) (y ∷ text) ts refl
    (digits_at-again negative (suc n) y text is stops) has

pub HasTokens-atom : (a : Atom) (y : ℕ) (text : List ℕ) (ts : List Token) → IsAtom a → is_digit y ≡ false
    → HasTokens (y ∷ text) ts → HasTokens (atom_text a ++ y ∷ text) (tokens.Atom a ∷ ts)
HasTokens-atom (Number z) y text ts is stops has = HasTokens-number z y text ts is stops has
HasTokens-atom (Word word) y text ts is stops has =
    rw (append_assoc word (34 ∷ []) (y ∷ text)) (HasTokens-word word (y ∷ text) ts is has)

-- the tokens of a text made of pieces, where each piece has its own
pub flat_map-tokens : {X : Type 0} (text_of : X → List ℕ) (tokens_of : X → List Token) (P : X → Type 0)
    → ((x : X) (text : List ℕ) (ts : List Token) → P x → HasTokens text ts → HasTokens (text_of x ++ text) (tokens_of x ++ ts))
    → (xs : List X) (text : List ℕ) (ts : List Token) → Each P xs → HasTokens text ts → HasTokens (flat_map text_of xs ++ text) (flat_map tokens_of xs ++ ts)
flat_map-tokens text_of tokens_of P one [] text ts all has = has
flat_map-tokens text_of tokens_of P one (x ∷ xs) text ts all has =
    rw (append_assoc (text_of x) (flat_map text_of xs) text, append_assoc (tokens_of x) (flat_map tokens_of xs) ts)
    (one x (flat_map text_of xs ++ text) (flat_map tokens_of xs ++ ts) all.0 (flat_map-tokens text_of tokens_of P one xs text ts all.1 has))
