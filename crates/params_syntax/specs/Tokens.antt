-- The tokens of a parameter text: how each is spelled, and how a text is cut into them from left to right.
use Rattle.std.specs.Prelude.{◌≡◌, ℕ, zero, suc, ℤ, pos, negsuc, List, [], ◌∷◌, Bool, true, false, ◌==◌, ◌&&◌, ◌||◌, not, nat_le, cond, if◌then◌else◌, length, drop, Option, Some, None, Ok, Err}
use Rattle.std.specs.declared.result.Result.{Result}
use Rattle.std.specs.List.{take_while}
use Rattle.std.specs.Str.Parse.{digits_value}
use Rattle.params_syntax.specs.Limits.{longest_name, greatest}
use Rattle.params_syntax.specs.declared.fault.SyntaxKind.{SyntaxKind}
use Rattle.params_syntax.specs.declared.fault.SyntaxKind.TheVariants.{Byte, Name, Number, Word}
use Rattle.params_syntax.specs.declared.tree.Atom.TheVariants as atoms
use Rattle.params_syntax.specs.declared.token.Sign.{Sign}
use Rattle.params_syntax.specs.declared.token.Sign.TheVariants.{Opens, Closes, Equals, Ends, ListOpens, ListCloses, Comma}
use Rattle.params_syntax.specs.declared.token.Token.{Token}
use Rattle.params_syntax.specs.declared.token.Token.TheVariants as tokens

abbrev pub is_digit : ℕ → Bool
is_digit b = nat_le 48 b && nat_le b 57

-- a letter or `_`
abbrev pub begins_name : ℕ → Bool
begins_name b = (nat_le 65 b && nat_le b 90) || (nat_le 97 b && nat_le b 122) || (b == 95)

abbrev pub is_name_byte : ℕ → Bool
is_name_byte b = begins_name b || is_digit b

-- from 0x20 to 0x7e, but neither `"` nor `\`
abbrev pub is_word_byte : ℕ → Bool
is_word_byte b = nat_le 32 b && nat_le b 126 && not (b == 34) && not (b == 92)

-- space, tab, line feed, carriage return
abbrev pub is_blank : ℕ → Bool
is_blank b = (b == 32) || (b == 9) || (b == 10) || (b == 13)

-- the sign of a byte, where it is one: `{`, `}`, `=`, `;`, `[`, `]` or `,`
abbrev pub sign_of : ℕ → Option Sign
sign_of b =
    if b == 123 then Some Opens
    else if b == 125 then Some Closes
    else if b == 61 then Some Equals
    else if b == 59 then Some Ends
    else if b == 91 then Some ListOpens
    else if b == 93 then Some ListCloses
    else if b == 44 then Some Comma
    else None

-- What stands after the blanks and comments at the front, from inside a comment or not. A comment is `#` and all
-- bytes up to the next line feed or the end.
abbrev pub skipped : Bool → List ℕ → List ℕ
skipped in_comment [] = []
skipped true (b ∷ bs) = cond (b == 10) (skipped false bs) (skipped true bs)
skipped false (b ∷ bs) = cond (is_blank b) (skipped false bs) (cond (b == 35) (skipped true bs) (b ∷ bs))

abbrev pub after_gap : List ℕ → List ℕ
after_gap bytes = skipped false bytes

abbrev pub negative : ℕ → ℤ
negative zero = pos 0
negative (suc n) = negsuc n

-- a token, and what stands after it
abbrev pub Found : Type 0
Found = Token × List ℕ

-- a name, as long as it can be
abbrev pub name_at : List ℕ → Result Found SyntaxKind
name_at bytes =
    let name = take_while is_name_byte bytes in
    if nat_le (length name) longest_name then Ok (tokens.Name name, drop (length name) bytes) else Err Name

-- a number's digits, as many as there are, and what the value makes of them
abbrev pub digits_at : (ℕ → ℤ) → List ℕ → Result Found SyntaxKind
digits_at signed bytes =
    let digits = take_while is_digit bytes in
    if nat_le 1 (length digits) && nat_le (digits_value 10 digits) greatest
    then Ok (tokens.Atom (atoms.Number (signed (digits_value 10 digits))), drop (length digits) bytes)
    else Err Number

-- a word after its opening `"`
abbrev pub closed_at : List ℕ → List ℕ → Result Found SyntaxKind
closed_at word [] = Err Word
closed_at word (b ∷ rest) = if (b == 34) && nat_le (length word) longest_name then Ok (tokens.Atom (atoms.Word word), rest) else Err Word

abbrev pub word_at : List ℕ → Result Found SyntaxKind
word_at bytes =
    let word = take_while is_word_byte bytes in
    closed_at word (drop (length word) bytes)

-- a token that begins with a sign, or with another byte
abbrev pub begun_at : Option Sign → ℕ → List ℕ → Result Found SyntaxKind
begun_at (Some sign) b bs = Ok (tokens.Sign sign, bs)
begun_at None b bs =
    if begins_name b then name_at (b ∷ bs)
    else if is_digit b then digits_at pos (b ∷ bs)
    else if b == 45 then digits_at negative bs
    else if b == 34 then word_at bs
    else Err Byte

-- The token that these bytes begin with, where neither a blank nor a comment stands before it, and what stands
-- after it. Each token is as long as it can be. Or why it can't be formed.
abbrev pub token_at : ℕ → List ℕ → Result Found SyntaxKind
token_at b bs = begun_at (sign_of b) b bs

-- the next token after blanks and comments, and what stands after it
abbrev pub NextToken : List ℕ → Token → List ℕ → Type 0
NextToken text t rest = (b : ℕ) × (bs : List ℕ) × (after_gap text ≡ b ∷ bs) × (token_at b bs ≡ Ok (t, rest))

-- These are the tokens at the front of a text, and this is what stands after them.
abbrev pub FrontTokens : List ℕ → List Token → List ℕ → Type 0
FrontTokens text [] rest = text ≡ rest
FrontTokens text (t ∷ ts) rest = (after : List ℕ) × NextToken text t after × FrontTokens after ts rest
