-- The tokens at the front of a text: one more at the end, and that there is only one way to cut a text.
use Rattle.std.proofs.Common.{◌≡◌, ℕ, ◌<◌, List, [], ◌∷◌, ◌++◌, length, Ok, Err, Result, refl, sym, ap, ◌∙◌, subst, arith}
use Rattle.params_syntax.specs.declared.fault.SyntaxKind.{SyntaxKind}
use Rattle.params_syntax.specs.declared.fault.SyntaxKind.TheVariants.{Byte}
use Rattle.params_syntax.specs.declared.token.Token.{Token}
use Rattle.params_syntax.specs.Tokens.{Found, token_at, NextToken, FrontTokens}
use Rattle.params_syntax.proofs.StepLimits.{IsFormed}
use Rattle.params_syntax.proofs.Formed.{token_at-good, after_gap-shorter}

pub FrontTokens-push : (text : List ℕ) (ts : List Token) (rest : List ℕ) (t : Token) (after : List ℕ)
    → FrontTokens text ts rest → NextToken rest t after → FrontTokens text (ts ++ t ∷ []) after
FrontTokens-push text [] rest t after front next =
    let P : List ℕ → Type 0 = λ s. NextToken s t after in
    (after, subst P (sym front) next, refl)
FrontTokens-push text (u ∷ ts) rest t after front next = (front.0, front.1, FrontTokens-push front.0 ts rest t after front.2 next)

pub NextToken-formed : (rest : List ℕ) (t : Token) (after : List ℕ) → NextToken rest t after → IsFormed t
NextToken-formed rest t after next = (token_at-good next.0 next.1 t after next.3).formed

pub NextToken-shorter : (rest : List ℕ) (t : Token) (after : List ℕ) → NextToken rest t after → length after < length rest
NextToken-shorter rest t after next =
    let good = token_at-good next.0 next.1 t after next.3 in
    let gap = ap length next.2 in
    omega (arith, good.shorter, after_gap-shorter rest, gap)

pub record SameToken (t : Token) (after : List ℕ) (u : Token) (other : List ℕ) : Type 0 where
  pub token : t ≡ u
  pub left : after ≡ other

-- the token of a reading, and what it leaves
abbrev token_or : Token → Result Found SyntaxKind → Token
token_or t (Ok x) = x.0
token_or t (Err kind) = t

abbrev left_or : List ℕ → Result Found SyntaxKind → List ℕ
left_or bytes (Ok x) = x.1
left_or bytes (Err kind) = bytes

-- forming the token at the front
abbrev front_token : List ℕ → Result Found SyntaxKind
front_token [] = Err Byte
front_token (b ∷ bs) = token_at b bs

pub NextToken-same : (rest : List ℕ) (t : Token) (after : List ℕ) (u : Token) (other : List ℕ)
    → NextToken rest t after → NextToken rest u other → SameToken t after u other
NextToken-same rest t after u other p q =
    let read : Ok (t, after) ≡ Ok (u, other) = sym p.3 ∙ ap front_token (sym p.2 ∙ q.2) ∙ q.3 in
    record { token = ap (token_or t) read; left = ap (left_or after) read }

-- two fronts of a text: the same, or one goes further
pub data Compared (ts : List Token) (rest : List ℕ) (us : List Token) (other : List ℕ) : Type 0 where
  same : ts ≡ us → rest ≡ other → Compared ts rest us other
  first_further : (t : Token) (more : List Token) (after : List ℕ) → ts ≡ us ++ t ∷ more → NextToken other t after → Compared ts rest us other
  second_further : (t : Token) (more : List Token) (after : List ℕ) → us ≡ ts ++ t ∷ more → NextToken rest t after → Compared ts rest us other

pub compare_fronts : (text : List ℕ) (ts : List Token) (rest : List ℕ) (us : List Token) (other : List ℕ)
    → FrontTokens text ts rest → FrontTokens text us other → Compared ts rest us other
compare_fronts text [] rest [] other p q = same refl (sym p ∙ q)
compare_fronts text [] rest (u ∷ us) other p q =
    let P : List ℕ → Type 0 = λ s. NextToken s u q.0 in
    second_further u us q.0 refl (subst P p q.1)
compare_fronts text (t ∷ ts) rest [] other p q =
    let P : List ℕ → Type 0 = λ s. NextToken s t p.0 in
    first_further t ts p.0 refl (subst P q p.1)
compare_fronts text (t ∷ ts) rest (u ∷ us) other p q =
    let tokens = NextToken-same text t p.0 u q.0 p.1 q.1 in
    let P : List ℕ → Type 0 = λ s. FrontTokens s us other in
    elim (compare_fronts p.0 ts rest us other p.2 (subst P (sym tokens.left) q.2)) [
      | same e f ↦ same (let h = tokens.token in cc) f
      | first_further v more after e n ↦ first_further v more after (let h = tokens.token in cc) n
      | second_further v more after e n ↦ second_further v more after (let h = tokens.token in cc) n
    ]
