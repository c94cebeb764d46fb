-- One turn of the reader's loop, which stands at the next token: what it finds, and where it goes on.
use Rattle.std.proofs.Common.{◌≡◌, ℕ, ◌-◌, ◌<◌, ◌≤◌, List, [], ◌∷◌, length, get_or, take, drop, take_all, Option, Some, None, Ok, Err, Result, refl, sym, ap, ◌∙◌, subst, arith}
use Rattle.params_syntax.specs.Limits.{most_elements, longest}
use Rattle.params_syntax.specs.declared.fault.SyntaxKind.{SyntaxKind}
use Rattle.params_syntax.specs.declared.fault.SyntaxKind.TheVariants as kinds
use Rattle.params_syntax.specs.declared.fault.ReadError.{ReadError}
use Rattle.params_syntax.specs.declared.refusal.Refusal.{Refusal}
use Rattle.params_syntax.specs.declared.refusal.Refusal.TheVariants.{Unexpected, Length, Memory}
use Rattle.params_syntax.specs.declared.tree.Group.{Group}
use Rattle.params_syntax.specs.declared.state.State.{State}
use Rattle.params_syntax.specs.declared.state.State.TheVariants.{Top}
use Rattle.params_syntax.specs.declared.token.Token.{Token}
use Rattle.params_syntax.specs.Tokens.{after_gap, token_at, NextToken, FrontTokens}
use Rattle.params_syntax.specs.Reading.{Spells, fault_at, HasFault, IsUnread}
use Rattle.std.specs.Prelude.{IfOk, IfErr}
use Rattle.params_syntax.specs.Machine.States.{step, open_elements}
use Rattle.params_syntax.specs.Machine.Steps.{IsFull, StepsTo, fault_of, refusal_of, end_of}
use Rattle.params_syntax.proofs.Formed.{token_at-good, after_gap-shorter}
use Rattle.params_syntax.proofs.Fronts.{NextToken-shorter}
use Rattle.params_syntax.proofs.Courses.{Course, course_begins, course_goes_on, course_spells, course_unformed, course_unexpected, course_too_many, course_unended, by_end}

-- The text was read up to the next token, or to the end.
abbrev pub At : List ℕ → State → List ℕ → Type 0
At text s here = (rest : List ℕ) × (after_gap rest ≡ here) × Course text s rest

FrontTokens-shorter : (text : List ℕ) (ts : List Token) (rest : List ℕ) → FrontTokens text ts rest → length rest ≤ length text
FrontTokens-shorter text [] rest e = omega (arith, ap length e)
FrontTokens-shorter text (t ∷ ts) rest h = omega (arith, NextToken-shorter text t h.0 h.1, FrontTokens-shorter h.0 ts rest h.2)

pub at_shorter : (text : List ℕ) (s : State) (here : List ℕ) → At text s here → length here ≤ length text
at_shorter text s here a =
    omega (arith, ap length a.1, after_gap-shorter a.0, FrontTokens-shorter text a.2.ts a.0 a.2.tokens)

-- the token there
token_there : (rest : List ℕ) (b : ℕ) (bs here : List ℕ) (t : Token) (after : List ℕ) → after_gap rest ≡ here → here ≡ b ∷ bs → token_at b bs ≡ Ok (t, after) → NextToken rest t after
token_there rest b bs here t after gap front read = (b, bs, gap ∙ front, read)

pub at_unformed : (text : List ℕ) (s : State) (here : List ℕ) (b : ℕ) (bs : List ℕ) (kind : SyntaxKind) → At text s here → here ≡ b ∷ bs
    → token_at b bs ≡ Err kind → IsUnread text (fault_of (length text - length here) kind)
at_unformed text s here b bs kind a front read =
    let P : List ℕ → Type 0 = λ l. HasFault text (fault_at text l kind) in
    subst P (sym front) (course_unformed text s a.0 b bs kind a.2 (a.1 ∙ front) read)

pub at_refused : (text : List ℕ) (s : State) (here : List ℕ) (b : ℕ) (bs : List ℕ) (t : Token) (after : List ℕ) (refusal : Refusal) → At text s here → here ≡ b ∷ bs
    → token_at b bs ≡ Ok (t, after) → StepsTo (Err refusal) (step s t) → IsUnread text (refusal_of (length text - length here) refusal)
at_refused text s here b bs t after Memory a front read refused = tt
at_refused text s here b bs t after Unexpected a front read refused =
    let P : List ℕ → Type 0 = λ l. HasFault text (fault_at text l kinds.Unexpected) in
    subst P a.1 (course_unexpected text s a.0 t after a.2 (token_there a.0 b bs here t after a.1 front read) refused)
at_refused text s here b bs t after Length a front read full =
    let P : List ℕ → Type 0 = λ l. HasFault text (fault_at text l kinds.Length) in
    by (step s t) refl full (λ next is many. subst P a.1 (course_too_many text s a.0 t after next a.2 (token_there a.0 b bs here t after a.1 front read) is many))
  where
    by : {Q : Type 0} (o : Option State) → step s t ≡ o → IsFull o → ((next : State) → step s t ≡ Some next → most_elements < open_elements next → Q) → Q
    by None e full go = absurd full
    by (Some next) e full go = go next e full

pub at_more : (text : List ℕ) (s : State) (here : List ℕ) (b : ℕ) (bs : List ℕ) (t : Token) (after : List ℕ) (next : State) → At text s here → here ≡ b ∷ bs
    → token_at b bs ≡ Ok (t, after) → StepsTo (Ok next) (step s t) → (left : List ℕ) → left ≡ after_gap after → At text next left
at_more text s here b bs t after next a front read stepped left is =
    (after, sym is, course_goes_on text s a.0 t after next a.2 (token_there a.0 b bs here t after a.1 front read) stepped.0 stepped.1)

pub token_at-shorter : (here : List ℕ) (b : ℕ) (bs : List ℕ) (t : Token) (after left : List ℕ) → here ≡ b ∷ bs → token_at b bs ≡ Ok (t, after) → left ≡ after_gap after
    → length left < length here
token_at-shorter here b bs t after left front read is =
    omega (arith, ap length front, ap length is, after_gap-shorter after, (token_at-good b bs t after read).shorter)

-- ---- the end

pub at_begin : (text here : List ℕ) → length text ≤ longest → here ≡ after_gap text → At text (Top []) here
at_begin text here short is = (text, sym is, course_begins text short)

abbrev Answer : Type 0
Answer = Result (List Group) ReadError

pub record EndsWell (text : List ℕ) (answer : Answer) : Type 0 where
  pub tree : IfOk answer (λ gs. Spells text gs)
  pub fault : IfErr answer (λ e. IsUnread text e)

ends_in : (text : List ℕ) (s : State) (rest : List ℕ) → Course text s rest → after_gap rest ≡ [] → EndsWell text (end_of (length text) s)
ends_in text s rest c e =
    by_end Ok _ (λ r answer. Course text r rest → EndsWell text answer)
    (λ gs c. record { tree = course_spells text gs rest c e; fault = tt })
    (λ r open_ c. record { tree = tt; fault = course_unended text r rest c open_ e }) s c

is_empty : (l : List ℕ) → length l < 1 → l ≡ []
is_empty [] h = refl
is_empty (b ∷ bs) h = absurd (omega (arith, h))

pub at_end : (text : List ℕ) (s : State) (here : List ℕ) (answer : Answer) → At text s here → length here < 1 → answer ≡ end_of (length text) s → EndsWell text answer
at_end text s here answer a none is = subst (EndsWell text) (sym is) (ends_in text s a.0 a.2 (a.1 ∙ is_empty here none))

-- ---- the first byte, and the rest as the code takes it

abbrev pub first_of : List ℕ → ℕ
first_of here = get_or here 0 0

abbrev pub tail_of : List ℕ → List ℕ
tail_of here = take (length here - 1) (drop 1 here)

pub parts_of : (here : List ℕ) → 1 ≤ length here → here ≡ first_of here ∷ tail_of here
parts_of [] h = absurd (omega (arith, h))
parts_of (b ∷ bs) h = ap (λ (l : List ℕ). b ∷ l) (sym (ap (λ n. take n bs) (omega arith) ∙ take_all (length bs) bs (omega arith)))
