-- Each text has a tree or a first fault.
use Rattle.std.proofs.Common.{◌≡◌, ℕ, zero, suc, ◌<◌, List, [], ◌∷◌, length, Option, Some, None, Ok, Err, Result, refl, inl, inr, arith}
use Rattle.std.proofs.lemmas.Bool.{cases_lt}
use Rattle.params_syntax.specs.Limits.{most_elements, longest}
use Rattle.params_syntax.specs.declared.fault.SyntaxKind.{SyntaxKind}
use Rattle.params_syntax.specs.declared.fault.SyntaxKind.TheVariants.{Long, Length, Unexpected}
use Rattle.params_syntax.specs.declared.fault.SyntaxFault.{SyntaxFault}
use Rattle.params_syntax.specs.declared.tree.Group.{Group}
use Rattle.params_syntax.specs.declared.state.State.{State}
use Rattle.params_syntax.specs.declared.state.State.TheVariants.{Top}
use Rattle.params_syntax.specs.declared.token.Token.{Token}
use Rattle.params_syntax.specs.Tokens.{Found, after_gap, token_at, NextToken}
use Rattle.params_syntax.specs.Reading.{fault_at, too_long, ReadsAs}
use Rattle.params_syntax.specs.Machine.States.{step, open_elements}
use Rattle.params_syntax.proofs.Courses.{Course, course_begins, course_goes_on, course_unformed, course_unexpected, course_too_many, end_reading, course_ends}
use Rattle.params_syntax.proofs.Fronts.{NextToken-shorter}

abbrev pub Reading : List ℕ → Type 0
Reading text = (reading : Result (List Group) SyntaxFault) × ReadsAs text reading

-- the next token, and reading from there on
goes_on : (text : List ℕ) (s : State) (rest : List ℕ) (t : Token) (after : List ℕ) → Course text s rest → NextToken rest t after
    → ((next : State) → Course text next after → Reading text) → (o : Option State) → step s t ≡ o → Reading text
goes_on text s rest t after c token more None none = (Err (fault_at text (after_gap rest) Unexpected), course_unexpected text s rest t after c token none)
goes_on text s rest t after c token more (Some next) is =
    elim (cases_lt most_elements (open_elements next)) [
      | inl many ↦ (Err (fault_at text (after_gap rest) Length), course_too_many text s rest t after next c token is many)
      | inr few ↦ more next (course_goes_on text s rest t after next c token is few)
    ]

reads_token : (text : List ℕ) (s : State) (rest : List ℕ) (b : ℕ) (bs : List ℕ) → Course text s rest → after_gap rest ≡ b ∷ bs
    → ((next : State) (after : List ℕ) → length after < length rest → Course text next after → Reading text)
    → (r : Result Found SyntaxKind) → token_at b bs ≡ r → Reading text
reads_token text s rest b bs c here more (Err kind) none = (Err (fault_at text (b ∷ bs) kind), course_unformed text s rest b bs kind c here none)
reads_token text s rest b bs c here more (Ok x) is =
    let token : NextToken rest x.0 x.1 = (b, bs, here, is) in
    goes_on text s rest x.0 x.1 c token (λ next d. more next x.1 (NextToken-shorter rest x.0 x.1 token) d) (step s x.0) refl

reads_here : (text : List ℕ) (s : State) (rest : List ℕ) → Course text s rest
    → ((next : State) (after : List ℕ) → length after < length rest → Course text next after → Reading text)
    → (here : List ℕ) → after_gap rest ≡ here → Reading text
reads_here text s rest c more [] e = (end_reading text s, course_ends text s rest c e)
reads_here text s rest c more (b ∷ bs) e = reads_token text s rest b bs c e more (token_at b bs) refl

reads_from : (fuel : ℕ) (text : List ℕ) (s : State) (rest : List ℕ) → length rest < fuel → Course text s rest → Reading text
reads_from zero text s rest h c = absurd (omega (arith, h))
reads_from (suc fuel) text s rest h c =
    reads_here text s rest c (λ next after shorter d. reads_from fuel text next after (omega (arith, h, shorter)) d) (after_gap rest) refl

pub each_reads : (text : List ℕ) → Reading text
each_reads text =
    elim (cases_lt longest (length text)) [
      | inl long ↦ (Err (record { offset = longest; kind = Long }), too_long long refl)
      | inr short ↦ reads_from (suc (length text)) text (Top []) text (omega arith) (course_begins text short)
    ]
