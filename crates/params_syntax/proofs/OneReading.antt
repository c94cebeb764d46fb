-- A text has one reading: where reading ends, each next turn is settled by the state and by what is left of the text.
use Rattle.std.proofs.Common.{◌≡◌, ℕ, ◌<◌, ◌≤◌, List, [], ◌∷◌, ◌++◌, length, cond, leb, Option, Some, None, Ok, Err, Result, refl, sym, ap, ◌∙◌, subst, inl, inr, append_assoc, arith}
use Rattle.std.proofs.lemmas.Bool.{cases_lt, le-leb}
use Rattle.std.proofs.lemmas.Bool.Decides.{leb_tells}
use Rattle.params_syntax.specs.Limits.{most_elements, longest}
use Rattle.params_syntax.specs.declared.fault.SyntaxKind.{SyntaxKind}
use Rattle.params_syntax.specs.declared.fault.SyntaxKind.TheVariants.{Long, Length, Unexpected, End}
use Rattle.params_syntax.specs.declared.fault.SyntaxFault.{SyntaxFault}
use Rattle.params_syntax.specs.declared.tree.Group.{Group}
use Rattle.params_syntax.specs.declared.state.State.{State}
use Rattle.params_syntax.specs.declared.state.State.TheVariants.{Top}
use Rattle.params_syntax.specs.declared.token.Token.{Token}
use Rattle.params_syntax.specs.Tokens.{Found, after_gap, token_at, NextToken, FrontTokens}
use Rattle.params_syntax.specs.Grammar.{tree_tokens, last_elements}
use Rattle.params_syntax.specs.Reading.{Spells, FrontAllowed, fault_at, HasFault, too_long, unformed, unexpected, too_many, unended, ReadsAs}
use Rattle.params_syntax.specs.Machine.States.{step, open_elements}
use Rattle.params_syntax.proofs.Runs.{run, start, run-tree_tokens}
use Rattle.params_syntax.proofs.Reached.{splits, run-few, run-begin, begin-run, run-tree, run-push, run-counts}
use Rattle.params_syntax.proofs.Courses.{by_end, end_reading}
use Rattle.params_syntax.proofs.Fronts.{same, first_further, second_further, compare_fronts}

-- what one more turn of reading does: it ends, or goes on
data Turn : Type 0 where
  Done : Result (List Group) SyntaxFault → Turn
  More : State → List ℕ → Turn

abbrev taken : List ℕ → List ℕ → List ℕ → Option State → Turn
taken text here after None = Done (Err (fault_at text here Unexpected))
taken text here after (Some s) = cond (leb (open_elements s) most_elements) (More s after) (Done (Err (fault_at text here Length)))

abbrev token_turn : List ℕ → List ℕ → State → Result Found SyntaxKind → Turn
token_turn text here s (Err kind) = Done (Err (fault_at text here kind))
token_turn text here s (Ok x) = taken text here x.1 (step s x.0)

abbrev turn_at : List ℕ → State → List ℕ → Turn
turn_at text s [] = Done (end_reading text s)
turn_at text s (b ∷ bs) = token_turn text (b ∷ bs) s (token_at b bs)

abbrev turn : List ℕ → State → List ℕ → Turn
turn text s rest = turn_at text s (after_gap rest)

-- reading ends with an answer behind these tokens
record Ended (text : List ℕ) (answer : Result (List Group) SyntaxFault) : Type 0 where
  ts : List Token
  rest : List ℕ
  state : State
  tokens : FrontTokens text ts rest
  reached : run ts start ≡ Some state
  few : (front back : List Token) → front ++ back ≡ ts → last_elements front ≤ most_elements
  done : turn text state rest ≡ Done answer

-- ---- no two answers

-- behind the shorter of two fronts reading goes on
no_further : {P : Type 0} (text : List ℕ) (a b : Result (List Group) SyntaxFault) (e : Ended text a) (f : Ended text b) (t : Token) (more : List Token) (after : List ℕ)
    → e.ts ≡ f.ts ++ t ∷ more → NextToken f.rest t after → P
no_further text a b e f t more after longer token =
    let parts : (f.ts ++ t ∷ []) ++ more ≡ e.ts = append_assoc f.ts (t ∷ []) more ∙ sym longer in
    splits (f.ts ++ t ∷ []) more e.ts e.state parts e.reached (λ next there on.
    let is : step f.state t ≡ Some next = sym (run-push f.ts t f.state f.reached) ∙ there in
    let few : open_elements next ≤ most_elements = (let P : ℕ → Type 0 = λ n. n ≤ most_elements in subst P (run-counts (f.ts ++ t ∷ []) next there) (e.few (f.ts ++ t ∷ []) more parts)) in
    let goes : turn text f.state f.rest ≡ More next after =
    ap (turn_at text f.state) token.2
    ∙ ap (token_turn text (token.0 ∷ token.1) f.state) token.3
    ∙ ap (taken text (token.0 ∷ token.1) after) is
    ∙ ap (λ t. cond t (More next after) (Done (Err (fault_at text (token.0 ∷ token.1) Length)))) (le-leb (open_elements next) most_elements few) in
    let stops : Done b ≡ More next after = sym f.done ∙ goes in
    absurd cc)

same_done : (a b : Result (List Group) SyntaxFault) → Done a ≡ Done b → a ≡ b
same_done a b e = cc

one_answer : (text : List ℕ) (a b : Result (List Group) SyntaxFault) → Ended text a → Ended text b → a ≡ b
one_answer text a b e f =
    elim (compare_fronts text e.ts e.rest f.ts f.rest e.tokens f.tokens) [
      | same ts rest ↦
          let states : Some e.state ≡ Some f.state = sym e.reached ∙ ap (λ (l : List Token). run l start) ts ∙ f.reached in
          let state : e.state ≡ f.state = cc in
          let turns : turn text e.state e.rest ≡ turn text f.state f.rest = ap (λ s. turn text s e.rest) state ∙ ap (turn text f.state) rest in
          same_done a b (sym e.done ∙ turns ∙ f.done)
      | first_further t more after longer token ↦ no_further text a b e f t more after longer token
      | second_further t more after longer token ↦ no_further text b a f e t more after longer token
    ]

-- ---- each reading ends

ended_end : (text : List ℕ) (s : State) → ((gs : List Group) → s ≡ Top gs → ⊥) → end_reading text s ≡ Err (record { offset = length text; kind = End })
ended_end text s none =
    by_end Ok _ (λ r reading. ((gs : List Group) → r ≡ Top gs → ⊥) → reading ≡ Err (record { offset = length text; kind = End }))
    (λ gs h. absurd (h gs refl)) (λ r open_ h. refl) s none

spelled_ends : (text : List ℕ) (gs : List Group) → Spells text gs → Ended text (Ok gs)
spelled_ends text gs h = record {
  ts = tree_tokens gs;
  rest = h.rest;
  state = Top gs;
  tokens = h.tokens;
  reached = run-tree_tokens gs;
  few = run-few (tree_tokens gs) (Top gs) (run-tree_tokens gs) h.limits;
  done = ap (turn_at text (Top gs)) h.ended;
}

-- a front that is allowed, and the turn behind it
front_ends : (text : List ℕ) (ts : List Token) (rest : List ℕ) (answer : Result (List Group) SyntaxFault) → FrontAllowed text ts rest
    → ((s : State) → run ts start ≡ Some s → turn text s rest ≡ Done answer) → Ended text answer
front_ends text ts rest answer front done =
    begin-run ts front.allowed (λ s there. record {
      ts = ts;
      rest = rest;
      state = s;
      tokens = front.tokens;
      reached = there;
      few = front.few;
      done = done s there;
    })

-- the turn at a token
turn-token : (text : List ℕ) (s : State) (rest : List ℕ) (t : Token) (after : List ℕ) (token : NextToken rest t after)
    → turn text s rest ≡ taken text (after_gap rest) after (step s t)
turn-token text s rest t after token =
    ap (turn_at text s) token.2 ∙ ap (token_turn text (token.0 ∷ token.1) s) token.3 ∙ ap (λ here. taken text here after (step s t)) (sym token.2)

refused : (text here after : List ℕ) (o : Option State) → ((next : State) → o ≡ Some next → ⊥) → taken text here after o ≡ Done (Err (fault_at text here Unexpected))
refused text here after None h = refl
refused text here after (Some s) h = absurd (h s refl)

overfull : (text here after : List ℕ) (next : State) → most_elements < open_elements next → taken text here after (Some next) ≡ Done (Err (fault_at text here Length))
overfull text here after next many =
    elim (leb_tells (open_elements next) most_elements) [
      | inl t ↦ absurd (omega (arith, t.1, many))
      | inr f ↦ ap (λ t. cond t (More next after) (Done (Err (fault_at text here Length)))) f.0
    ]

fault_ends : (text : List ℕ) (fault : SyntaxFault) → length text ≤ longest → HasFault text fault → Ended text (Err fault)
fault_ends text fault short (too_long long e) = absurd (omega (arith, short, long))
fault_ends text fault short (unformed ts rest b bs kind front here none e) =
    front_ends text ts rest (Err fault) front
    (λ s there. ap (turn_at text s) here ∙ ap (token_turn text (b ∷ bs) s) none ∙ ap (λ (f : SyntaxFault). Done (Err f)) (sym e))
fault_ends text fault short (unexpected ts rest t after front token none e) =
    front_ends text ts rest (Err fault) front
    (λ s there. turn-token text s rest t after token
    ∙ refused text (after_gap rest) after (step s t) (λ next is. none (run-begin (ts ++ t ∷ []) next (run-push ts t s there ∙ is)))
    ∙ ap (λ (f : SyntaxFault). Done (Err f)) (sym e))
fault_ends text fault short (too_many ts rest t after front token begins many e) =
    front_ends text ts rest (Err fault) front
    (λ s there. begin-run (ts ++ t ∷ []) begins (λ next on.
    let is : step s t ≡ Some next = sym (run-push ts t s there) ∙ on in
    let P : ℕ → Type 0 = λ n. most_elements < n in
    turn-token text s rest t after token
    ∙ ap (taken text (after_gap rest) after) is
    ∙ overfull text (after_gap rest) after next (subst P (run-counts (ts ++ t ∷ []) next on) many)
    ∙ ap (λ (f : SyntaxFault). Done (Err f)) (sym e)))
fault_ends text fault short (unended ts rest front ended none e) =
    front_ends text ts rest (Err fault) front
    (λ s there. ap (turn_at text s) ended
    ∙ ap Done (ended_end text s (λ gs is. none gs (run-tree ts gs (there ∙ ap (λ (r : State). Some r) is))))
    ∙ ap (λ (f : SyntaxFault). Done (Err f)) (sym e))

reading_ends : (text : List ℕ) (a : Result (List Group) SyntaxFault) → length text ≤ longest → ReadsAs text a → Ended text a
reading_ends text (Ok gs) short h = spelled_ends text gs h
reading_ends text (Err fault) short h = fault_ends text fault short h

-- a text that is too long has that fault alone
long_reading : (text : List ℕ) (a : Result (List Group) SyntaxFault) → longest < length text → ReadsAs text a → a ≡ Err (record { offset = longest; kind = Long })
long_reading text (Ok gs) long h = absurd (omega (arith, long, h.short))
long_reading text (Err fault) long (too_long again e) = ap (λ (f : SyntaxFault). Err f) e
long_reading text (Err fault) long (unformed ts rest b bs kind front here none e) = absurd (omega (arith, long, front.short))
long_reading text (Err fault) long (unexpected ts rest t after front token none e) = absurd (omega (arith, long, front.short))
long_reading text (Err fault) long (too_many ts rest t after front token begins many e) = absurd (omega (arith, long, front.short))
long_reading text (Err fault) long (unended ts rest front ended none e) = absurd (omega (arith, long, front.short))

pub same_reading : (text : List ℕ) (a b : Result (List Group) SyntaxFault) → ReadsAs text a → ReadsAs text b → a ≡ b
same_reading text a b p q =
    elim (cases_lt longest (length text)) [
      | inl long ↦ long_reading text a long p ∙ sym (long_reading text b long q)
      | inr short ↦ one_answer text a b (reading_ends text a short p) (reading_ends text b short q)
    ]
