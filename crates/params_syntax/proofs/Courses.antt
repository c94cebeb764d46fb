-- How far a text was read: the tokens at its front, and the state that they lead to. What ends there is the tree or the
-- first fault.
use Rattle.std.proofs.Common.{◌≡◌, ℕ, ◌<◌, ◌≤◌, List, [], ◌∷◌, ◌++◌, length, Some, None, Ok, Err, Result, refl, sym, ap, ◌∙◌, subst}
use Rattle.params_syntax.specs.Limits.{most_elements, longest}
use Rattle.params_syntax.specs.declared.fault.SyntaxKind.{SyntaxKind}
use Rattle.params_syntax.specs.declared.fault.SyntaxFault.{SyntaxFault}
use Rattle.params_syntax.specs.declared.fault.SyntaxKind.TheVariants.{Length, Unexpected, End}
use Rattle.params_syntax.specs.declared.tree.Group.{Group}
use Rattle.params_syntax.specs.declared.state.State.{State}
use Rattle.params_syntax.specs.declared.state.State.TheVariants.{Top, GroupNamed, Inside, Named, Assigned, Listed, Element, Separated, Valued}
use Rattle.params_syntax.specs.declared.token.Token.{Token}
use Rattle.params_syntax.specs.Tokens.{after_gap, token_at, NextToken, FrontTokens}
use Rattle.params_syntax.specs.Reading.{Spells, FrontAllowed, fault_at, HasFault, unformed, unexpected, too_many, unended, ReadsAs}
use Rattle.params_syntax.specs.Machine.States.{step, open_elements, at_top}
use Rattle.params_syntax.proofs.Runs.{run, start, run-tree_tokens}
use Rattle.params_syntax.proofs.StepLimits.{KeepsLimits, step-keeps}
use Rattle.params_syntax.proofs.Reached.{run-few, run-begin, begin-run, run-tree, run-push, run-counts}
use Rattle.params_syntax.proofs.Fronts.{FrontTokens-push, NextToken-formed}

-- The text was read up to `rest`, and the state is this one.
pub record Course (text : List ℕ) (s : State) (rest : List ℕ) : Type 0 where
  pub short : length text ≤ longest
  pub ts : List Token
  pub tokens : FrontTokens text ts rest
  pub reached : run ts start ≡ Some s
  pub keeps : KeepsLimits s

pub course_begins : (text : List ℕ) → length text ≤ longest → Course text (Top []) text
course_begins text short = record { short = short; ts = []; tokens = refl; reached = refl; keeps = tt }

pub course_goes_on : (text : List ℕ) (s : State) (rest : List ℕ) (t : Token) (after : List ℕ) (next : State) → Course text s rest
    → NextToken rest t after → step s t ≡ Some next → open_elements next ≤ most_elements → Course text next after
course_goes_on text s rest t after next c token is few = record {
  short = c.short;
  ts = c.ts ++ t ∷ [];
  tokens = FrontTokens-push text c.ts rest t after c.tokens token;
  reached = run-push c.ts t s c.reached ∙ is;
  keeps = step-keeps s t next is c.keeps (NextToken-formed rest t after token) few;
}

allowed : (text : List ℕ) (s : State) (rest : List ℕ) (c : Course text s rest) → FrontAllowed text c.ts rest
allowed text s rest c = record {
  short = c.short;
  tokens = c.tokens;
  allowed = run-begin c.ts s c.reached;
  few = run-few c.ts s c.reached c.keeps;
}

-- ---- what ends there

pub course_spells : (text : List ℕ) (gs : List Group) (rest : List ℕ) → Course text (Top gs) rest → after_gap rest ≡ [] → Spells text gs
course_spells text gs rest c ended =
    let P : List Token → Type 0 = λ ts. FrontTokens text ts rest in
    record {
      short = c.short;
      limits = c.keeps;
      rest = rest;
      tokens = subst P (run-tree c.ts gs c.reached) c.tokens;
      ended = ended;
    }

pub course_unformed : (text : List ℕ) (s : State) (rest : List ℕ) (b : ℕ) (bs : List ℕ) (kind : SyntaxKind) → Course text s rest
    → after_gap rest ≡ b ∷ bs → token_at b bs ≡ Err kind → HasFault text (fault_at text (b ∷ bs) kind)
course_unformed text s rest b bs kind c here none = unformed c.ts rest b bs kind (allowed text s rest c) here none refl

pub course_unexpected : (text : List ℕ) (s : State) (rest : List ℕ) (t : Token) (after : List ℕ) → Course text s rest
    → NextToken rest t after → step s t ≡ None → HasFault text (fault_at text (after_gap rest) Unexpected)
course_unexpected text s rest t after c token none =
    unexpected c.ts rest t after (allowed text s rest c) token
    (λ begins. begin-run (c.ts ++ t ∷ []) begins (λ r there.
    let stops : Some r ≡ None = sym there ∙ run-push c.ts t s c.reached ∙ none in absurd cc))
    refl

pub course_too_many : (text : List ℕ) (s : State) (rest : List ℕ) (t : Token) (after : List ℕ) (next : State) → Course text s rest
    → NextToken rest t after → step s t ≡ Some next → most_elements < open_elements next → HasFault text (fault_at text (after_gap rest) Length)
course_too_many text s rest t after next c token is many =
    let there : run (c.ts ++ t ∷ []) start ≡ Some next = run-push c.ts t s c.reached ∙ is in
    let P : ℕ → Type 0 = λ n. most_elements < n in
    too_many c.ts rest t after (allowed text s rest c) token (run-begin (c.ts ++ t ∷ []) next there)
    (subst P (sym (run-counts (c.ts ++ t ∷ []) next there)) many) refl

-- a state inside a group
abbrev pub IsOpen : State → Type 0
IsOpen (Top gs) = ⊥
IsOpen _ = Unit {0}

pub course_unended : (text : List ℕ) (s : State) (rest : List ℕ) → Course text s rest → IsOpen s → after_gap rest ≡ []
    → HasFault text (record { offset = length text; kind = End })
course_unended text s rest c open_ ended =
    unended c.ts rest (allowed text s rest c) ended
    (λ groups is.
    let there : Some s ≡ Some (Top groups) = sym c.reached ∙ ap (λ (l : List Token). run l start) is ∙ run-tree_tokens groups in
    let same : s ≡ Top groups = cc in
    subst IsOpen same open_)
    refl

-- ---- the end of a text

-- what holds between groups, and inside of one
pub by_end : {X : Type 0} (top : List Group → X) (inside : X) (P : State → X → Type 0) → ((gs : List Group) → P (Top gs) (top gs))
    → ((s : State) → IsOpen s → P s inside) → (s : State) → P s (at_top top inside s)
by_end top inside P t o (Top gs) = t gs
by_end top inside P t o (GroupNamed gs g) = o (GroupNamed gs g) tt
by_end top inside P t o (Inside f) = o (Inside f) tt
by_end top inside P t o (Named f n) = o (Named f n) tt
by_end top inside P t o (Assigned f n) = o (Assigned f n) tt
by_end top inside P t o (Listed f n) = o (Listed f n) tt
by_end top inside P t o (Element f n atoms) = o (Element f n atoms) tt
by_end top inside P t o (Separated f n atoms) = o (Separated f n atoms) tt
by_end top inside P t o (Valued f n v) = o (Valued f n v) tt

-- the tree, or the fault at the end
abbrev pub end_reading : List ℕ → State → Result (List Group) SyntaxFault
end_reading text s = at_top Ok (Err (record { offset = length text; kind = End })) s

pub course_ends : (text : List ℕ) (s : State) (rest : List ℕ) → Course text s rest → after_gap rest ≡ [] → ReadsAs text (end_reading text s)
course_ends text s rest c ended =
    by_end Ok _ (λ r reading. Course text r rest → ReadsAs text reading)
    (λ gs c. course_spells text gs rest c ended) (λ r open_ c. course_unended text r rest c open_ ended) s c
