-- Which lists of tokens lead to a state: those that begin a tree.
use Rattle.std.proofs.Common.{◌≡◌, ℕ, ◌≤◌, List, [], ◌∷◌, ◌++◌, Option, Some, None, pos, refl, sym, ap, ◌∙◌, subst, append_assoc}
use Rattle.std.proofs.lemmas.Option.{same_Some}
use Rattle.params_syntax.specs.Limits.{most_elements}
use Rattle.params_syntax.specs.declared.tree.Group.{Group}
use Rattle.params_syntax.specs.declared.tree.Atom.TheVariants.{Number}
use Rattle.params_syntax.specs.declared.tree.Value.{Value}
use Rattle.params_syntax.specs.declared.tree.Value.TheVariants as values
use Rattle.params_syntax.specs.declared.state.Frame.{Frame}
use Rattle.params_syntax.specs.declared.state.Frame.TheVariants.{InGroup, InSub}
use Rattle.params_syntax.specs.declared.state.State.{State}
use Rattle.params_syntax.specs.declared.state.State.TheVariants.{Top, GroupNamed, Inside, Named, Assigned, Listed, Element, Separated, Valued}
use Rattle.params_syntax.specs.declared.token.Token.{Token}
use Rattle.params_syntax.specs.declared.token.Token.TheVariants as tokens
use Rattle.params_syntax.specs.Grammar.{opens, closes, equals, ends, list_closes, tree_tokens, BeginTree, counted_on, last_elements}
use Rattle.params_syntax.specs.Machine.States.{step, with_setting, open_elements}
use Rattle.params_syntax.proofs.Runs.{run, run-append, run-None, start, run-tree_tokens}
use Rattle.params_syntax.proofs.StepTokens.{state_tokens, HasElements, step-adds, step-counts}
use Rattle.params_syntax.proofs.StepLimits.{KeepsLimits, step-kept, open_elements-few}

-- what a run that arrives goes by first
pub passes : {P : Type 0} (ts : List Token) (o : Option State) (s : State) → run ts o ≡ Some s → ((r : State) → o ≡ Some r → run ts (Some r) ≡ Some s → P) → P
passes ts (Some r) s e go = go r refl e
passes ts None s e go = let no : None ≡ Some s = sym (run-None ts) ∙ e in absurd cc

-- the tokens of the state that they lead to
run-tokens_from : (ts : List Token) (r s : State) → run ts (Some r) ≡ Some s → HasElements r → state_tokens s ≡ state_tokens r ++ ts
run-tokens_from [] r s e has = ap state_tokens (sym (same_Some r s e)) ∙ sym (append-nil (state_tokens r))
  where
    append-nil : (xs : List Token) → xs ++ [] ≡ xs
    append-nil [] = refl
    append-nil (x ∷ xs) = ap (λ (l : List Token). x ∷ l) (append-nil xs)
run-tokens_from (t ∷ ts) r s e has =
    passes ts (step r t) s e (λ next is more.
    let adds = step-adds r t next is has in
    run-tokens_from ts next s more adds.0 ∙ ap (λ (l : List Token). l ++ ts) adds.1 ∙ append_assoc (state_tokens r) (t ∷ []) ts)

pub run-tokens : (ts : List Token) (s : State) → run ts start ≡ Some s → ts ≡ state_tokens s
run-tokens ts s e = sym (run-tokens_from ts (Top []) s e tt)

-- how many elements stand at their end
run-counts_from : (ts : List Token) (r s : State) → run ts (Some r) ≡ Some s → counted_on (open_elements r) ts ≡ open_elements s
run-counts_from [] r s e = ap open_elements (same_Some r s e)
run-counts_from (t ∷ ts) r s e =
    passes ts (step r t) s e (λ next is more.
    ap (λ n. counted_on n ts) (sym (step-counts r t next is)) ∙ run-counts_from ts next s more)

pub run-counts : (ts : List Token) (s : State) → run ts start ≡ Some s → last_elements ts ≡ open_elements s
run-counts ts s e = run-counts_from ts (Top []) s e

-- a state on the way to one that keeps the limits keeps them
run-kept : (ts : List Token) (r s : State) → run ts (Some r) ≡ Some s → KeepsLimits s → KeepsLimits r
run-kept [] r s e h = subst KeepsLimits (sym (same_Some r s e)) h
run-kept (t ∷ ts) r s e h = passes ts (step r t) s e (λ next is more. step-kept r t next is (run-kept ts next s more h))

-- the run to a front of the tokens, and on from there
pub splits : {P : Type 0} (front back ts : List Token) (s : State) → front ++ back ≡ ts → run ts start ≡ Some s
    → ((r : State) → run front start ≡ Some r → run back (Some r) ≡ Some s → P) → P
splits front back ts s parts e go =
    let both : run back (run front start) ≡ Some s = sym (run-append front back start) ∙ ap (λ (l : List Token). run l start) parts ∙ e in
    passes back (run front start) s both go

pub run-few : (ts : List Token) (s : State) → run ts start ≡ Some s → KeepsLimits s → (front back : List Token) → front ++ back ≡ ts → last_elements front ≤ most_elements
run-few ts s e h front back parts =
    splits front back ts s parts e (λ r there on.
    let same : last_elements front ≡ open_elements r = run-counts front r there in
    let P : ℕ → Type 0 = λ n. n ≤ most_elements in
    subst P (sym same) (open_elements-few r (run-kept back r s on h)))

-- ---- each state can be ended

-- tokens that lead from a state to a tree
pub record Ends (s : State) : Type 0 where
  pub more : List Token
  pub groups : List Group
  pub leads : run more (Some s) ≡ Some (Top groups)

frame_ends : (f : Frame) → Ends (Inside f)
frame_ends (InGroup gs g items) = record { more = closes ∷ []; groups = _; leads = refl }
frame_ends (InSub gs g items sub sets) = record { more = closes ∷ closes ∷ []; groups = _; leads = refl }

-- one token more before the end
before : (s : State) (t : Token) (next : State) → step s t ≡ Some next → Ends next → Ends s
before s t next is e = record { more = t ∷ e.more; groups = e.groups; leads = ap (run e.more) is ∙ e.leads }

valued_ends : (f : Frame) (n : List ℕ) (v : Value) → Ends (Valued f n v)
valued_ends f n v = before (Valued f n v) ends _ refl (frame_ends (with_setting f (record { name = n; value = v })))

assigned_ends : (f : Frame) (n : List ℕ) → Ends (Assigned f n)
assigned_ends f n = before (Assigned f n) (tokens.Atom (Number (pos 0))) _ refl (valued_ends f n (values.Atom (Number (pos 0))))

state_ends : (s : State) → Ends s
state_ends (Top gs) = record { more = []; groups = gs; leads = refl }
state_ends (GroupNamed gs g) = before (GroupNamed gs g) opens _ refl (frame_ends (InGroup gs g []))
state_ends (Inside f) = frame_ends f
state_ends (Named f n) = before (Named f n) equals _ refl (assigned_ends f n)
state_ends (Assigned f n) = assigned_ends f n
state_ends (Listed f n) = before (Listed f n) list_closes _ refl (valued_ends f n (values.List []))
state_ends (Element f n atoms) = before (Element f n atoms) list_closes _ refl (valued_ends f n (values.List atoms))
state_ends (Separated f n atoms) = before (Separated f n atoms) (tokens.Atom (Number (pos 0))) (Element f n (atoms ++ Number (pos 0) ∷ [])) refl (before (Element f n (atoms ++ Number (pos 0) ∷ [])) list_closes _ refl (valued_ends f n (values.List (atoms ++ Number (pos 0) ∷ []))))
state_ends (Valued f n v) = valued_ends f n v

-- ---- tokens begin a tree exactly where they lead to a state

pub run-begin : (ts : List Token) (s : State) → run ts start ≡ Some s → BeginTree ts
run-begin ts s e =
    let end = state_ends s in
    let leads : run (ts ++ end.more) start ≡ Some (Top end.groups) = run-append ts end.more start ∙ ap (run end.more) e ∙ end.leads in
    (end.groups, end.more, run-tokens (ts ++ end.more) (Top end.groups) leads)

pub begin-run : {P : Type 0} (ts : List Token) → BeginTree ts → ((s : State) → run ts start ≡ Some s → P) → P
begin-run ts b go = splits ts b.1 (tree_tokens b.0) (Top b.0) b.2 (run-tree_tokens b.0) (λ s e more. go s e)

pub run-tree : (ts : List Token) (groups : List Group) → run ts start ≡ Some (Top groups) → ts ≡ tree_tokens groups
run-tree ts groups e = run-tokens ts (Top groups) e

-- the run to one token more
pub run-push : (ts : List Token) (t : Token) (s : State) → run ts start ≡ Some s → run (ts ++ t ∷ []) start ≡ step s t
run-push ts t s e = run-append ts (t ∷ []) start ∙ ap (run (t ∷ [])) e
