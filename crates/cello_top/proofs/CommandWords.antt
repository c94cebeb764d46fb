-- The command of words.
use Rattle.std.proofs.Common.{◌≡◌, ℕ, ◌<◌, ◌≤◌, List, [], ◌∷◌, ◌⊎◌, Option, Some, length, get_or, map, sym, ap, subst, ◌∙◌, arith, inl, inr}
use Rattle.std.specs.Prelude.{◌↔◌, Bool, IsNone, codes, decimal, true}
use Rattle.std.specs.Bool.{Decides}
use Rattle.std.specs.Str.{bytes_eq}
use Rattle.std.proofs.lemmas.Bool.{false≢true}
use Rattle.std.proofs.lemmas.Slice.Eq.{bytes_eq-Decides}
use Rattle.std.proofs.lemmas.List.{get_or-map, length-map}
use Rattle.demo_params.specs.DemoTexts.{most_seed, most_size}
use Rattle.params_check.specs.Bounds.{most_cycles}
use Rattle.cello_top.specs.declared.words.Command.{Command}
use Rattle.cello_top.specs.declared.words.Command.TheVariants.{Text, Resume, Demo}
use Rattle.cello_top.specs.declared.words.TextCommand.{TextCommand}
use Rattle.cello_top.specs.declared.words.TextCommand.TheVariants.{Solo, Check}
use Rattle.cello_top.specs.Words.{IsCommand, IsDemo, IsResume, IsSomeDemo, IsSomeResume, ReadsSource, is_file_name}
use Rattle.cello_top.specs.Lemmas.CommandSteps.{IsOf, IsOfCommand}

-- whether bytes are the same decides whether lists that they are are the same
pub decided : (xs ys shown other : List ℕ) (r : Bool) → r ≡ bytes_eq shown other → shown ≡ xs → other ≡ ys → Decides r (xs ≡ ys)
decided xs ys shown other r is left right =
    let both = bytes_eq-Decides shown other in
    ((λ e. sym left ∙ both.0 (sym is ∙ e) ∙ right), (λ e. is ∙ both.1 (left ∙ e ∙ sym right)))

pub of_any_command : (command : Command) (words : List (List ℕ)) → IsOfCommand command words → IsCommand words
of_any_command (Text Solo) words is = inl (inl is)
of_any_command (Text Check) words is = inl (inr is)
of_any_command (Resume name until) words is = inr (inl (name, until, is))
of_any_command (Demo seed size) words is = inr (inr (seed, size, is))

-- the words of a command whose kind is known
pub as_text : (k : Command) (command : TextCommand) (words : List (List ℕ)) → k ≡ Text command → IsOfCommand k words → IsOf command words
as_text k command words is found = subst (λ (j : Command). IsOfCommand j words) is found

pub as_resume : (k : Command) (name : List ℕ) (until : ℕ) (words : List (List ℕ)) → k ≡ Resume name until → IsOfCommand k words → IsResume words name until
as_resume k name until words is found = subst (λ (j : Command). IsOfCommand j words) is found

pub some-word : (command : Command) (words : List (List ℕ)) → IsOfCommand command words → (IsNone (Some command) ↔ (IsCommand words → ⊥))
some-word command words is = ((λ e. absurd (false≢true (sym e))), (λ other. absurd (other (of_any_command command words is))))

pub no-word : (r : Option Command) (words : List (List ℕ)) → (ReadsSource words → ⊥) → (IsNone r ↔ (IsSomeResume words ⊎ IsSomeDemo words → ⊥)) → (IsNone r ↔ (IsCommand words → ⊥))
no-word r words other none =
    ((λ e set. elim set [ inl source ↦ other source | inr more ↦ none.0 e more ]), (λ not. none.1 (λ more. not (inr more))))

-- words that don't read the source: those of `resume`, or of `demo`
pub first-other : (r : Option Command) (words : List (List ℕ)) → (IsNone r → ⊥) → (IsNone r ↔ (IsSomeResume words → ⊥)) → (IsNone r ↔ (IsSomeResume words ⊎ IsSomeDemo words → ⊥))
first-other r words some none = ((λ e. absurd (some e)), (λ other. none.1 (λ h. other (inl h))))

pub second-other : (r : Option Command) (words : List (List ℕ)) → (IsSomeResume words → ⊥) → (IsNone r ↔ (IsSomeDemo words → ⊥)) → (IsNone r ↔ (IsSomeResume words ⊎ IsSomeDemo words → ⊥))
second-other r words not none =
    ((λ e set. elim set [ inl resume ↦ not resume | inr demo ↦ none.0 e demo ]), (λ other. none.1 (λ h. other (inr h))))

pub as_demo : (k : Command) (seed size : ℕ) (words : List (List ℕ)) → k ≡ Demo seed size → IsOfCommand k words → IsDemo words seed size
as_demo k seed size words is found = subst (λ (j : Command). IsOfCommand j words) is found

module _ {A : Type 0} (f : A → List ℕ) where
  -- a word by its position
  word-at : (xs : List A) (ys : List (List ℕ)) (k : ℕ) (x : A) → map f xs ≡ ys → k < length xs → x ≡ get_or xs k x → f x ≡ get_or ys k []
  word-at xs ys k x e within is = ap f is ∙ sym (get_or-map f xs k x [] within) ∙ ap (λ (l : List (List ℕ)). get_or l k []) e

  -- four words
  four : (xs : List A) (a b c d : A) → length xs ≡ 4 → a ≡ get_or xs 0 a → b ≡ get_or xs 1 b → c ≡ get_or xs 2 c → d ≡ get_or xs 3 d
      → map f xs ≡ f a ∷ f b ∷ f c ∷ f d ∷ []
  four [] a b c d len ea eb ec ed = absurd (omega (arith, len))
  four (p ∷ []) a b c d len ea eb ec ed = absurd (omega (arith, len))
  four (p ∷ q ∷ []) a b c d len ea eb ec ed = absurd (omega (arith, len))
  four (p ∷ q ∷ r ∷ []) a b c d len ea eb ec ed = absurd (omega (arith, len))
  four (p ∷ q ∷ r ∷ s ∷ []) a b c d len ea eb ec ed = λ i. f (sym ea i) ∷ f (sym eb i) ∷ f (sym ec i) ∷ f (sym ed i) ∷ []
  four (p ∷ q ∷ r ∷ s ∷ t ∷ xs) a b c d len ea eb ec ed = absurd (omega (arith, len))

  -- they are those of `resume`
  pub resumes : (xs : List A) (a b c d : A) (name : List ℕ) (until : ℕ) → length xs ≡ 4 → a ≡ get_or xs 0 a → b ≡ get_or xs 1 b → c ≡ get_or xs 2 c → d ≡ get_or xs 3 d
      → f a ≡ codes "resume" → name ≡ f b → is_file_name (f b) ≡ true → f c ≡ codes "--until" → f d ≡ decimal until → until ≤ most_cycles
      → IsResume (map f xs) name until
  resumes xs a b c d name until len ea eb ec ed first named is option number within = record {
    spelled = four xs a b c d len ea eb ec ed
        ∙ (λ i. first i ∷ sym named i ∷ option i ∷ number i ∷ []);
    named = ap is_file_name named ∙ is;
    within = within;
  }

  -- words of `resume` are four, each of its form
  pub resume-four : (xs : List A) → IsSomeResume (map f xs) → length xs ≡ 4
  resume-four xs h = sym (length-map xs f) ∙ ap length h.2.spelled

  pub resume-first : (xs : List A) (x : A) → IsSomeResume (map f xs) → x ≡ get_or xs 0 x → f x ≡ codes "resume"
  resume-first xs x h is = let len = resume-four xs h in word-at xs _ 0 x h.2.spelled (omega (arith, len)) is

  pub resume-option : (xs : List A) (x : A) → IsSomeResume (map f xs) → x ≡ get_or xs 2 x → f x ≡ codes "--until"
  resume-option xs x h is = let len = resume-four xs h in word-at xs _ 2 x h.2.spelled (omega (arith, len)) is

  pub resume-name : (xs : List A) (x : A) → IsSomeResume (map f xs) → x ≡ get_or xs 1 x → is_file_name (f x) ≡ true
  resume-name xs x h is = let len = resume-four xs h in ap is_file_name (word-at xs _ 1 x h.2.spelled (omega (arith, len)) is) ∙ h.2.named

  pub resume-until : (xs : List A) (x : A) (h : IsSomeResume (map f xs)) → x ≡ get_or xs 3 x → f x ≡ decimal h.1
  resume-until xs x h is = let len = resume-four xs h in word-at xs _ 3 x h.2.spelled (omega (arith, len)) is

  -- three words
  three : (xs : List A) (a b c : A) → length xs ≡ 3 → a ≡ get_or xs 0 a → b ≡ get_or xs 1 b → c ≡ get_or xs 2 c → map f xs ≡ f a ∷ f b ∷ f c ∷ []
  three [] a b c len ea eb ec = absurd (omega (arith, len))
  three (p ∷ []) a b c len ea eb ec = absurd (omega (arith, len))
  three (p ∷ q ∷ []) a b c len ea eb ec = absurd (omega (arith, len))
  three (p ∷ q ∷ r ∷ []) a b c len ea eb ec = λ i. f (sym ea i) ∷ f (sym eb i) ∷ f (sym ec i) ∷ []
  three (p ∷ q ∷ r ∷ s ∷ xs) a b c len ea eb ec = absurd (omega (arith, len))

  -- they are those of `demo`
  pub demos : (xs : List A) (a b c : A) (seed size : ℕ) → length xs ≡ 3 → a ≡ get_or xs 0 a → b ≡ get_or xs 1 b → c ≡ get_or xs 2 c
      → f a ≡ codes "demo" → f b ≡ decimal seed → seed ≤ most_seed → f c ≡ decimal size → 1 ≤ size → size ≤ most_size
      → IsDemo (map f xs) seed size
  demos xs a b c seed size len ea eb ec first second seeds third some few = record {
    spelled = three xs a b c len ea eb ec ∙ (λ i. first i ∷ second i ∷ third i ∷ []);
    seed_within = seeds;
    some = some;
    size_within = few;
  }

  -- words of `demo` are three, each of its form
  pub demo-three : (xs : List A) → IsSomeDemo (map f xs) → length xs ≡ 3
  demo-three xs h = sym (length-map xs f) ∙ ap length h.2.spelled

  pub demo-first : (xs : List A) (x : A) → IsSomeDemo (map f xs) → x ≡ get_or xs 0 x → f x ≡ codes "demo"
  demo-first xs x h is = let len = demo-three xs h in word-at xs _ 0 x h.2.spelled (omega (arith, len)) is

  pub demo-seed : (xs : List A) (x : A) (h : IsSomeDemo (map f xs)) → x ≡ get_or xs 1 x → f x ≡ decimal h.0
  demo-seed xs x h is = let len = demo-three xs h in word-at xs _ 1 x h.2.spelled (omega (arith, len)) is

  pub demo-size : (xs : List A) (x : A) (h : IsSomeDemo (map f xs)) → x ≡ get_or xs 2 x → f x ≡ decimal h.1
  demo-size xs x h is = let len = demo-three xs h in word-at xs _ 2 x h.2.spelled (omega (arith, len)) is
