-- There is an answer to all words, bytes and past files.
use Rattle.std.proofs.Common.{◌≡◌, ℕ, zero, suc, ◌≤◌, ◌<◌, List, [], ◌∷◌, Option, Some, None, Result, Ok, Err, All, length, get_or, take, refl, sym, ap, ◌∙◌, subst, arith, ◌⊎◌, inl, inr}
use Rattle.std.specs.Prelude.{Bool, true, codes, decimal}
use Rattle.std.proofs.lemmas.Bool.{cases_Bool, cases_eq, cases_lt, false≢true}
use Rattle.std.proofs.lemmas.Fmt.{decimal_injective}
use Rattle.std.proofs.lemmas.List.Elements.{All-take}
use Rattle.cello_io.specs.Files.{PastFiles}
use Rattle.checkpoint.specs.declared.fault.CheckFault.{CheckFault}
use Rattle.checkpoint.specs.Reading.{ReadsAs as FileReadsAs}
use Rattle.checkpoint.specs.SavedStates.{SavedState}
use Rattle.demo_params.specs.DemoTexts.{most_seed, most_size}
use Rattle.params_check.specs.Bounds.{most_cycles}
use Rattle.roomy_runs.specs.Summaries.{IsSummary}
use Rattle.restart_laws.specs.Resumes.{StandsFor, fetch_limit, resumed}
use Rattle.params_syntax.specs.declared.tree.Group.{Group}
use Rattle.params_syntax.specs.declared.fault.SyntaxFault.{SyntaxFault}
use Rattle.params_syntax.specs.Reading.{Spells, ReadsAs}
use Rattle.params_syntax.proofs.EachReads.{each_reads}
use Rattle.params_check.specs.declared.fault.ParamFault.{ParamFault}
use Rattle.params_check.specs.Parameters.{Parameters}
use Rattle.params_check.specs.Walks.{parameters_of}
use Rattle.params_check.proofs.NoFaults.{accepted-limits}
use Rattle.run_core.specs.Courses.{whole}
use Rattle.run_core.proofs.PhaseMeshes.{course-Tiles}
use Rattle.run_core.proofs.RunExists.{run_exists}
use Rattle.run_core.proofs.RunTotals.{whole-IsCourse}
use Rattle.cello_top.specs.declared.fault.Fault.{Fault}
use Rattle.cello_top.specs.declared.fault.Fault.TheVariants.{Absent, Checkpoint, Usage, Syntax, Param}
use Rattle.cello_top.specs.Words.{IsSolo, IsCheck, IsResume, IsSomeDemo, IsSomeResume, ReadsSource, is_file_name}
use Rattle.cello_top.specs.Texts.{HasParameters, HasTextFault, of_syntax, of_parameters}
use Rattle.cello_top.specs.Answers.{Answer, IsAnswer, other_words, other_text, checked, run, no_file, other_file, gone_on, demonstrated, refusal, run_answer, summary_answer, text_answer, resumed_answer}
use Rattle.cello_top.specs.Solo.{HoldBytes}
use Rattle.cello_top.proofs.Resumed.{resumed-IsCourse}

rest_of : {A : Type 0} → List A → List A
rest_of [] = []
rest_of (x ∷ xs) = xs

same_rest : {A : Type 0} (x y : A) (xs ys : List A) → x ∷ xs ≡ y ∷ ys → xs ≡ ys
unfolding rest_of
same_rest {A} x y xs ys e = let rest : List A → List A = rest_of in ap rest e

list_cases : {A : Type 0} → ((x y : A) → (x ≡ y) ⊎ (x ≡ y → ⊥)) → (xs ys : List A) → (xs ≡ ys) ⊎ (xs ≡ ys → ⊥)
list_cases each [] [] = inl refl
list_cases {A} each [] (y ∷ ys) = inr (λ e. omega (arith, ap (λ (l : List A). length l) e))
list_cases {A} each (x ∷ xs) [] = inr (λ e. omega (arith, ap (λ (l : List A). length l) e))
list_cases {A} each (x ∷ xs) (y ∷ ys) =
    elim (each x y) [
      | inr n ↦ inr (λ e. n (ap (λ (l : List A). get_or l 0 x) e))
      | inl first ↦
          elim (list_cases each xs ys) [
            | inr n ↦ inr (λ e. n (same_rest x y xs ys e))
            | inl rest ↦
                let front : A → List A = λ z. z ∷ xs in
                let put : List A → List A = λ zs. y ∷ zs in
                inl (ap front first ∙ ap put rest)
          ]
    ]

solo_cases : (words : List (List ℕ)) → IsSolo words ⊎ (IsSolo words → ⊥)
solo_cases words = list_cases (list_cases cases_eq) words (codes "solo" ∷ [])

check_cases : (words : List (List ℕ)) → IsCheck words ⊎ (IsCheck words → ⊥)
check_cases words = list_cases (list_cases cases_eq) words (codes "check" ∷ [])

-- a text has its parameters or its first fault
text_cases : (bytes : List ℕ) → ((p : Parameters) × HasParameters bytes p) ⊎ ((fault : Fault) × HasTextFault bytes fault)
text_cases bytes = go (each_reads bytes).0 (each_reads bytes).1
  where
    of : (groups : List Group) → Spells bytes groups → (r : Result Parameters ParamFault) → parameters_of groups ≡ r
        → ((p : Parameters) × HasParameters bytes p) ⊎ ((fault : Fault) × HasTextFault bytes fault)
    of groups spelled (Ok p) e = inl (p, record { groups = groups; spelled = spelled; accepted = e })
    of groups spelled (Err f) e = inr (Param f, of_parameters groups f spelled e refl)

    go : (r : Result (List Group) SyntaxFault) → ReadsAs bytes r → ((p : Parameters) × HasParameters bytes p) ⊎ ((fault : Fault) × HasTextFault bytes fault)
    go (Ok groups) spelled = of groups spelled (parameters_of groups) refl
    go (Err f) faulty = inr (Syntax f, of_syntax f faulty refl)

solo_answer : (words : List (List ℕ)) (bytes : List ℕ) (past : PastFiles) (p : Parameters) → IsSolo words → HasParameters bytes p
    → (a : Answer) × IsAnswer words bytes past a
solo_answer words bytes past p solo has =
    let limits = accepted-limits has.groups p has.spelled.limits has.accepted in
    let h = run_exists (whole p) (course-Tiles (whole p) (whole-IsCourse p limits)) in
    (run_answer p h.0 h.1, run p h.0 h.1 solo has h.2 refl)

-- there is an answer to the commands that read the source
pub text_answer_exists : (words : List (List ℕ)) (bytes : List ℕ) (past : PastFiles) → ReadsSource words → (a : Answer) × IsAnswer words bytes past a
text_answer_exists words bytes past (inl solo) =
    elim (text_cases bytes) [
      | inl h ↦ solo_answer words bytes past h.0 solo h.1
      | inr h ↦ (refusal h.0, other_text h.0 (inl solo) h.1 refl)
    ]
text_answer_exists words bytes past (inr check) =
    elim (text_cases bytes) [
      | inl h ↦ (text_answer h.0, checked h.0 check h.1 refl)
      | inr h ↦ (refusal h.0, other_text h.0 (inr check) h.1 refl)
    ]

-- ---- words of `resume`

-- one of the first numbers has a property, or none of them
some_below : (P : ℕ → Type 0) → ((n : ℕ) → P n ⊎ (P n → ⊥)) → (count : ℕ) → ((n : ℕ) × (n < count) × P n) ⊎ ((n : ℕ) → n < count → P n → ⊥)
some_below P each zero = inr (λ n h. absurd (omega (arith, h)))
some_below P each (suc count) =
    elim (some_below P each count) [
      | inl h ↦ let below = h.1 in inl (h.0, omega (arith, below), h.2)
      | inr none ↦
          elim (each count) [
            | inl is ↦ inl (count, omega arith, is)
            | inr not ↦
                inr (λ n h p.
                elim (cases_eq n count) [
                  | inl same ↦ not (subst P same p)
                  | inr other ↦ none n (omega (arith, h, other)) p
                ])
          ]
    ]

bytes_cases : (xs ys : List ℕ) → (xs ≡ ys) ⊎ (xs ≡ ys → ⊥)
bytes_cases xs ys = list_cases cases_eq xs ys

true_cases : (b : Bool) → (b ≡ true) ⊎ (b ≡ true → ⊥)
true_cases b =
    elim (cases_Bool b) [
      | inl is ↦ inl is
      | inr none ↦ inr (λ e. false≢true (sym none ∙ e))
    ]

-- a cycle's one spelling
cycle_within : (most : ℕ) (word : List ℕ) → ((n : ℕ) × (n ≤ most) × (word ≡ decimal n)) ⊎ ((n : ℕ) → n ≤ most → word ≡ decimal n → ⊥)
cycle_within most word =
    elim (some_below (λ n. word ≡ decimal n) (λ n. bytes_cases word (decimal n)) (suc most)) [
      | inl h ↦ let below = h.1 in inl (h.0, omega (arith, below), h.2)
      | inr none ↦ inr (λ n h e. none n (omega (arith, h)) e)
    ]

cycle_cases : (word : List ℕ) → ((n : ℕ) × (n ≤ most_cycles) × (word ≡ decimal n)) ⊎ ((n : ℕ) → n ≤ most_cycles → word ≡ decimal n → ⊥)
cycle_cases word = cycle_within most_cycles word

-- a list of another length isn't of four
module _ (words : List (List ℕ)) (h : IsSomeResume words) where
  pub has-four : length words ≡ 4
  has-four = ap (λ (l : List (List ℕ)). length l) h.2.spelled

  word_is : (k : ℕ) → get_or words k [] ≡ get_or (codes "resume" ∷ h.0 ∷ codes "--until" ∷ decimal h.1 ∷ []) k []
  word_is k = ap (λ (l : List (List ℕ)). get_or l k []) h.2.spelled

  pub first_is : get_or words 0 [] ≡ codes "resume"
  first_is = word_is 0

  pub name_is : is_file_name (get_or words 1 []) ≡ true
  name_is = ap is_file_name (word_is 1) ∙ h.2.named

  pub option_is : get_or words 2 [] ≡ codes "--until"
  option_is = word_is 2

  pub until_is : get_or words 3 [] ≡ decimal h.1
  until_is = word_is 3

-- four words are those of `resume`, or not
four_cases : (a b c d : List ℕ) → IsSomeResume (a ∷ b ∷ c ∷ d ∷ []) ⊎ (IsSomeResume (a ∷ b ∷ c ∷ d ∷ []) → ⊥)
four_cases a b c d =
    elim (bytes_cases a (codes "resume")) [
      | inr not ↦ inr (λ h. not (first_is (a ∷ b ∷ c ∷ d ∷ []) h))
      | inl first ↦
          elim (bytes_cases c (codes "--until")) [
            | inr not ↦ inr (λ h. not (option_is (a ∷ b ∷ c ∷ d ∷ []) h))
            | inl option ↦
                elim (true_cases (is_file_name b)) [
                  | inr not ↦ inr (λ h. not (name_is (a ∷ b ∷ c ∷ d ∷ []) h))
                  | inl named ↦
                      elim (cycle_cases d) [
                        | inr not ↦ inr (λ h. not h.1 h.2.within (until_is (a ∷ b ∷ c ∷ d ∷ []) h))
                        | inl until ↦
                            inl (
                              b,
                              until.0,
                              record {
                                spelled = λ i. first i ∷ b ∷ option i ∷ until.2 i ∷ [];
                                named = named;
                                within = until.1;
                              },
                            )
                      ]
                ]
          ]
    ]

pub resume_cases : (words : List (List ℕ)) → IsSomeResume words ⊎ (IsSomeResume words → ⊥)
resume_cases [] = inr (λ h. let four = has-four [] h in omega (arith, four))
resume_cases (a ∷ []) = inr (λ h. let four = has-four (a ∷ []) h in omega (arith, four))
resume_cases (a ∷ b ∷ []) = inr (λ h. let four = has-four (a ∷ b ∷ []) h in omega (arith, four))
resume_cases (a ∷ b ∷ c ∷ []) = inr (λ h. let four = has-four (a ∷ b ∷ c ∷ []) h in omega (arith, four))
resume_cases (a ∷ b ∷ c ∷ d ∷ []) = four_cases a b c d
resume_cases (a ∷ b ∷ c ∷ d ∷ e ∷ rest) = inr (λ h. let four = has-four (a ∷ b ∷ c ∷ d ∷ e ∷ rest) h in omega (arith, four))

-- ---- words of `demo`

-- a number's one spelling
module _ (words : List (List ℕ)) (h : IsSomeDemo words) where
  pub has-three : length words ≡ 3
  has-three = ap (λ (l : List (List ℕ)). length l) h.2.spelled

  demo_word : (k : ℕ) → get_or words k [] ≡ get_or (codes "demo" ∷ decimal h.0 ∷ decimal h.1 ∷ []) k []
  demo_word k = ap (λ (l : List (List ℕ)). get_or l k []) h.2.spelled

  pub demo_is : get_or words 0 [] ≡ codes "demo"
  demo_is = demo_word 0

  pub seed_is : get_or words 1 [] ≡ decimal h.0
  seed_is = demo_word 1

  pub size_is : get_or words 2 [] ≡ decimal h.1
  size_is = demo_word 2

-- three words are those of `demo`, or not
three_cases : (a b c : List ℕ) → IsSomeDemo (a ∷ b ∷ c ∷ []) ⊎ (IsSomeDemo (a ∷ b ∷ c ∷ []) → ⊥)
three_cases a b c =
    elim (bytes_cases a (codes "demo")) [
      | inr not ↦ inr (λ h. not (demo_is (a ∷ b ∷ c ∷ []) h))
      | inl first ↦
          elim (cycle_within most_seed b) [
            | inr not ↦ inr (λ h. not h.0 h.2.seed_within (seed_is (a ∷ b ∷ c ∷ []) h))
            | inl seed ↦
                elim (cycle_within most_size c) [
                  | inr not ↦ inr (λ h. not h.1 h.2.size_within (size_is (a ∷ b ∷ c ∷ []) h))
                  | inl size ↦ sized seed size first (cases_lt size.0 1)
                ]
          ]
    ]
  where
    sized : (seed : (n : ℕ) × (n ≤ most_seed) × (b ≡ decimal n)) (size : (n : ℕ) × (n ≤ most_size) × (c ≡ decimal n)) → a ≡ codes "demo"
        → (size.0 < 1) ⊎ (1 ≤ size.0) → IsSomeDemo (a ∷ b ∷ c ∷ []) ⊎ (IsSomeDemo (a ∷ b ∷ c ∷ []) → ⊥)
    sized seed size first (inr some) =
        inl (seed.0, size.0, record { spelled = λ i. first i ∷ seed.2 i ∷ size.2 i ∷ []; seed_within = seed.1; some = some; size_within = size.1 })
    sized seed size first (inl none) = inr (λ h.
        let few : size.0 ≤ 4 = size.1 in
        let small : h.1 ≤ 4 = h.2.size_within in
        let some = h.2.some in
        let same : size.0 ≡ h.1 = decimal_injective size.0 h.1 (omega (arith, few)) (omega (arith, small)) (sym size.2 ∙ size_is (a ∷ b ∷ c ∷ []) h) in
        omega (arith, same, some, none))

pub demo_cases : (words : List (List ℕ)) → IsSomeDemo words ⊎ (IsSomeDemo words → ⊥)
demo_cases [] = inr (λ h. let three = has-three [] h in omega (arith, three))
demo_cases (a ∷ []) = inr (λ h. let three = has-three (a ∷ []) h in omega (arith, three))
demo_cases (a ∷ b ∷ []) = inr (λ h. let three = has-three (a ∷ b ∷ []) h in omega (arith, three))
demo_cases (a ∷ b ∷ c ∷ []) = three_cases a b c
demo_cases (a ∷ b ∷ c ∷ d ∷ rest) = inr (λ h. let three = has-three (a ∷ b ∷ c ∷ d ∷ rest) h in omega (arith, three))

-- ---- what a file stands for

module _ (reads : (bytes : List ℕ) → All (λ b. b < 256) bytes → (r : Result SavedState CheckFault) × FileReadsAs bytes r)
    (sums : (seed size : ℕ) → seed ≤ most_seed → 1 ≤ size → size ≤ most_size → (bytes : List ℕ) × IsSummary seed size bytes)
    (words : List (List ℕ)) (bytes : List ℕ) (past : PastFiles) where
  resume_answer : (name : List ℕ) (until : ℕ) → IsResume words name until → HoldBytes past → (a : Answer) × IsAnswer words bytes past a
  resume_answer name until is hold = go (past name) refl
    where
      of : (file : List ℕ) → past name ≡ Some file → (r : Result SavedState CheckFault) → StandsFor file r → (a : Answer) × IsAnswer words bytes past a
      of file at (Ok s) stands =
          let h = run_exists (resumed s until) (course-Tiles (resumed s until) (resumed-IsCourse s until stands.0 is.within)) in
          (resumed_answer s h.0 h.1, gone_on name until file s h.0 h.1 is at stands h.2 refl)
      of file at (Err f) stands = (refusal (Checkpoint f), other_file name until file f is at stands refl)

      go : (found : Option (List ℕ)) → past name ≡ found → (a : Answer) × IsAnswer words bytes past a
      go None at = (refusal (Absent name), no_file name until is at refl)
      go (Some file) at =
          let h = reads (take fetch_limit file) (All-take (λ b. b < 256) fetch_limit file (hold name file at)) in
          of file at h.0 h.1

  pub answer_exists : (IsSomeResume words → HoldBytes past) → (a : Answer) × IsAnswer words bytes past a
  answer_exists hold =
      elim (resume_cases words) [
        | inl h ↦ resume_answer h.0 h.1 h.2 (hold h)
        | inr not_resume ↦
            elim (solo_cases words) [
              | inl solo ↦ text_answer_exists words bytes past (inl solo)
              | inr not_solo ↦
                  elim (check_cases words) [
                    | inl check ↦ text_answer_exists words bytes past (inr check)
                    | inr not_check ↦
                        elim (demo_cases words) [
                          | inl demo ↦
                              let s = sums demo.0 demo.1 demo.2.seed_within demo.2.some demo.2.size_within in
                              (summary_answer s.0, demonstrated demo.0 demo.1 s.0 demo.2 s.1 refl)
                          | inr not_demo ↦ (
                            refusal Usage,
                            other_words
                                (λ set. elim set [
                                  | inl source ↦ elim source [ inl solo ↦ not_solo solo | inr check ↦ not_check check ]
                                  | inr other ↦ elim other [ inl resume ↦ not_resume resume | inr demo ↦ not_demo demo ]
                                ])
                                refl,
                          )
                        ]
                  ]
            ]
      ]
