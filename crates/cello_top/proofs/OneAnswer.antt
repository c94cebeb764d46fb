-- There is one answer to the same words, bytes and past files.
use Rattle.std.proofs.Common.{◌≡◌, ℕ, ◌≤◌, List, [], Option, None, Some, Result, Ok, Err, get_or, length, take, refl, sym, ap, ◌∙◌, subst, arith, inl, inr}
use Rattle.std.specs.Option.{option_map}
use Rattle.std.proofs.lemmas.Fmt.{decimal_injective}
use Rattle.std.proofs.lemmas.Option.{none-some, same_Some}
use Rattle.cello_io.specs.Files.{PastFiles}
use Rattle.checkpoint.specs.declared.fault.CheckFault.{CheckFault}
use Rattle.checkpoint.specs.Reading.{ReadsAs}
use Rattle.checkpoint.specs.SavedStates.{SavedState}
use Rattle.params_check.specs.Parameters.{Parameters}
use Rattle.roomy_runs.specs.Summaries.{IsSummary}
use Rattle.restart_laws.specs.Resumes.{StandsFor, fetch_limit, resumed}
use Rattle.run_core.specs.declared.fault.RunFault.{RunFault}
use Rattle.run_core.specs.Courses.{Course, RunState, whole}
use Rattle.run_core.specs.Runs.{RunEnds, after_all, at_limit, MeetsNoLimit}
use Rattle.run_core.proofs.OneRun.{RunEnds-state, RunEnds-limit}
use Rattle.cello_top.specs.declared.fault.Fault.TheVariants.{Absent, Checkpoint}
use Rattle.cello_top.specs.Words.{IsSolo, IsCheck, IsDemo, IsResume, ReadsSource}
use Rattle.cello_top.specs.Faults.{fault_of}
use Rattle.cello_top.specs.Texts.{HasParameters}
use Rattle.cello_top.specs.Answers.{Answer, IsAnswer, other_words, other_text, checked, run, no_file, other_file, gone_on, demonstrated, run_answer, text_answer, summary_answer, resumed_answer, refusal}
use Rattle.cello_top.proofs.Texts.{HasParameters-one, HasTextFault-one, accepted_or_faulty}

-- a run has one answer
run_answer-one : (p : Parameters) (s t : RunState) (a b : Option RunFault) → RunEnds (whole p) s a → RunEnds (whole p) t b → run_answer p s a ≡ run_answer p t b
run_answer-one p s t a b x y =
    ap (λ (u : RunState). run_answer p u a) (RunEnds-state (whole p) s t a b x y) ∙ ap (run_answer p t) (RunEnds-limit (whole p) s t a b x y)

resumed_answer-one : (s : SavedState) (until : ℕ) (t u : RunState) (a b : Option RunFault) → RunEnds (resumed s until) t a → RunEnds (resumed s until) u b
    → resumed_answer s t a ≡ resumed_answer s u b
resumed_answer-one s until t u a b x y =
    ap (λ (v : RunState). resumed_answer s v a) (RunEnds-state (resumed s until) t u a b x y) ∙ ap (resumed_answer s u) (RunEnds-limit (resumed s until) t u a b x y)

-- words are of one command
pub solo_or_check : (words : List (List ℕ)) → IsSolo words → IsCheck words → ⊥
solo_or_check words solo check = absurd cc

-- words of `resume` are of no command that reads the source
pub resume_or_source : (words : List (List ℕ)) (name : List ℕ) (until : ℕ) → IsResume words name until → ReadsSource words → ⊥
resume_or_source words name until is (inl solo) =
    let four : length words ≡ 4 = ap (λ (l : List (List ℕ)). length l) is.spelled in
    let one : length words ≡ 1 = ap (λ (l : List (List ℕ)). length l) solo in
    omega (arith, four, one)
resume_or_source words name until is (inr check) =
    let four : length words ≡ 4 = ap (λ (l : List (List ℕ)). length l) is.spelled in
    let one : length words ≡ 1 = ap (λ (l : List (List ℕ)). length l) check in
    omega (arith, four, one)

-- words of `demo` are of no other command
pub demo_or_source : (words : List (List ℕ)) (seed size : ℕ) → IsDemo words seed size → ReadsSource words → ⊥
demo_or_source words seed size is (inl solo) =
    let three : length words ≡ 3 = ap (λ (l : List (List ℕ)). length l) is.spelled in
    let one : length words ≡ 1 = ap (λ (l : List (List ℕ)). length l) solo in
    omega (arith, three, one)
demo_or_source words seed size is (inr check) =
    let three : length words ≡ 3 = ap (λ (l : List (List ℕ)). length l) is.spelled in
    let one : length words ≡ 1 = ap (λ (l : List (List ℕ)). length l) check in
    omega (arith, three, one)

pub demo_or_resume : (words : List (List ℕ)) (seed size : ℕ) (name : List ℕ) (until : ℕ) → IsDemo words seed size → IsResume words name until → ⊥
demo_or_resume words seed size name until is resume =
    let three : length words ≡ 3 = ap (λ (l : List (List ℕ)). length l) is.spelled in
    let four : length words ≡ 4 = ap (λ (l : List (List ℕ)). length l) resume.spelled in
    omega (arith, three, four)

-- and of one seed and one size
pub demo-seed : (words : List (List ℕ)) (s t n m : ℕ) → IsDemo words s n → IsDemo words t m → s ≡ t
demo-seed words s t n m a b =
    let few : s ≤ 65535 = a.seed_within in
    let small : t ≤ 65535 = b.seed_within in
    decimal_injective s t (omega (arith, few)) (omega (arith, small)) (ap (λ (l : List (List ℕ)). get_or l 1 []) (sym a.spelled ∙ b.spelled))

pub demo-size : (words : List (List ℕ)) (s t n m : ℕ) → IsDemo words s n → IsDemo words t m → n ≡ m
demo-size words s t n m a b =
    let few : n ≤ 4 = a.size_within in
    let small : m ≤ 4 = b.size_within in
    decimal_injective n m (omega (arith, few)) (omega (arith, small)) (ap (λ (l : List (List ℕ)). get_or l 2 []) (sym a.spelled ∙ b.spelled))

-- what holds of the seed and the size that words name
pub demo-same : (words : List (List ℕ)) (s n t m : ℕ) (P : ℕ → ℕ → Type 0) → IsDemo words s n → IsDemo words t m → P s n → P t m
demo-same words s n t m P a b h = subst (λ k. P t k) (demo-size words s t n m a b) (subst (λ k. P k n) (demo-seed words s t n m a b) h)

-- and of one file and one cycle
pub resume-name : (words : List (List ℕ)) (n m : List ℕ) (u v : ℕ) → IsResume words n u → IsResume words m v → n ≡ m
resume-name words n m u v a b = ap (λ (l : List (List ℕ)). get_or l 1 []) (sym a.spelled ∙ b.spelled)

pub resume-until : (words : List (List ℕ)) (n m : List ℕ) (u v : ℕ) → IsResume words n u → IsResume words m v → u ≡ v
resume-until words n m u v a b =
    let few : u ≤ 4096 = a.within in
    let small : v ≤ 4096 = b.within in
    decimal_injective u v (omega (arith, few)) (omega (arith, small)) (ap (λ (l : List (List ℕ)). get_or l 3 []) (sym a.spelled ∙ b.spelled))

-- what holds of the file and the cycle that words name
pub resume-same : (words : List (List ℕ)) (n m : List ℕ) (u v : ℕ) (P : List ℕ → ℕ → Type 0) → IsResume words n u → IsResume words m v → P n u → P m v
resume-same words n m u v P a b h =
    subst (λ x. P m x) (resume-until words n m u v a b) (subst (λ (x : List ℕ). P x u) (resume-name words n m u v a b) h)

-- a past file by its name
past-same : (past : PastFiles) (n m file : List ℕ) → n ≡ m → past n ≡ Some file → past m ≡ Some file
past-same past n m file same is = subst (λ (x : List ℕ). past x ≡ Some file) same is

none-same : (past : PastFiles) (n m : List ℕ) → n ≡ m → past n ≡ None → past m ≡ None
none-same past n m same is = subst (λ (x : List ℕ). past x ≡ None) same is

-- a run that meets no limit ends by none
pub unlimited : (c : Course) (s : RunState) (limit : Option RunFault) → RunEnds c s limit → MeetsNoLimit c → limit ≡ None
unlimited c s limit (after_all runs is) free = is
unlimited c s limit (at_limit phases f below runs passes is) free = absurd (free phases s f below runs passes)

state_is : (r : Result SavedState CheckFault) (s t : SavedState) → r ≡ Ok s → r ≡ Ok t → s ≡ t
state_is r s t e h = cc

fault_is : (r : Result SavedState CheckFault) (f g : CheckFault) → r ≡ Err f → r ≡ Err g → f ≡ g
fault_is r f g e h = cc

not_both : (r : Result SavedState CheckFault) (s : SavedState) (f : CheckFault) → r ≡ Ok s → r ≡ Err f → ⊥
not_both r s f e h = cc

-- the bytes of a file stand for one thing
module _ (one : (bytes : List ℕ) (r q : Result SavedState CheckFault) → ReadsAs bytes r → ReadsAs bytes q → r ≡ q) where
  pub state-one : (bytes : List ℕ) (s t : SavedState) → ReadsAs bytes (Ok s) → ReadsAs bytes (Ok t) → s ≡ t
  state-one bytes s t a b = state_is (Ok s) s t refl (one bytes (Ok s) (Ok t) a b)

  pub state_or_fault : (bytes : List ℕ) (s : SavedState) (f : CheckFault) → ReadsAs bytes (Ok s) → ReadsAs bytes (Err f) → ⊥
  state_or_fault bytes s f a b = not_both (Ok s) s f refl (one bytes (Ok s) (Err f) a b)

  -- so there is one answer to `resume`
  module _ (words : List (List ℕ)) (past : PastFiles) (n m : List ℕ) (u v : ℕ) (x : IsResume words n u) (y : IsResume words m v) where
    same_name : n ≡ m
    same_name = resume-name words n m u v x y

    same_file : (file other : List ℕ) → past n ≡ Some file → past m ≡ Some other → file ≡ other
    same_file file other a b = same_Some file other (sym (past-same past n m file same_name a) ∙ b)

    file_or_none : (file : List ℕ) → past n ≡ None → past m ≡ Some file → ⊥
    file_or_none file a b = none-some file (sym (none-same past n m same_name a) ∙ b)

    at_same : (file other : List ℕ) (r : Result SavedState CheckFault) → past n ≡ Some file → past m ≡ Some other → StandsFor file r → StandsFor other r
    at_same file other r a b h = subst (λ (l : List ℕ). StandsFor l r) (same_file file other a b) h

    fault-one : (file other : List ℕ) (f g : CheckFault) → past n ≡ Some file → past m ≡ Some other → StandsFor file (Err f) → StandsFor other (Err g) → f ≡ g
    fault-one file other f g a b h k = fault_is (Err f) f g refl (one (take fetch_limit other) (Err f) (Err g) (at_same file other (Err f) a b h) k)

    file_or_fault : (file other : List ℕ) (s : SavedState) (f : CheckFault) → past n ≡ Some file → past m ≡ Some other → StandsFor file (Ok s) → StandsFor other (Err f) → ⊥
    file_or_fault file other s f a b h k = state_or_fault (take fetch_limit other) s f (at_same file other (Ok s) a b h) k

    run-one : (file other : List ℕ) (s t : SavedState) (a b : RunState) (l k : Option RunFault) → past n ≡ Some file → past m ≡ Some other
        → StandsFor file (Ok s) → StandsFor other (Ok t) → RunEnds (resumed s u) a l → RunEnds (resumed t v) b k → resumed_answer s a l ≡ resumed_answer t b k
    run-one file other s t a b l k at also h g ends stops =
        let same : s ≡ t = state-one (take fetch_limit other) s t (at_same file other (Ok s) at also h) g in
        let until : u ≡ v = resume-until words n m u v x y in
        let first : RunEnds (resumed t v) a l =
        subst (λ j. RunEnds (resumed t j) a l) until (subst (λ (z : SavedState). RunEnds (resumed z u) a l) same ends) in
        ap (λ (z : SavedState). resumed_answer z a l) same ∙ resumed_answer-one t v a b l k first stops

  -- and one to `demo`
  module _ (sums : (seed size : ℕ) (bytes others : List ℕ) → IsSummary seed size bytes → IsSummary seed size others → bytes ≡ others) where
    summary-one : (words : List (List ℕ)) (seed size seeds sizes : ℕ) (bytes others : List ℕ) → IsDemo words seed size → IsDemo words seeds sizes
        → IsSummary seed size bytes → IsSummary seeds sizes others → bytes ≡ others
    summary-one words seed size seeds sizes bytes others x y a b = sums seeds sizes bytes others (demo-same words seed size seeds sizes (λ n k. IsSummary n k bytes) x y a) b

    pub IsAnswer-one : (words : List (List ℕ)) (bytes : List ℕ) (past : PastFiles) (a b : Answer) → IsAnswer words bytes past a → IsAnswer words bytes past b → a ≡ b
    IsAnswer-one words bytes past a b (other_words other1 e) (other_words other2 h) = e ∙ sym h
    IsAnswer-one words bytes past a b (other_words other1 e) (other_text g set2 faulty2 h) = absurd (other1 (inl set2))
    IsAnswer-one words bytes past a b (other_words other1 e) (checked q check2 has2 h) = absurd (other1 (inl (inr check2)))
    IsAnswer-one words bytes past a b (other_words other1 e) (run q z k solo2 has2 ends2 h) = absurd (other1 (inl (inl solo2)))
    IsAnswer-one words bytes past a b (other_words other1 e) (no_file m v is2 none2 h) = absurd (other1 (inr (inl (m, v, is2))))
    IsAnswer-one words bytes past a b (other_words other1 e) (other_file m v file2 g is2 at2 stands2 h) = absurd (other1 (inr (inl (m, v, is2))))
    IsAnswer-one words bytes past a b (other_words other1 e) (gone_on m v file2 z w k is2 at2 stands2 ends2 h) = absurd (other1 (inr (inl (m, v, is2))))
    IsAnswer-one words bytes past a b (other_text f set1 faulty1 e) (other_words other2 h) = absurd (other2 (inl set1))
    IsAnswer-one words bytes past a b (other_text f set1 faulty1 e) (other_text g set2 faulty2 h) = e ∙ ap refusal (HasTextFault-one bytes f g faulty1 faulty2) ∙ sym h
    IsAnswer-one words bytes past a b (other_text f set1 faulty1 e) (checked q check2 has2 h) = absurd (accepted_or_faulty bytes q f has2 faulty1)
    IsAnswer-one words bytes past a b (other_text f set1 faulty1 e) (run q z k solo2 has2 ends2 h) = absurd (accepted_or_faulty bytes q f has2 faulty1)
    IsAnswer-one words bytes past a b (other_text f set1 faulty1 e) (no_file m v is2 none2 h) = absurd (resume_or_source words m v is2 set1)
    IsAnswer-one words bytes past a b (other_text f set1 faulty1 e) (other_file m v file2 g is2 at2 stands2 h) = absurd (resume_or_source words m v is2 set1)
    IsAnswer-one words bytes past a b (other_text f set1 faulty1 e) (gone_on m v file2 z w k is2 at2 stands2 ends2 h) = absurd (resume_or_source words m v is2 set1)
    IsAnswer-one words bytes past a b (checked p check1 has1 e) (other_words other2 h) = absurd (other2 (inl (inr check1)))
    IsAnswer-one words bytes past a b (checked p check1 has1 e) (other_text g set2 faulty2 h) = absurd (accepted_or_faulty bytes p g has1 faulty2)
    IsAnswer-one words bytes past a b (checked p check1 has1 e) (checked q check2 has2 h) = e ∙ ap text_answer (HasParameters-one bytes p q has1 has2) ∙ sym h
    IsAnswer-one words bytes past a b (checked p check1 has1 e) (run q z k solo2 has2 ends2 h) = absurd (solo_or_check words solo2 check1)
    IsAnswer-one words bytes past a b (checked p check1 has1 e) (no_file m v is2 none2 h) = absurd (resume_or_source words m v is2 (inr check1))
    IsAnswer-one words bytes past a b (checked p check1 has1 e) (other_file m v file2 g is2 at2 stands2 h) = absurd (resume_or_source words m v is2 (inr check1))
    IsAnswer-one words bytes past a b (checked p check1 has1 e) (gone_on m v file2 z w k is2 at2 stands2 ends2 h) = absurd (resume_or_source words m v is2 (inr check1))
    IsAnswer-one words bytes past a b (run p s l solo1 has1 ends1 e) (other_words other2 h) = absurd (other2 (inl (inl solo1)))
    IsAnswer-one words bytes past a b (run p s l solo1 has1 ends1 e) (other_text g set2 faulty2 h) = absurd (accepted_or_faulty bytes p g has1 faulty2)
    IsAnswer-one words bytes past a b (run p s l solo1 has1 ends1 e) (checked q check2 has2 h) = absurd (solo_or_check words solo1 check2)
    IsAnswer-one words bytes past a b (run p s l solo1 has1 ends1 e) (run q z k solo2 has2 ends2 h) =
        let same : q ≡ p = HasParameters-one bytes q p has2 has1 in
        e ∙ run_answer-one p s z l k ends1 (subst (λ (x : Parameters). RunEnds (whole x) z k) same ends2)
        ∙ ap (λ (x : Parameters). run_answer x z k) (sym same) ∙ sym h
    IsAnswer-one words bytes past a b (run p s l solo1 has1 ends1 e) (no_file m v is2 none2 h) = absurd (resume_or_source words m v is2 (inl solo1))
    IsAnswer-one words bytes past a b (run p s l solo1 has1 ends1 e) (other_file m v file2 g is2 at2 stands2 h) = absurd (resume_or_source words m v is2 (inl solo1))
    IsAnswer-one words bytes past a b (run p s l solo1 has1 ends1 e) (gone_on m v file2 z w k is2 at2 stands2 ends2 h) = absurd (resume_or_source words m v is2 (inl solo1))
    IsAnswer-one words bytes past a b (no_file n u is1 none1 e) (other_words other2 h) = absurd (other2 (inr (inl (n, u, is1))))
    IsAnswer-one words bytes past a b (no_file n u is1 none1 e) (other_text g set2 faulty2 h) = absurd (resume_or_source words n u is1 set2)
    IsAnswer-one words bytes past a b (no_file n u is1 none1 e) (checked q check2 has2 h) = absurd (resume_or_source words n u is1 (inr check2))
    IsAnswer-one words bytes past a b (no_file n u is1 none1 e) (run q z k solo2 has2 ends2 h) = absurd (resume_or_source words n u is1 (inl solo2))
    IsAnswer-one words bytes past a b (no_file n u is1 none1 e) (no_file m v is2 none2 h) = e ∙ ap (λ (x : List ℕ). refusal (Absent x)) (resume-name words n m u v is1 is2) ∙ sym h
    IsAnswer-one words bytes past a b (no_file n u is1 none1 e) (other_file m v file2 g is2 at2 stands2 h) = absurd (file_or_none words past n m u v is1 is2 file2 none1 at2)
    IsAnswer-one words bytes past a b (no_file n u is1 none1 e) (gone_on m v file2 z w k is2 at2 stands2 ends2 h) = absurd (file_or_none words past n m u v is1 is2 file2 none1 at2)
    IsAnswer-one words bytes past a b (other_file n u file1 f is1 at1 stands1 e) (other_words other2 h) = absurd (other2 (inr (inl (n, u, is1))))
    IsAnswer-one words bytes past a b (other_file n u file1 f is1 at1 stands1 e) (other_text g set2 faulty2 h) = absurd (resume_or_source words n u is1 set2)
    IsAnswer-one words bytes past a b (other_file n u file1 f is1 at1 stands1 e) (checked q check2 has2 h) = absurd (resume_or_source words n u is1 (inr check2))
    IsAnswer-one words bytes past a b (other_file n u file1 f is1 at1 stands1 e) (run q z k solo2 has2 ends2 h) = absurd (resume_or_source words n u is1 (inl solo2))
    IsAnswer-one words bytes past a b (other_file n u file1 f is1 at1 stands1 e) (no_file m v is2 none2 h) = absurd (file_or_none words past m n v u is2 is1 file1 none2 at1)
    IsAnswer-one words bytes past a b (other_file n u file1 f is1 at1 stands1 e) (other_file m v file2 g is2 at2 stands2 h) = e ∙ ap (λ (x : CheckFault). refusal (Checkpoint x)) (fault-one words past n m u v is1 is2 file1 file2 f g at1 at2 stands1 stands2) ∙ sym h
    IsAnswer-one words bytes past a b (other_file n u file1 f is1 at1 stands1 e) (gone_on m v file2 z w k is2 at2 stands2 ends2 h) = absurd (file_or_fault words past m n v u is2 is1 file2 file1 z f at2 at1 stands2 stands1)
    IsAnswer-one words bytes past a b (gone_on n u file1 s t l is1 at1 stands1 ends1 e) (other_words other2 h) = absurd (other2 (inr (inl (n, u, is1))))
    IsAnswer-one words bytes past a b (gone_on n u file1 s t l is1 at1 stands1 ends1 e) (other_text g set2 faulty2 h) = absurd (resume_or_source words n u is1 set2)
    IsAnswer-one words bytes past a b (gone_on n u file1 s t l is1 at1 stands1 ends1 e) (checked q check2 has2 h) = absurd (resume_or_source words n u is1 (inr check2))
    IsAnswer-one words bytes past a b (gone_on n u file1 s t l is1 at1 stands1 ends1 e) (run q z k solo2 has2 ends2 h) = absurd (resume_or_source words n u is1 (inl solo2))
    IsAnswer-one words bytes past a b (gone_on n u file1 s t l is1 at1 stands1 ends1 e) (no_file m v is2 none2 h) = absurd (file_or_none words past m n v u is2 is1 file1 none2 at1)
    IsAnswer-one words bytes past a b (gone_on n u file1 s t l is1 at1 stands1 ends1 e) (other_file m v file2 g is2 at2 stands2 h) = absurd (file_or_fault words past n m u v is1 is2 file1 file2 s g at1 at2 stands1 stands2)
    IsAnswer-one words bytes past a b (gone_on n u file1 s t l is1 at1 stands1 ends1 e) (gone_on m v file2 z w k is2 at2 stands2 ends2 h) = e ∙ run-one words past n m u v is1 is2 file1 file2 s z t w l k at1 at2 stands1 stands2 ends1 ends2 ∙ sym h
    IsAnswer-one words bytes past a b (other_words other1 e) (demonstrated sd2 z2 bs2 is2 sums2 h) = absurd (other1 (inr (inr (sd2, z2, is2))))
    IsAnswer-one words bytes past a b (other_text f set1 faulty1 e) (demonstrated sd2 z2 bs2 is2 sums2 h) = absurd (demo_or_source words sd2 z2 is2 set1)
    IsAnswer-one words bytes past a b (checked p check1 has1 e) (demonstrated sd2 z2 bs2 is2 sums2 h) = absurd (demo_or_source words sd2 z2 is2 (inr check1))
    IsAnswer-one words bytes past a b (run p s l solo1 has1 ends1 e) (demonstrated sd2 z2 bs2 is2 sums2 h) = absurd (demo_or_source words sd2 z2 is2 (inl solo1))
    IsAnswer-one words bytes past a b (no_file n u is1 none1 e) (demonstrated sd2 z2 bs2 is2 sums2 h) = absurd (demo_or_resume words sd2 z2 n u is2 is1)
    IsAnswer-one words bytes past a b (other_file n u file1 f is1 at1 stands1 e) (demonstrated sd2 z2 bs2 is2 sums2 h) = absurd (demo_or_resume words sd2 z2 n u is2 is1)
    IsAnswer-one words bytes past a b (gone_on n u file1 s t l is1 at1 stands1 ends1 e) (demonstrated sd2 z2 bs2 is2 sums2 h) = absurd (demo_or_resume words sd2 z2 n u is2 is1)
    IsAnswer-one words bytes past a b (demonstrated sd z bs is1 sums1 e) (other_words other2 h) = absurd (other2 (inr (inr (sd, z, is1))))
    IsAnswer-one words bytes past a b (demonstrated sd z bs is1 sums1 e) (other_text g set2 faulty2 h) = absurd (demo_or_source words sd z is1 set2)
    IsAnswer-one words bytes past a b (demonstrated sd z bs is1 sums1 e) (checked q check2 has2 h) = absurd (demo_or_source words sd z is1 (inr check2))
    IsAnswer-one words bytes past a b (demonstrated sd z bs is1 sums1 e) (run q r k solo2 has2 ends2 h) = absurd (demo_or_source words sd z is1 (inl solo2))
    IsAnswer-one words bytes past a b (demonstrated sd z bs is1 sums1 e) (no_file m v is2 none2 h) = absurd (demo_or_resume words sd z m v is1 is2)
    IsAnswer-one words bytes past a b (demonstrated sd z bs is1 sums1 e) (other_file m v file2 g is2 at2 stands2 h) = absurd (demo_or_resume words sd z m v is1 is2)
    IsAnswer-one words bytes past a b (demonstrated sd z bs is1 sums1 e) (gone_on m v file2 r w k is2 at2 stands2 ends2 h) = absurd (demo_or_resume words sd z m v is1 is2)
    IsAnswer-one words bytes past a b (demonstrated sd z bs is1 sums1 e) (demonstrated sd2 z2 bs2 is2 sums2 h) = e ∙ ap summary_answer (summary-one words sd z sd2 z2 bs bs2 is1 is2 sums1 sums2) ∙ sym h

-- where a run meets no limit, the answer has no fault
pub completes : (words : List (List ℕ)) (bytes : List ℕ) (past : PastFiles) (a : Answer) (p : Parameters) → IsSolo words → HasParameters bytes p → MeetsNoLimit (whole p)
    → IsAnswer words bytes past a → a.fault ≡ None
completes words bytes past a p solo has free (other_words other e) = absurd (other (inl (inl solo)))
completes words bytes past a p solo has free (other_text f set faulty e) = absurd (accepted_or_faulty bytes p f has faulty)
completes words bytes past a p solo has free (checked q check too e) = absurd (solo_or_check words solo check)
completes words bytes past a p solo has free (run q s limit again too ends e) =
    ap (λ (x : Answer). x.fault) e
    ∙ ap (λ (l : Option RunFault). option_map fault_of l)
    (unlimited (whole q) s limit ends (subst (λ (x : Parameters). MeetsNoLimit (whole x)) (HasParameters-one bytes p q has too) free))
completes words bytes past a p solo has free (no_file n u is none e) = absurd (resume_or_source words n u is (inl solo))
completes words bytes past a p solo has free (other_file n u file f is at stands e) = absurd (resume_or_source words n u is (inl solo))
completes words bytes past a p solo has free (gone_on n u file s t l is at stands ends e) = absurd (resume_or_source words n u is (inl solo))
completes words bytes past a p solo has free (demonstrated seed size bs is sums e) = absurd (demo_or_source words seed size is (inl solo))

-- the canonical text of parameters is answered without a fault
pub completes_check : (words : List (List ℕ)) (bytes : List ℕ) (past : PastFiles) (a : Answer) (p : Parameters) → IsCheck words → HasParameters bytes p
    → IsAnswer words bytes past a → a.fault ≡ None
completes_check words bytes past a p check has (other_words other e) = absurd (other (inl (inr check)))
completes_check words bytes past a p check has (other_text f set faulty e) = absurd (accepted_or_faulty bytes p f has faulty)
completes_check words bytes past a p check has (checked q too got e) = ap (λ (x : Answer). x.fault) e
completes_check words bytes past a p check has (run q s limit solo too ends e) = absurd (solo_or_check words solo check)
completes_check words bytes past a p check has (no_file n u is none e) = absurd (resume_or_source words n u is (inr check))
completes_check words bytes past a p check has (other_file n u file f is at stands e) = absurd (resume_or_source words n u is (inr check))
completes_check words bytes past a p check has (gone_on n u file s t l is at stands ends e) = absurd (resume_or_source words n u is (inr check))
completes_check words bytes past a p check has (demonstrated seed size bs is sums e) = absurd (demo_or_source words seed size is (inr check))
