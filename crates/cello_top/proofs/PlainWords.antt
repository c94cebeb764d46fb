-- Words of `run` and `restart`, and what they ask for without workers.
use Rattle.std.proofs.Common.{◌≡◌, ◌≤◌, ℕ, List, [], ◌∷◌, refl, ap, ◌∙◌}
use Rattle.std.specs.Prelude.{Bool, true, false, ◌&&◌, codes, decimal}
use Rattle.std.proofs.lemmas.Bool.{false≢true}
use Rattle.cello_top.specs.Words.{IsResume, IsSolo}
use Rattle.cello_top.specs.WorkerWords.{IsRestart, IsRun, is_workers, plain_words, until_first, workers_first}
use Rattle.cello_top.proofs.WorkerNumbers.{spells-one}
use Rattle.cello_top.proofs.WorkerAsking.{plain-first, plain-run, plain-second}

number : (n : ℕ) → 1 ≤ n → n ≤ 16 → is_workers (decimal n) ≡ true
number n some within = spells-one 16 n (decimal n) some within refl

both-true : (a b : Bool) → a ≡ true → b ≡ true → (a && b) ≡ true
both-true true b e f = f
both-true false b e f = absurd (false≢true e)

-- `run` asks for `solo`
pub run-plain : (words : List (List ℕ)) (n : ℕ) → IsRun words n → IsSolo (plain_words words)
run-plain words n is = ap plain_words is.spelled ∙ plain-run (codes "run" ∷ codes "--workers" ∷ decimal n ∷ []) (number n is.some is.within)

-- `restart` asks for `resume`
pub restart-plain : (words : List (List ℕ)) (name : List ℕ) (until n : ℕ) → IsRestart words name until n → IsResume (plain_words words) name until
restart-plain words name until n is = record {
  spelled = elim is.spelled [
    | workers_first e ↦ ap plain_words e ∙ plain-first (codes "restart" ∷ name ∷ codes "--workers" ∷ decimal n ∷ codes "--until" ∷ decimal until ∷ []) refl (both-true (is_workers (decimal n)) true (number n is.some is.within) refl)
    | until_first e ↦ ap plain_words e ∙ plain-second (codes "restart" ∷ name ∷ codes "--until" ∷ decimal until ∷ codes "--workers" ∷ decimal n ∷ []) refl refl (both-true (is_workers (decimal n)) true (number n is.some is.within) refl)
  ];
  named = is.named;
  within = is.until_within;
}
