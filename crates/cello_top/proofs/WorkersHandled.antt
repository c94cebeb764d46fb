-- How many messages were handled, by the words that were asked.
use Rattle.std.proofs.Common.{◌≡◌, ℕ, List, Option, Some, None}
use Rattle.std.specs.Prelude.{IfSome}
use Rattle.params_check.specs.Parameters.{Parameters}
use Rattle.run_core.specs.Courses.{Course, whole}
use Rattle.cello_top.specs.declared.outcome.Outcome.{Outcome}
use Rattle.cello_top.specs.Texts.{HasParameters}
use Rattle.cello_top.specs.Words.{IsSolo}
use Rattle.cello_top.specs.WorkerWords.{IsRun, plain_words}
use Rattle.cello_top.proofs.PlainWords.{run-plain}

-- words that are those of `solo` where others are
pub words-handled : (handles : Course → ℕ → Type 0) (words other : List (List ℕ)) (left : Option (List ℕ)) (outcome : Outcome) → (IsSolo words → IsSolo other)
    → IfSome left (λ bytes. (p : Parameters) → IsSolo other → HasParameters bytes p → outcome.fault ≡ None → handles (whole p) outcome.handled)
    → IfSome left (λ bytes. (p : Parameters) → IsSolo words → HasParameters bytes p → outcome.fault ≡ None → handles (whole p) outcome.handled)
words-handled handles words other (Some bytes) outcome over h = λ p solo has well. h p (over solo) has well
words-handled handles words other None outcome over h = tt

-- `run` handles as many as what it asks for without workers
pub run-handled : (handles : Course → ℕ → Type 0) (words : List (List ℕ)) (left : Option (List ℕ)) (outcome : Outcome)
    → IfSome left (λ bytes. (p : Parameters) → IsSolo (plain_words words) → HasParameters bytes p → outcome.fault ≡ None → handles (whole p) outcome.handled)
    → IfSome left (λ bytes. (p : Parameters) (workers : ℕ) → IsRun words workers → HasParameters bytes p → outcome.fault ≡ None → handles (whole p) outcome.handled)
run-handled handles words (Some bytes) outcome h = λ p workers run has well. h p (run-plain words workers run) has well
run-handled handles words None outcome h = tt
