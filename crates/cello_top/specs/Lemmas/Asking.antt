-- What words ask for, with workers or without.
use Rattle.std.specs.Prelude.{◌≡◌, ℕ, ◌≤◌, List}
use Rattle.cello_top.specs.declared.worker_words.Asked.{Asked}
use Rattle.cello_top.specs.declared.worker_words.Asked.TheVariants.{Workers, Plain, Usage}
use Rattle.cello_top.specs.Words.{IsCommand}
use Rattle.cello_top.specs.WorkerWords.{most_workers, plain_words}
use Rattle.cello_top.specs.Lemmas.CommandSteps.{IsOfCommand}

-- words ask for so much
abbrev pub IsAsked : Asked → List (List ℕ) → Type 0
IsAsked (Workers command workers) words =
    IsOfCommand command (plain_words words) × (IsCommand words → ⊥) × (1 ≤ workers) × (workers ≤ most_workers)
IsAsked (Plain command) words = IsOfCommand command words × (plain_words words ≡ words)
IsAsked Usage words = IsCommand (plain_words words) → ⊥
