-- Tests of words with workers, and what is asked without them.
use Rattle.std.proofs.Common.{◌≡◌, ℕ, ◌<◌, List, length, map, get_or, refl, sym, ap, ◌∙◌}
use Rattle.std.specs.Prelude.{Bool, true, false, ◌&&◌, [], ◌∷◌, codes}
use Rattle.std.specs.Bool.{Decides}
use Rattle.std.specs.Str.{bytes_eq}
use Rattle.std.proofs.lemmas.Bool.{cond-true, cond-false, false≢true}
use Rattle.std.proofs.lemmas.List.{get_or-map}
use Rattle.std.proofs.lemmas.Slice.Eq.{bytes_eq-Decides}
use Rattle.cello_top.specs.WorkerWords.{asks_restart, asks_run, plain_words, resume_words, word_at}

-- one side of a conjunction is false
pub left-false : (a b : Bool) → a ≡ false → (a && b) ≡ false
left-false true b e = absurd (false≢true (sym e))
left-false false b e = refl

pub right-false : (a b : Bool) → b ≡ false → (a && b) ≡ false
right-false true b e = e
right-false false b e = refl

is-false : (a : Bool) → (a ≡ true → ⊥) → a ≡ false
is-false true other = absurd (other refl)
is-false false other = refl

-- a word that is another one than this
pub differs : {A : Type 0} (f : A → List ℕ) (xs : List A) (k : ℕ) (x : A) (word : List ℕ) (b : Bool) → k < length xs → x ≡ get_or xs k x
    → Decides b (f x ≡ word) → b ≡ false → bytes_eq (word_at (map f xs) k) word ≡ false
differs f xs k x word b within is same other = is-false _ (λ e.
    false≢true (sym other ∙ same.1 (ap f is ∙ sym (get_or-map f xs k x [] within) ∙ (bytes_eq-Decides (word_at (map f xs) k) word).0 e)))

-- what is asked without workers
pub plain-run : (ws : List (List ℕ)) → asks_run ws ≡ true → plain_words ws ≡ codes "solo" ∷ []
plain-run ws asks = cond-true _ _ _ asks

pub plain-first : (ws : List (List ℕ)) → asks_run ws ≡ false → asks_restart 2 4 ws ≡ true → plain_words ws ≡ resume_words 4 ws
plain-first ws other asks = cond-false _ _ _ other ∙ cond-true _ _ _ asks

pub plain-second : (ws : List (List ℕ)) → asks_run ws ≡ false → asks_restart 2 4 ws ≡ false → asks_restart 4 2 ws ≡ true
    → plain_words ws ≡ resume_words 2 ws
plain-second ws other first asks = cond-false _ _ _ other ∙ cond-false _ _ _ first ∙ cond-true _ _ _ asks
