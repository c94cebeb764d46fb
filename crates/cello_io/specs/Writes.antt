-- How far several writes came.
use Rattle.std.specs.Prelude.{◌≡◌, ℕ, List, ◌++◌, Option, Result, MatchResult}
use Rattle.std.specs.Io.KnownBytes.{append_known}

-- What is told to be written grew by a part of these bytes; this part and what is missing make them up.
pub record GrewByPart (old new : Option (List ℕ)) (bytes : List ℕ) : Type 0 where
  pub part : List ℕ
  pub missing : List ℕ
  pub full : part ++ missing ≡ bytes
  pub grew : new ≡ append_known old part

-- all bytes were written on `Ok`, and a part of them else
abbrev pub Wrote : {T E : Type 0} → Option (List ℕ) → Option (List ℕ) → Result T E → List ℕ → Type 0
Wrote old new result bytes = MatchResult result (λ _. new ≡ append_known old bytes) (λ _. GrewByPart old new bytes)
