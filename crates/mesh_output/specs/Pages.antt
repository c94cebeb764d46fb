-- Bytes gathered in a page before they are written.
use Rattle.std.specs.Prelude.{◌≡◌, ℕ, List, ◌++◌, Option, Result, MatchResult}
use Rattle.std.specs.Io.KnownBytes.{append_known}
use Rattle.cello_io.specs.Writes.{GrewByPart}

-- the most bytes that are written at once
abbrev pub page_room : ℕ
page_room = 32768

-- Of these bytes a part was written, and the others stand in the page.
pub record Holds (old new : Option (List ℕ)) (bytes page : List ℕ) : Type 0 where
  pub part : List ℕ
  pub full : part ++ page ≡ bytes
  pub grew : new ≡ append_known old part

-- More bytes came behind those of a page. On `Ok` the page holds what isn't written of all these; after an error a part
-- of them was written.
abbrev pub Puts : {T E : Type 0} → Option (List ℕ) → Option (List ℕ) → List ℕ → List ℕ → Result T E → List ℕ → Type 0
Puts old new before now result more =
    MatchResult result (λ _. Holds old new (before ++ more) now) (λ _. GrewByPart old new (before ++ more))
