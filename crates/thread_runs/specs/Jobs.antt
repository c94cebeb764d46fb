-- Calls of one function with each job of a list.
use Rattle.std.specs.Prelude.{◌≡◌, ℕ, List, Some, length, slice_get}
use denote.Param.Members.{Shared}
use Rattle.std.specs.Fn.{FnReturns}

-- f may be called with each of js
abbrev pub TakesAll : {F J R : Type 0} → Shared F (J × Unit {0}) R → F → List J → Type 0
TakesAll {F} {J} g f js = (i : ℕ) (j : J) → slice_get js i ≡ Some j → g.pre f (j, tt)

-- each of rs is a result that a call of f may give with the job at that place
pub record GivesAll {F J R : Type 0} (g : Shared F (J × Unit {0}) R) (f : F) (js : List J) (rs : List R) : Type 0 where
  pub many : length rs ≡ length js
  pub each : (i : ℕ) (j : J) (r : R) → slice_get js i ≡ Some j → slice_get rs i ≡ Some r → FnReturns g f (j, tt) r
