-- Calls of one function at each place of a list.
use Rattle.std.specs.Prelude.{◌≡◌, ℕ, ◌+◌, ◌<◌, List, Result, Ok, Err, Some, length, slice_get, slice_index_or}
use denote.Ref.{MutBor}
use denote.Param.Members.{Shared}

module _ {F T E : Type 0} (g : Shared F (ℕ × (MutBor T × Unit {0})) (Result (Unit {0}) E × (MutBor T × Unit {0}))) (f : F) where
  -- f may be called with i and a `&mut` to x
  abbrev pub AcceptsAt : ℕ → T → Type 0
  AcceptsAt i x = (p : MutBor T) → p.now ≡ x → g.pre f (i, (p, tt))

  -- a call of f with i and a `&mut` to x may answer r, and leave y there
  pub record CallsAt (i : ℕ) (x : T) (r : Result (Unit {0}) E) (y : T) : Type 0 where
    pub argument : MutBor T
    pub argument_is : argument.now ≡ x
    pub after_call : MutBor T
    pub call : g.post f (i, (argument, tt)) (r, (after_call, tt))
    pub left : after_call.now ≡ y

  -- f may be called with each place of xs and a `&mut` to its element
  abbrev pub AcceptsEach : List T → Type 0
  AcceptsEach xs = (i : ℕ) (p : MutBor T) → slice_get xs i ≡ Some p.now → g.pre f (i, (p, tt))

  -- each element of ys is what a call of f that answers Ok may leave of the one of xs
  abbrev pub ChangesEach : List T → List T → Type 0
  ChangesEach xs ys = (i : ℕ) (x y : T) → slice_get xs i ≡ Some x → slice_get ys i ≡ Some y → CallsAt i x (Ok tt) y

  -- a call of f at a place of xs may answer Err e
  pub record RefusesOne (xs : List T) (e : E) : Type 0 where
    pub at : ℕ
    pub before : T
    pub before_is : slice_get xs at ≡ Some before
    pub left : T
    pub call : CallsAt at before (Err e) left

  -- ---- the same with places counted from a base

  abbrev pub AcceptsAll : ℕ → List T → Type 0
  AcceptsAll base xs = (i : ℕ) (p : MutBor T) → i < length xs → p.now ≡ slice_index_or xs i p.now → g.pre f (base + i, (p, tt))

  pub record ChangesAll (base : ℕ) (xs ys : List T) : Type 0 where
    pub many : length ys ≡ length xs
    pub each : (i : ℕ) (d : T) → i < length xs → CallsAt (base + i) (slice_index_or xs i d) (Ok tt) (slice_index_or ys i d)

  pub record RefusesAny (base : ℕ) (xs : List T) (e : E) : Type 0 where
    pub at : ℕ
    pub within : at < length xs
    pub before : T
    pub before_is : (d : T) → slice_index_or xs at d ≡ before
    pub left : T
    pub call : CallsAt (base + at) before (Err e) left
