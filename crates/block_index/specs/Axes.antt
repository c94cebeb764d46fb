-- Arithmetic along an axis that is n places long, numbered from 0: a step to the next place, any coordinate moved
-- into the axis, and stretches that meet. On a periodic axis the last place stands beside the first.
use Rattle.std.specs.Prelude.{◌≡◌, ℕ, ◌+◌, ◌-◌, ◌%◌, ◌<◌, ◌≤◌, ◌⊎◌, min, Bool, true, false, IsTrue, ℤ, pos, negsuc, ◌+ℤ◌, ◌≤ℤ◌, ◌<ℤ◌}

-- one of -1, 0 and 1
pub record IsUnitStep (s : ℤ) : Type 0 where
  pub least : negsuc 0 ≤ℤ s
  pub most : s ≤ℤ pos 1

-- q lies one step s from x. On a periodic axis the step may go across its ends.
pub record IsNext (n : ℕ) (wraps : Bool) (s : ℤ) (x q : ℕ) : Type 0 where
  pub inside : q < n
  pub at : (pos q ≡ pos x +ℤ s) ⊎ (IsTrue wraps × ((pos (q + n) ≡ pos x +ℤ s) ⊎ (pos q ≡ pos (x + n) +ℤ s)))

-- the step s from x goes past an end of an axis that isn't periodic
pub record LeavesAxis (n : ℕ) (wraps : Bool) (s : ℤ) (x : ℕ) : Type 0 where
  pub closed : wraps ≡ false
  pub past_an_end : ((pos x +ℤ s) <ℤ pos 0) ⊎ (pos n ≤ℤ (pos x +ℤ s))

-- any coordinate moved into the axis: by lengths of it where it is periodic, else to the nearest end
abbrev pub moved : Bool → ℕ → ℤ → ℕ
moved true n (pos x) = x % n
moved true n (negsuc x) = n - 1 - x % n
moved false n (pos x) = min x (n - 1)
moved false n (negsuc x) = 0

-- the closed stretches [a, a + w] and [c, c + v] share a point
pub record Meets (a w c v : ℕ) : Type 0 where
  pub left : a ≤ c + v
  pub right : c ≤ a + w

-- they share a point, or on a periodic axis one of them does so after a shift by the axis's length
abbrev pub MeetsAround : ℕ → Bool → ℕ → ℕ → ℕ → ℕ → Type 0
MeetsAround n wraps a w c v = Meets a w c v ⊎ (IsTrue wraps × (Meets (a + n) w c v ⊎ Meets a w (c + n) v))
