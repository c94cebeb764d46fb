-- Runs of the core machine by a list of picks.
use Rattle.std.specs.Prelude.{◌≡◌, ◌⊎◌, ℕ, ◌<◌, ◌%◌, List, [], ◌∷◌, length}
use Rattle.phase_core.specs.Machine.{Reaction, CoreState, Handles, IsQuiet}

-- From s to t: for each pick the envelope at this place of the flight, counted round, is handled. Where nothing is in
-- flight, the other picks are left.
abbrev pub RunsByPicks : {C M : Type 0} → (ℕ → C → M → Reaction C M) → CoreState C M → List ℕ → CoreState C M → Type 0
RunsByPicks react s [] t = s ≡ t
RunsByPicks {C} {M} react s (pick ∷ picks) t =
    (IsQuiet s × (s ≡ t)) ⊎ ((0 < length s.flight) × ((next : CoreState C M) × Handles react s (pick % length s.flight) next × RunsByPicks react next picks t))
