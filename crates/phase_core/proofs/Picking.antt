-- Runs by picks: where one is quiet it ends, and one pick more leads one event on.
use Rattle.std.proofs.Common.{◌≡◌, ℕ, zero, suc, ◌+◌, ◌<◌, ◌≤◌, ◌%◌, List, [], ◌∷◌, length, drop, get_or, refl, sym, subst, arith, inl, inr}
use Rattle.std.specs.Prelude.{All, Some, slice_get}
use Rattle.std.proofs.lemmas.List.Elements.{All-get_or}
use Rattle.std.proofs.lemmas.Option.{slice_get_within, get_or_from_slice_get}
use Rattle.phase_core.specs.declared.envelope.Envelope.{Envelope}
use Rattle.phase_core.specs.Machine.{Reaction, CoreState, Event, Handle, Handles, Delivers}
use Rattle.phase_core.specs.Picks.{RunsByPicks}

pub drop_step : (xs : List ℕ) (k : ℕ) → k < length xs → drop k xs ≡ get_or xs k 0 ∷ drop (k + 1) xs
drop_step [] k h = absurd (omega arith)
drop_step (x ∷ xs) zero h = refl
drop_step (x ∷ xs) (suc k) h = let e : suc k + 1 ≡ suc (k + 1) = omega arith in rw e (drop_step xs k (omega arith))

pub to_within : {C M : Type 0} (cells : List C) (flight : List (Envelope M)) (at : ℕ) (e : Envelope M) → All (λ x. x.to < length cells) flight → slice_get flight at ≡ Some e → e.to < length cells
to_within {C} {M} cells flight at e all taken =
    subst (λ (x : Envelope M). x.to < length cells) (get_or_from_slice_get flight at e e taken) (All-get_or (λ (x : Envelope M). x.to < length cells) flight at e (slice_get_within flight at e taken) all)

module _ {C M : Type 0} (react : ℕ → C → M → Reaction C M) where
  pub quiet_ends : (s : CoreState C M) (picks : List ℕ) → s.flight ≡ [] → RunsByPicks react s picks s
  quiet_ends s [] quiet = refl
  quiet_ends s (pick ∷ picks) quiet = inl (quiet, refl)

  pub one_pick : (s next u : CoreState C M) (picks : List ℕ) (k at : ℕ) → k < length picks → 0 < length s.flight → at ≡ get_or picks k 0 % length s.flight → Handles react s at next → RunsByPicks react next (drop (k + 1) picks) u → RunsByPicks react s (drop k picks) u
  one_pick s next u picks k at low some is event rest =
      subst (λ l. RunsByPicks react s l u) (sym (drop_step picks k low)) (inr (some, (next, subst (λ i. Handles react s i next) is event, rest)))

  -- a run by picks is a run of events
  pub picked_run : (s t : CoreState C M) (picks : List ℕ) → RunsByPicks react s picks t → (events : List Event) × Delivers react s events t × (length events ≤ length picks)
  picked_run s t [] r = ([], r, omega arith)
  picked_run s t (pick ∷ picks) (inl q) = ([], q.1, omega arith)
  picked_run s t (pick ∷ picks) (inr q) =
      let rest = picked_run q.1.0 t picks q.1.2 in
      (Handle (pick % length s.flight) ∷ rest.0, (q.1.0, q.1.1, rest.1), omega (arith, rest.2))
