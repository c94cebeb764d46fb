-- What doesn't depend on the order of the flight, and what all messages meet.
use Rattle.std.proofs.Common.{◌≡◌, ℕ, ◌+◌, ◌<◌, ◌≤◌, List, ◌∷◌, Some, ◌++◌, length, refl, sym, ap, arith}
use Rattle.std.specs.Prelude.{All, Contains, IsPermutation, remove, slice_get, sum_by, ◌^◌}
use Rattle.std.proofs.lemmas.List.Elements.{All-contains, All-weaker, All-contains_itself, Contains-append_left, Contains-append_right}
use Rattle.std.proofs.lemmas.List.Sums.{sum_by-append, sum_by-cons}
use Rattle.std.proofs.lemmas.List.Sorted.{IsPermutation-trans, IsPermutation-append_right, IsPermutation-remove, All-permutation, Contains-permutation, sum_by-IsPermutation, IsPermutation-sym}
use Rattle.phase_core.specs.declared.envelope.Envelope.{Envelope}
use Rattle.phase_core.specs.Lemmas.Lookups.{Contains-at}
use Rattle.owed_phase.specs.Plans.{Plan, owed_from, all_of, Due, IsPlan}
use Rattle.owed_phase.specs.Holds.{Owing, waiting, piece, owing_weight, owing_start_weight}
use Rattle.owed_phase.specs.Lemmas.Moves.{Contains-cons_more}
use Rattle.owed_phase.specs.Lemmas.Handlings as handlings

module _ {K C M : Type 0} (plan : Plan K C M) (parts : List K) where
  pub holds_in_any_order : (cells : List C) (flight other : List (Envelope M)) → IsPermutation flight other → Owing plan parts cells flight → Owing plan parts cells other
  holds_in_any_order cells flight other moved holds =
      let owed = owed_from plan.owed 0 cells in
      record {
        fits = holds.fits;
        handled = holds.handled;
        once = IsPermutation-trans (all_of plan parts) (holds.handled ++ (owed ++ flight)) (holds.handled ++ (owed ++ other)) holds.once (IsPermutation-append_right holds.handled (owed ++ flight) (owed ++ other) (IsPermutation-append_right owed flight other moved));
        many = holds.many;
        each = holds.each;
      }

  pub weighs_in_any_order : (cells : List C) (flight other : List (Envelope M)) → IsPermutation flight other → owing_weight plan cells other ≡ owing_weight plan cells flight
  weighs_in_any_order cells flight other moved = ap (λ (n : ℕ). (sum_by (waiting plan) cells + length (owed_from plan.owed 0 cells)) + n) (sum_by-IsPermutation (piece plan) flight other moved)

  pub few_cells : (cells : List C) (flight : List (Envelope M)) → Owing plan parts cells flight → length cells < 2 ^ 32
  few_cells cells flight holds = omega (arith, holds.fits.few, holds.many)

  -- what all messages meet is met in flight, and by what was handled
  pub of_flight : (P : Envelope M → Type 0) (cells : List C) (flight : List (Envelope M)) → Owing plan parts cells flight → All P (all_of plan parts) → All P flight
  of_flight P cells flight holds all =
      let owed = owed_from plan.owed 0 cells in
      let every : All P (holds.handled ++ (owed ++ flight)) = All-permutation P (all_of plan parts) (holds.handled ++ (owed ++ flight)) holds.once all in
      let one : (x : Envelope M) → Contains flight x → P x = λ x h. All-contains P (holds.handled ++ (owed ++ flight)) x every (Contains-append_right holds.handled (owed ++ flight) x (Contains-append_right owed flight x h)) in
      All-weaker (Contains flight) P one flight (All-contains_itself flight)

  pub of_handled : (P : Envelope M → Type 0) (e : Envelope M) (c : C) (due : Due plan parts e c) → All P (all_of plan parts) → All P due.handled
  of_handled P e c due all =
      let every : All P (e ∷ (due.handled ++ due.others)) = All-permutation P (all_of plan parts) (e ∷ (due.handled ++ due.others)) due.once all in
      let one : (x : Envelope M) → Contains due.handled x → P x = λ x h. All-contains P (e ∷ (due.handled ++ due.others)) x every (Contains-cons_more e (due.handled ++ due.others) x (Contains-append_left due.handled due.others x h)) in
      All-weaker (Contains due.handled) P one due.handled (All-contains_itself due.handled)

  pub addressed : (cells : List C) (flight : List (Envelope M)) → Owing plan parts cells flight → All (λ e. e.to < length cells) flight
  addressed cells flight holds =
      let weaker : (e : Envelope M) → e.to < length parts → e.to < length cells = λ e w. omega (arith, w, holds.many) in
      All-weaker (λ e. e.to < length parts) (λ e. e.to < length cells) weaker flight (of_flight (λ e. e.to < length parts) cells flight holds holds.fits.addressed)

  pub start_weight_fits : (cells : List C) (flight : List (Envelope M)) → Owing plan parts cells flight → owing_start_weight plan parts < 2 ^ 62
  start_weight_fits cells flight holds = holds.fits.short

  -- the same of an envelope anywhere in the flight
  pub due_anywhere : IsPlan plan parts → (cells : List C) (flight : List (Envelope M)) (e : Envelope M) (c : C) → Owing plan parts cells flight → Contains flight e → slice_get cells e.to ≡ Some c → Due plan parts e c
  due_anywhere is cells flight e c holds waits here =
      let front : IsPermutation flight (e ∷ remove flight waits.0) = IsPermutation-remove flight waits.0 e waits.1 (sym waits.2) in
      handlings.due plan parts is cells e (remove flight waits.0) c (holds_in_any_order cells flight (e ∷ remove flight waits.0) front holds) here

  -- what is due is one of all messages
  pub is_one : (e : Envelope M) (c : C) → Due plan parts e c → Contains (all_of plan parts) e
  is_one e c due = Contains-permutation (e ∷ (due.handled ++ due.others)) (all_of plan parts) e (IsPermutation-sym (all_of plan parts) (e ∷ (due.handled ++ due.others)) due.once) (Contains-at (e ∷ (due.handled ++ due.others)) 0 e refl)

  -- of a message that is due, none that was handled has what only one of all has
  pub first_time : (f : Envelope M → ℕ) (e : Envelope M) (c : C) (due : Due plan parts e c) → sum_by f (all_of plan parts) ≤ 1 → f e ≡ 1 → sum_by f due.handled ≡ 0
  first_time f e c due once one =
      let moved : sum_by f (e ∷ (due.handled ++ due.others)) ≡ sum_by f (all_of plan parts) = sum_by-IsPermutation f (all_of plan parts) (e ∷ (due.handled ++ due.others)) due.once in
      let first : sum_by f (e ∷ (due.handled ++ due.others)) ≡ f e + sum_by f (due.handled ++ due.others) = sum_by-cons f e (due.handled ++ due.others) in
      let second : sum_by f (due.handled ++ due.others) ≡ sum_by f due.handled + sum_by f due.others = sum_by-append f due.handled due.others in
      omega (arith, moved, first, second, once, one)

  -- what is due and what was handled weigh at most what all do
  pub due_sum : (f : Envelope M → ℕ) (e : Envelope M) (c : C) (due : Due plan parts e c) → sum_by f due.handled + f e ≤ sum_by f (all_of plan parts)
  due_sum f e c due =
      let moved : sum_by f (e ∷ (due.handled ++ due.others)) ≡ sum_by f (all_of plan parts) = sum_by-IsPermutation f (all_of plan parts) (e ∷ (due.handled ++ due.others)) due.once in
      let first : sum_by f (e ∷ (due.handled ++ due.others)) ≡ f e + sum_by f (due.handled ++ due.others) = sum_by-cons f e (due.handled ++ due.others) in
      let second : sum_by f (due.handled ++ due.others) ≡ sum_by f due.handled + sum_by f due.others = sum_by-append f due.handled due.others in
      omega (arith, moved, first, second)

  module _ (cells : List C) (flight : List (Envelope M)) (holds : Owing plan parts cells flight) where
    pub handled_sum : (f : Envelope M → ℕ) → sum_by f holds.handled ≤ sum_by f (all_of plan parts)
    handled_sum f =
        let owed = owed_from plan.owed 0 cells in
        let moved : sum_by f (holds.handled ++ (owed ++ flight)) ≡ sum_by f (all_of plan parts) = sum_by-IsPermutation f (all_of plan parts) (holds.handled ++ (owed ++ flight)) holds.once in
        let both : sum_by f (holds.handled ++ (owed ++ flight)) ≡ sum_by f holds.handled + sum_by f (owed ++ flight) = sum_by-append f holds.handled (owed ++ flight) in
        omega (arith, moved, both)

    pub all_handled_meet : (P : Envelope M → Type 0) → All P (all_of plan parts) → All P holds.handled
    all_handled_meet P all =
        let owed = owed_from plan.owed 0 cells in
        let every : All P (holds.handled ++ (owed ++ flight)) = All-permutation P (all_of plan parts) (holds.handled ++ (owed ++ flight)) holds.once all in
        let one : (x : Envelope M) → Contains holds.handled x → P x = λ x h. All-contains P (holds.handled ++ (owed ++ flight)) x every (Contains-append_left holds.handled (owed ++ flight) x h) in
        All-weaker (Contains holds.handled) P one holds.handled (All-contains_itself holds.handled)
