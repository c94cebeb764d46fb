-- What stands when nothing is in flight.
use Rattle.std.proofs.Common.{◌≡◌, ℕ, suc, ◌+◌, ◌<◌, true, false, List, [], ◌∷◌, Some, ◌++◌, length, refl, sym, ap, ◌∙◌, subst, arith, append-nil, ◌⊎◌, inl, inr}
use Rattle.std.specs.Prelude.{Contains, IsPermutation, slice_get}
use Rattle.std.proofs.lemmas.Bool.{false≢true}
use Rattle.std.proofs.lemmas.Option.{same_Some, slice_get_within}
use Rattle.std.proofs.lemmas.List.Elements.{All-contains, Contains-append_right, Contains-append_cases}
use Rattle.std.proofs.lemmas.List.Sorted.{Contains-permutation}
use Rattle.phase_core.specs.declared.envelope.Envelope.{Envelope}
use Rattle.phase_core.specs.Machine.{start_flight}
use Rattle.owed_phase.specs.Plans.{Plan, owed_from, inbox, after, all_of, IsPlan}
use Rattle.owed_phase.specs.Holds.{Owing}
use Rattle.owed_phase.specs.Lemmas.Moves.{get-some, moved_same}
use Rattle.owed_phase.specs.Lemmas.Inboxes.{inbox-has}
use Rattle.owed_phase.specs.Lemmas.Starts.{has_start_of, has_started, owed-pieces}

module _ {K C M : Type 0} (plan : Plan K C M) (parts : List K) (is : IsPlan plan parts) (cells : List C) (holds : Owing plan parts cells []) where
  -- each cell has started
  pub all_started : (i : ℕ) (c : C) → slice_get cells i ≡ Some c → plan.started c ≡ true
  all_started i c here =
      let owed = owed_from plan.owed 0 cells in
      let within : i < length parts = omega (arith, slice_get_within cells i c here, holds.many) in
      let part = get-some parts i within in
      let one : Envelope M = record { to = i; msg = plan.start i } in
      let there : Contains (all_of plan parts) one = Contains-append_right (owed_from plan.tells 0 parts) (start_flight plan.start (length parts)) one (has_start_of plan.start (length parts) i within) in
      let now : Contains (holds.handled ++ (owed ++ [])) one = Contains-permutation (all_of plan parts) (holds.handled ++ (owed ++ [])) one holds.once there in
      let stood = holds.each i part.0 part.1 in
      let same : after plan.react i stood.0 (inbox i holds.handled) ≡ c = same_Some (after plan.react i stood.0 (inbox i holds.handled)) c (sym stood.3 ∙ here) in
      elim (Contains-append_cases holds.handled (owed ++ []) one now) [
        | inl h ↦ ap plan.started (sym same) ∙ has_started plan parts is i stood.0 holds.handled (plan.start i) (inbox-has one holds.handled h) (is.starts i)
        | inr o ↦ elim (Contains-append_cases owed [] one o) [
          | inl w ↦ absurd (false≢true (sym (All-contains (λ e. plan.is_start e.msg ≡ false) owed one (owed-pieces plan parts is 0 cells) w) ∙ is.starts i))
          | inr none ↦ absurd (omega (arith, none.1))
        ]
      ]

  -- a message that no cell owes was handled
  pub handled_or_owed : (e : Envelope M) → Contains (all_of plan parts) e → Contains holds.handled e ⊎ Contains (owed_from plan.owed 0 cells) e
  handled_or_owed e there =
      let owed = owed_from plan.owed 0 cells in
      elim (Contains-append_cases holds.handled (owed ++ []) e (Contains-permutation (all_of plan parts) (holds.handled ++ (owed ++ [])) e holds.once there)) [
        | inl h ↦ inl h
        | inr o ↦ inr (subst (λ (l : List (Envelope M)). Contains l e) (append-nil owed) o)
      ]

  owed-none : (k : ℕ) (cs : List C) → ((i j : ℕ) (c : C) → i ≡ k + j → slice_get cs j ≡ Some c → plan.owed i c ≡ []) → owed_from plan.owed k cs ≡ []
  owed-none k [] none = refl
  owed-none k (c ∷ cs) none =
      ap (λ (l : List (Envelope M)). l ++ owed_from plan.owed (suc k) cs) (none k 0 c (omega arith) refl) ∙ owed-none (suc k) cs (λ i j d at h. none i (suc j) d (omega arith) h)

  -- each message was handled, where no cell owes any
  pub all_handled_by : ((i : ℕ) (c : C) → slice_get cells i ≡ Some c → plan.owed i c ≡ []) → IsPermutation (all_of plan parts) holds.handled
  all_handled_by settled =
      let owed = owed_from plan.owed 0 cells in
      let none : owed ≡ [] = owed-none 0 cells (λ i j c at h. settled i c (let is : i ≡ j = omega arith in subst (λ (n : ℕ). slice_get cells n ≡ Some c) (sym is) h)) in
      moved_same (all_of plan parts) (holds.handled ++ (owed ++ [])) holds.handled holds.once (ap (λ (l : List (Envelope M)). holds.handled ++ (l ++ [])) none ∙ append-nil holds.handled)
