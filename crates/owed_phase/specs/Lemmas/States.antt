-- What the invariant says of single messages, and what a cell has handled.
use Rattle.std.proofs.Common.{◌≡◌, ℕ, ◌+◌, ◌≤◌, true, false, cond, List, [], ◌∷◌, Some, ◌++◌, refl, sym, ap, ◌∙◌, subst, arith, inl, inr}
use Rattle.std.specs.Prelude.{Contains, IsPermutation, slice_get, sum_by, ◌==◌}
use Rattle.std.proofs.lemmas.Bool.{cases_eq}
use Rattle.std.proofs.lemmas.Option.{same_Some, slice_get_within}
use Rattle.std.proofs.lemmas.List.Elements.{Contains-append_left}
use Rattle.std.proofs.lemmas.List.Sums.{sum_by-append, sum_by-cons}
use Rattle.std.proofs.lemmas.List.Sorted.{sum_by-IsPermutation, Contains-permutation, IsPermutation-sym}
use Rattle.phase_core.specs.declared.envelope.Envelope.{Envelope}
use Rattle.phase_core.specs.Lemmas.Lookups.{Contains-at, Contains-cons_cases}
use Rattle.owed_phase.specs.Plans.{Plan, owed_from, inbox, after, all_of, Due, IsPlan}
use Rattle.owed_phase.specs.Holds.{Owing, waiting}
use Rattle.owed_phase.specs.States.{start_to, StartsInFlight, InThreeStates}
use Rattle.owed_phase.specs.Rest.{IsAmong, HasHandled, AreDone}
use Rattle.owed_phase.specs.Lemmas.Moves.{get-some, Contains-cons_more}
use Rattle.owed_phase.specs.Lemmas.Inboxes.{inbox-here, inbox-has, inbox-of, sum-inbox}
use Rattle.owed_phase.specs.Lemmas.Starts.{start_to-pieces, exactly_one_start, owed-pieces, unstarted, started_by}
use Rattle.owed_phase.specs.Lemmas.Orders.{due_sum, handled_sum}
use Rattle.owed_phase.specs.Lemmas.AllHandled.{all_started, all_handled_by}

-- of some messages among all, one is left out
pub IsAmong-tail : {M : Type 0} (m : M) (done all : List M) → IsAmong (m ∷ done) all → IsAmong done all
IsAmong-tail {M} m done all among = record { one_of = λ x h. among.one_of x (Contains-cons_more m done x h); sums = less }
  where
    less : (f : M → ℕ) → sum_by f done ≤ sum_by f all
    less f =
        let whole : sum_by f (m ∷ done) ≡ f m + sum_by f done = sum_by-cons f m done in
        let most : sum_by f (m ∷ done) ≤ sum_by f all = among.sums f in
        omega (arith, whole, most)

-- the messages to a position are among all those to it, where the envelopes are
pub inbox_among : {M : Type 0} (i : ℕ) (some all : List (Envelope M)) → ((e : Envelope M) → Contains some e → Contains all e) → ((f : Envelope M → ℕ) → sum_by f some ≤ sum_by f all) → IsAmong (inbox i some) (inbox i all)
inbox_among {M} i some all one_of sums = record {
  one_of = λ m h. inbox-has (record { to = i; msg = m }) all (one_of (record { to = i; msg = m }) (inbox-of i some m h));
  sums = less;
}
  where
    less : (f : M → ℕ) → sum_by f (inbox i some) ≤ sum_by f (inbox i all)
    less f =
        let most : sum_by (λ (e : Envelope M). cond (e.to == i) (f e.msg) 0) some ≤ sum_by (λ (e : Envelope M). cond (e.to == i) (f e.msg) 0) all = sums (λ (e : Envelope M). cond (e.to == i) (f e.msg) 0) in
        omega (arith, sum-inbox f i some, sum-inbox f i all, most)

module _ {K C M : Type 0} (plan : Plan K C M) (parts : List K) where
  -- what holds of a fresh cell, and is kept by each message, holds of a cell after what it has handled
  pub by_messages : (Q : K → C → List M → Type 0) (i : ℕ) (c : C) (done : List M)
      → ((k : K) (first : C) → slice_get parts i ≡ Some k → plan.Fresh first → plan.part first ≡ k → Q k first [])
      → ((k : K) (now : C) (m : M) (before : List M) → slice_get parts i ≡ Some k → IsAmong (m ∷ before) (inbox i (all_of plan parts)) → Q k now before → Q k (plan.react i now m).cell (m ∷ before))
      → (handled : HasHandled plan parts i c done) → Q handled.part c done
  by_messages Q i c done fresh keeps handled = subst (λ (x : C). Q handled.part x done) (sym handled.is) (go done handled.among)
    where
      go : (some : List M) → IsAmong some (inbox i (all_of plan parts)) → Q handled.part (after plan.react i handled.first some) some
      go [] among = fresh handled.part handled.first handled.here handled.fresh handled.of_part
      go (m ∷ some) among = keeps handled.part (after plan.react i handled.first some) m some handled.here among (go some (IsAmong-tail m some (inbox i (all_of plan parts)) among))

  -- a message that is due and those that its cell has handled are among all those to it
  pub due_among : (e : Envelope M) (c : C) (due : Due plan parts e c) → IsAmong (e.msg ∷ inbox e.to due.handled) (inbox e.to (all_of plan parts))
  due_among e c due =
      subst (λ (l : List M). IsAmong l (inbox e.to (all_of plan parts))) (inbox-here e.to e due.handled refl) (inbox_among e.to (e ∷ due.handled) (all_of plan parts) one_of sums)
    where
      one_of : (x : Envelope M) → Contains (e ∷ due.handled) x → Contains (all_of plan parts) x
      one_of x h = Contains-permutation (e ∷ (due.handled ++ due.others)) (all_of plan parts) x (IsPermutation-sym (all_of plan parts) (e ∷ (due.handled ++ due.others)) due.once) (elim (Contains-cons_cases e due.handled x h) [
        | inl same ↦ Contains-at (e ∷ (due.handled ++ due.others)) 0 x (ap Some same)
        | inr later ↦ Contains-cons_more e (due.handled ++ due.others) x (Contains-append_left due.handled due.others x later)
      ])

      sums : (f : Envelope M → ℕ) → sum_by f (e ∷ due.handled) ≤ sum_by f (all_of plan parts)
      sums f = omega (arith, sum_by-cons f e due.handled, due_sum plan parts f e c due)

  -- the cell of a message that is due, by what it has handled
  pub due_handled : (e : Envelope M) (c : C) (due : Due plan parts e c) → HasHandled plan parts e.to c (inbox e.to due.handled)
  due_handled e c due = record {
    part = due.part;
    first = due.first;
    here = due.here;
    fresh = due.fresh;
    of_part = due.of_part;
    is = due.is;
    among = IsAmong-tail e.msg (inbox e.to due.handled) (inbox e.to (all_of plan parts)) (due_among e c due);
  }

  module _ (cells : List C) (flight : List (Envelope M)) (holds : Owing plan parts cells flight) where
    -- each cell by what it has handled
    pub cell_handled : (i : ℕ) (c : C) → slice_get cells i ≡ Some c → HasHandled plan parts i c (inbox i holds.handled)
    cell_handled i c here =
        let part = get-some parts i (omega (arith, slice_get_within cells i c here, holds.many)) in
        let stood = holds.each i part.0 part.1 in
        record {
          part = part.0;
          first = stood.0;
          here = part.1;
          fresh = stood.1;
          of_part = stood.2;
          is = same_Some c (after plan.react i stood.0 (inbox i holds.handled)) (sym here ∙ stood.3);
          among = inbox_among i holds.handled (all_of plan parts) one_of (handled_sum plan parts cells flight holds);
        }
      where
        one_of : (x : Envelope M) → Contains holds.handled x → Contains (all_of plan parts) x
        one_of x h =
            let owed = owed_from plan.owed 0 cells in
            Contains-permutation (holds.handled ++ (owed ++ flight)) (all_of plan parts) x (IsPermutation-sym (all_of plan parts) (holds.handled ++ (owed ++ flight)) holds.once) (Contains-append_left holds.handled (owed ++ flight) x h)

    -- what is counted is counted once: handled, owed or in flight
    pub in_three_states : InThreeStates plan parts cells flight holds.handled
    in_three_states f =
        let owed = owed_from plan.owed 0 cells in
        let moved : sum_by f (holds.handled ++ (owed ++ flight)) ≡ sum_by f (all_of plan parts) = sum_by-IsPermutation f (all_of plan parts) (holds.handled ++ (owed ++ flight)) holds.once in
        omega (arith, moved, sum_by-append f holds.handled (owed ++ flight), sum_by-append f owed flight)

    -- exactly one start is in flight to a cell that hasn't started, and none to one that has
    pub starts_in_flight : IsPlan plan parts → StartsInFlight plan cells flight
    starts_in_flight is i c here =
        let f = start_to plan i in
        let stood = cell_handled i c here in
        let all : sum_by f (all_of plan parts) ≡ 1 = exactly_one_start plan parts is i (slice_get_within parts i stood.part stood.here) in
        let three : sum_by f holds.handled + sum_by f (owed_from plan.owed 0 cells) + sum_by f flight ≡ sum_by f (all_of plan parts) = in_three_states f in
        let owed : sum_by f (owed_from plan.owed 0 cells) ≡ 0 = start_to-pieces plan parts i (owed_from plan.owed 0 cells) (owed-pieces plan parts is 0 cells) in
        elim (cases_eq (sum_by f holds.handled) 0) [
          | inl none ↦
              let waits : plan.started c ≡ false = ap plan.started stood.is ∙ unstarted plan parts is i stood.first stood.fresh holds.handled none in
              let one : waiting plan c ≡ 1 = ap (λ b. cond b 0 1) waits in
              omega (arith, all, three, owed, none, one)
          | inr some ↦
              let has : plan.started c ≡ true = ap plan.started stood.is ∙ started_by plan parts is i stood.first holds.handled (omega (arith, some)) in
              let zero : waiting plan c ≡ 0 = ap (λ b. cond b 0 1) has in
              omega (arith, all, three, owed, some, zero)
        ]

  -- With nothing in flight each cell is done, where a cell that has started owes nothing after what it has handled.
  pub at_rest_by : IsPlan plan parts → ((i : ℕ) (c : C) (done : List M) → HasHandled plan parts i c done → plan.started c ≡ true → plan.owed i c ≡ []) → (cells : List C) → Owing plan parts cells [] → AreDone plan parts cells
  at_rest_by is settled cells holds i c here = record {
    done = inbox i holds.handled;
    handled = cell_handled cells [] holds i c here;
    started = all_started plan parts is cells holds i c here;
    every = inbox_among i (all_of plan parts) holds.handled (λ x h. Contains-permutation (all_of plan parts) holds.handled x moved h) (λ f. omega (arith, sum_by-IsPermutation f (all_of plan parts) holds.handled moved));
  }
    where
      moved : IsPermutation (all_of plan parts) holds.handled
      moved = all_handled_by plan parts is cells holds (λ j x at. settled j x (inbox j holds.handled) (cell_handled cells [] holds j x at) (all_started plan parts is cells holds j x at))

  -- so too where any started cell owes nothing
  pub at_rest : IsPlan plan parts → ((i : ℕ) (c : C) → plan.started c ≡ true → plan.owed i c ≡ []) → (cells : List C) → Owing plan parts cells [] → AreDone plan parts cells
  at_rest is settled cells holds = at_rest_by is (λ i c done handled started. settled i c started) cells holds
