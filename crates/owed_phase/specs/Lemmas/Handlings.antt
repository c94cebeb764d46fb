-- A handling keeps what stands in every state, and lowers the weight.
use Rattle.std.proofs.Common.{◌≡◌, ℕ, ◌+◌, ◌*◌, ◌<◌, ◌≤◌, Bool, true, false, cond, List, ◌∷◌, Some, ◌++◌, length, refl, sym, ap, ◌∙◌, subst, arith, append_assoc, length-append, inl, inr}
use Rattle.std.specs.Prelude.{Contains, IsPermutation, slice_get, slice_set, sum_by}
use Rattle.std.proofs.lemmas.Bool.{cases_eq, cases_Bool}
use Rattle.std.proofs.lemmas.Option.{same_Some, slice_get_within, get_or_from_slice_get}
use Rattle.std.proofs.lemmas.List.{length-set}
use Rattle.std.proofs.lemmas.List.Elements.{All-weaker, All-contains_itself}
use Rattle.std.proofs.lemmas.List.Sums.{sum_by-append, sum_by-cons, sum_by-set, sum_by-le}
use Rattle.std.proofs.lemmas.List.Sorted.{IsPermutation-trans, sum_by-IsPermutation, length_permutation}
use Rattle.phase_core.specs.declared.envelope.Envelope.{Envelope}
use Rattle.phase_core.specs.Lemmas.Lookups.{get-set_same, get-set_other}
use Rattle.owed_phase.specs.Plans.{Plan, owed_from, inbox, after, all_of, Due, IsPlan}
use Rattle.owed_phase.specs.States.{start_to}
use Rattle.owed_phase.specs.Holds.{Owing, waiting, piece, owing_weight}
use Rattle.owed_phase.specs.Lemmas.Moves.{get-some, moved_same, to_front, one_handled, owed-set}
use Rattle.owed_phase.specs.Lemmas.Inboxes.{inbox-here, inbox-other}
use Rattle.owed_phase.specs.Lemmas.Starts.{start_to-here, one_start, unstarted}

module _ {K C M : Type 0} (plan : Plan K C M) (parts : List K) (is : IsPlan plan parts) where
  pub due : (cells : List C) (e : Envelope M) (rest : List (Envelope M)) (c : C) → Owing plan parts cells (e ∷ rest) → slice_get cells e.to ≡ Some c → Due plan parts e c
  due cells e rest c holds here =
      let owed = owed_from plan.owed 0 cells in
      let within : e.to < length parts = omega (arith, slice_get_within cells e.to c here, holds.many) in
      let part = get-some parts e.to within in
      let stood = holds.each e.to part.0 part.1 in
      let same : c ≡ after plan.react e.to stood.0 (inbox e.to holds.handled) = same_Some c (after plan.react e.to stood.0 (inbox e.to holds.handled)) (sym here ∙ stood.3) in
      let front : IsPermutation (holds.handled ++ (owed ++ (e ∷ rest))) (e ∷ (holds.handled ++ (owed ++ rest))) =
      moved_same (holds.handled ++ (owed ++ (e ∷ rest))) (e ∷ ((holds.handled ++ owed) ++ rest)) (e ∷ (holds.handled ++ (owed ++ rest))) (to_front holds.handled owed rest e) (ap (λ (l : List (Envelope M)). e ∷ l) (append_assoc holds.handled owed rest)) in
      let moved : IsPermutation (all_of plan parts) (e ∷ (holds.handled ++ (owed ++ rest))) = IsPermutation-trans (all_of plan parts) (holds.handled ++ (owed ++ (e ∷ rest))) (e ∷ (holds.handled ++ (owed ++ rest))) holds.once front in
      record {
        part = part.0;
        first = stood.0;
        fresh = stood.1;
        of_part = stood.2;
        handled = holds.handled;
        others = owed ++ rest;
        here = part.1;
        is = same;
        once = moved;
        waits = λ s. waits (holds.handled) (owed ++ rest) stood.0 stood.1 same moved s;
      }
    where
      waits : (handled others : List (Envelope M)) (k : C) → plan.Fresh k → c ≡ after plan.react e.to k (inbox e.to handled) → IsPermutation (all_of plan parts) (e ∷ (handled ++ others)) → plan.is_start e.msg ≡ true → plan.started c ≡ false
      waits handled others k fresh same moved s =
          let f = start_to plan e.to in
          let sums : sum_by f (e ∷ (handled ++ others)) ≡ sum_by f (all_of plan parts) = sum_by-IsPermutation f (all_of plan parts) (e ∷ (handled ++ others)) moved in
          let first : sum_by f (e ∷ (handled ++ others)) ≡ f e + sum_by f (handled ++ others) = sum_by-cons f e (handled ++ others) in
          let second : sum_by f (handled ++ others) ≡ sum_by f handled + sum_by f others = sum_by-append f handled others in
          let one : f e ≡ 1 = start_to-here plan parts e.to e refl s in
          let none : sum_by f handled ≡ 0 = omega (arith, sums, first, second, one, one_start plan parts is e.to) in
          ap plan.started same ∙ unstarted plan parts is e.to k fresh handled none

  pub keeps : (cells : List C) (e : Envelope M) (rest : List (Envelope M)) (c : C) → Owing plan parts cells (e ∷ rest) → slice_get cells e.to ≡ Some c → Owing plan parts (slice_set cells e.to (plan.react e.to c e.msg).cell) (rest ++ (plan.react e.to c e.msg).sent)
  keeps cells e rest c holds here =
      let new = (plan.react e.to c e.msg).cell in
      let sent = (plan.react e.to c e.msg).sent in
      let was = owed_from plan.owed 0 cells in
      let now = owed_from plan.owed 0 (slice_set cells e.to new) in
      let d = due cells e rest c holds here in
      let moves : IsPermutation was (now ++ sent) = owed-set plan.owed 0 cells e.to e.to c new sent (omega arith) here (is.sends e c d) in
      record {
        fits = holds.fits;
        handled = e ∷ holds.handled;
        once = IsPermutation-trans (all_of plan parts) (holds.handled ++ (was ++ (e ∷ rest))) ((e ∷ holds.handled) ++ (now ++ (rest ++ sent))) holds.once (one_handled holds.handled was now sent rest e moves);
        many = length-set cells e.to new ∙ holds.many;
        each = λ i k at. let h = holds.each i k at in (h.0, h.1, h.2, each_after i h.0 h.3);
      }
    where
      each_after : (i : ℕ) (k : C) → slice_get cells i ≡ Some (after plan.react i k (inbox i holds.handled)) → slice_get (slice_set cells e.to (plan.react e.to c e.msg).cell) i ≡ Some (after plan.react i k (inbox i (e ∷ holds.handled)))
      each_after i k at = elim (cases_eq e.to i) [
        | inl is' ↦
            let here' : slice_get cells i ≡ Some c = subst (λ (n : ℕ). slice_get cells n ≡ Some c) is' here in
            let same : c ≡ after plan.react i k (inbox i holds.handled) = same_Some c (after plan.react i k (inbox i holds.handled)) (sym here' ∙ at) in
            let set : slice_get (slice_set cells e.to (plan.react e.to c e.msg).cell) i ≡ Some (plan.react i c e.msg).cell =
            subst (λ (n : ℕ). slice_get (slice_set cells n (plan.react n c e.msg).cell) i ≡ Some (plan.react i c e.msg).cell) (sym is') (get-set_same cells i c (plan.react i c e.msg).cell here') in
            set ∙ (ap (λ (x : C). Some (plan.react i x e.msg).cell) same ∙ ap (λ (l : List M). Some (after plan.react i k l)) (sym (inbox-here i e holds.handled is')))
        | inr other ↦
            get-set_other cells e.to i (plan.react e.to c e.msg).cell (λ h. other (sym h)) ∙ (at ∙ ap (λ (l : List M). Some (after plan.react i k l)) (sym (inbox-other i e holds.handled other)))
      ]

  -- the pieces among these are at most all of them
  few_pieces : (es : List (Envelope M)) → sum_by (piece plan) es ≤ length es
  few_pieces es =
      let most : (e : Envelope M) → piece plan e ≤ 1 = one_piece in
      let bound : sum_by (piece plan) es ≤ length es * 1 = sum_by-le (piece plan) 1 es (All-weaker (Contains es) (λ e. piece plan e ≤ 1) (λ e h. most e) es (All-contains_itself es)) in
      omega (arith, bound)
    where
      one_piece : (e : Envelope M) → piece plan e ≤ 1
      one_piece e = elim (cases_Bool (plan.is_start e.msg)) [
        | inl s ↦ let h : piece plan e ≡ 0 = ap (λ (b : Bool). cond b 0 1) s in omega (arith, h)
        | inr s ↦ let h : piece plan e ≡ 1 = ap (λ (b : Bool). cond b 0 1) s in omega (arith, h)
      ]

  pub lowers : (cells : List C) (e : Envelope M) (rest : List (Envelope M)) (c : C) → Owing plan parts cells (e ∷ rest) → slice_get cells e.to ≡ Some c → owing_weight plan (slice_set cells e.to (plan.react e.to c e.msg).cell) (rest ++ (plan.react e.to c e.msg).sent) < owing_weight plan cells (e ∷ rest)
  lowers cells e rest c holds here =
      let new = (plan.react e.to c e.msg).cell in
      let sent = (plan.react e.to c e.msg).sent in
      let was = owed_from plan.owed 0 cells in
      let now = owed_from plan.owed 0 (slice_set cells e.to new) in
      let d = due cells e rest c holds here in
      let moves : IsPermutation was (now ++ sent) = owed-set plan.owed 0 cells e.to e.to c new sent (omega arith) here (is.sends e c d) in
      let lengths : length (now ++ sent) ≡ length was = length_permutation was (now ++ sent) moves in
      let parts' : length (now ++ sent) ≡ length now + length sent = length-append now sent in
      let f = waiting plan in
      let waited : sum_by f (slice_set cells e.to new) + f c ≡ sum_by f cells + f new =
      subst (λ (x : C). sum_by f (slice_set cells e.to new) + f x ≡ sum_by f cells + f new) (get_or_from_slice_get cells e.to c c here) (sum_by-set f cells e.to new c (slice_get_within cells e.to c here)) in
      let flight_after : sum_by (piece plan) (rest ++ sent) ≡ sum_by (piece plan) rest + sum_by (piece plan) sent = sum_by-append (piece plan) rest sent in
      let flight_before : sum_by (piece plan) (e ∷ rest) ≡ piece plan e + sum_by (piece plan) rest = sum_by-cons (piece plan) e rest in
      let most : sum_by (piece plan) sent ≤ length sent = few_pieces sent in
      let one : f new < f c + piece plan e = lighter e c d in
      omega (arith, lengths, parts', waited, flight_after, flight_before, most, one)
    where
      lighter : (e : Envelope M) (c : C) → Due plan parts e c → waiting plan (plan.react e.to c e.msg).cell < waiting plan c + piece plan e
      lighter e c d = elim (cases_Bool (plan.is_start e.msg)) [
        | inl s ↦
            let a : waiting plan (plan.react e.to c e.msg).cell ≡ 0 = ap (λ (b : Bool). cond b 0 1) (is.starting e.to c e.msg s) in
            let b : waiting plan c ≡ 1 = ap (λ (b : Bool). cond b 0 1) (d.waits s) in
            omega (arith, a, b)
        | inr s ↦
            let a : waiting plan (plan.react e.to c e.msg).cell ≡ waiting plan c = ap (λ (b : Bool). cond b 0 1) (is.staying e.to c e.msg s) in
            let b : piece plan e ≡ 1 = ap (λ (b : Bool). cond b 0 1) s in
            omega (arith, a, b)
      ]
