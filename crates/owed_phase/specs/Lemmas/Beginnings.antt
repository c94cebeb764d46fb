-- The first cells, with their starts in flight.
use Rattle.std.proofs.Common.{◌≡◌, ℕ, zero, suc, ◌+◌, Bool, cond, List, [], ◌∷◌, Some, ◌++◌, length, map, refl, sym, ap, ◌∙◌, subst, arith, length-append}
use Rattle.std.specs.Prelude.{All, slice_get, sum_by}
use Rattle.std.proofs.lemmas.List.{length-map}
use Rattle.std.proofs.lemmas.List.Elements.{All-head, All-tail, All-contains}
use Rattle.std.proofs.lemmas.List.Sums.{sum_by_push, sum_by-cons}
use Rattle.std.proofs.lemmas.List.Sorted.{IsPermutation-refl}
use Rattle.phase_core.specs.declared.envelope.Envelope.{Envelope}
use Rattle.phase_core.specs.Machine.{start_flight}
use Rattle.phase_core.specs.Lemmas.Starts.{start_flight-suc, length-start_flight}
use Rattle.phase_core.specs.Lemmas.Lookups.{get-map_back, Contains-at}
use Rattle.owed_phase.specs.Plans.{Plan, owed_from, all_of, IsPlan}
use Rattle.owed_phase.specs.Holds.{Fits, Owing, waiting, piece, owing_weight, owing_start_weight}
use Rattle.owed_phase.specs.Lemmas.Moves.{moved_same}

module _ {K C M : Type 0} (plan : Plan K C M) (parts : List K) (is : IsPlan plan parts) where
  -- fresh cells owe what their parts tell
  fresh-owe : (k : ℕ) (cells : List C) → All plan.Fresh cells → owed_from plan.owed k cells ≡ owed_from plan.tells k (map plan.part cells)
  fresh-owe k [] fresh = refl
  fresh-owe k (c ∷ cells) fresh =
      let here : plan.owed k c ≡ plan.tells k (plan.part c) = is.owes k c (All-head plan.Fresh c cells fresh) in
      let rest = fresh-owe (suc k) cells (All-tail plan.Fresh c cells fresh) in
      ap (λ (l : List (Envelope M)). l ++ owed_from plan.owed (suc k) cells) here ∙ ap (λ (l : List (Envelope M)). plan.tells k (plan.part c) ++ l) rest

  same_owed : (cells : List C) → All plan.Fresh cells → map plan.part cells ≡ parts → owed_from plan.owed 0 cells ≡ owed_from plan.tells 0 parts
  same_owed cells fresh made = fresh-owe 0 cells fresh ∙ ap (λ (ks : List K). owed_from plan.tells 0 ks) made

  same_length : (cells : List C) → map plan.part cells ≡ parts → length cells ≡ length parts
  same_length cells made = sym (length-map cells plan.part) ∙ ap length made

  pub start_holds : Fits plan parts → (cells : List C) → All plan.Fresh cells → map plan.part cells ≡ parts → Owing plan parts cells (start_flight plan.start (length cells))
  start_holds fits cells fresh made =
      let all : all_of plan parts ≡ owed_from plan.owed 0 cells ++ start_flight plan.start (length cells) =
      ap (λ (l : List (Envelope M)). l ++ start_flight plan.start (length parts)) (sym (same_owed cells fresh made)) ∙ ap (λ (n : ℕ). owed_from plan.owed 0 cells ++ start_flight plan.start n) (sym (same_length cells made)) in
      record {
        fits = fits;
        handled = [];
        once = moved_same (all_of plan parts) (all_of plan parts) (owed_from plan.owed 0 cells ++ start_flight plan.start (length cells)) (IsPermutation-refl (all_of plan parts)) all;
        many = same_length cells made;
        each = λ i k at.
            let there : slice_get (map plan.part cells) i ≡ Some k = subst (λ (ks : List K). slice_get ks i ≡ Some k) (sym made) at in
            let g = get-map_back plan.part cells i k there in
            (g.0, All-contains plan.Fresh cells g.0 fresh (Contains-at cells i g.0 g.1), g.2, g.1);
      }

  starts_light : (n : ℕ) → sum_by (piece plan) (start_flight plan.start n) ≡ 0
  starts_light zero = refl
  starts_light (suc n) =
      let last : Envelope M = record { to = n; msg = plan.start n } in
      let full : sum_by (piece plan) (start_flight plan.start (suc n)) ≡ sum_by (piece plan) (start_flight plan.start n) + piece plan last =
      ap (sum_by (piece plan)) (start_flight-suc plan.start n) ∙ sum_by_push (piece plan) (start_flight plan.start n) last in
      let none : piece plan last ≡ 0 = ap (λ (b : Bool). cond b 0 1) (is.starts n) in
      full ∙ omega (arith, none, starts_light n)

  all_wait : (cells : List C) → All plan.Fresh cells → sum_by (waiting plan) cells ≡ length cells
  all_wait [] fresh = refl
  all_wait (c ∷ cells) fresh =
      let one : waiting plan c ≡ 1 = ap (λ (b : Bool). cond b 0 1) (is.fresh c (All-head plan.Fresh c cells fresh)) in
      omega (arith, sum_by-cons (waiting plan) c cells, one, all_wait cells (All-tail plan.Fresh c cells fresh))

  pub start_weighs : (cells : List C) → All plan.Fresh cells → map plan.part cells ≡ parts → owing_weight plan cells (start_flight plan.start (length cells)) ≡ owing_start_weight plan parts
  start_weighs cells fresh made =
      let owed = owed_from plan.tells 0 parts in
      let total : length (owed ++ start_flight plan.start (length parts)) ≡ length owed + length (start_flight plan.start (length parts)) = length-append owed (start_flight plan.start (length parts)) in
      let same : length (owed_from plan.owed 0 cells) ≡ length owed = ap length (same_owed cells fresh made) in
      omega (arith, total, same, length-start_flight plan.start (length parts), starts_light (length cells), all_wait cells fresh, same_length cells made)
