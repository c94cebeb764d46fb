-- The test phase keeps the laws of phases.
use Rattle.std.specs.Prelude.{◌≡◌, ℕ, suc, zero, ◌+◌, ◌*◌, ◌<◌, ◌≤◌, ◌^◌, List, [], ◌∷◌, ◌++◌, Some, All, IsPermutation, length, map, sum_by, slice_get, slice_set, refl}
use Rattle.std.proofs.Common.{ap, sym, ◌∙◌, subst, arith}
use Rattle.std.proofs.lemmas.List.{length-set}
use Rattle.std.proofs.lemmas.List.Elements.{All-append, All-set, All-tail, All-head, All-cons, All-nil, All-push, All-weaker}
use Rattle.std.proofs.lemmas.List.Sorted.{All-permutation, sum_by-IsPermutation}
use Rattle.std.proofs.lemmas.List.Sums.{sum_by-append, sum_by-cons}
use Rattle.std.proofs.lemmas.Option.{slice_get_within, get_or_from_slice_get}
use Rattle.phase_core.specs.declared.envelope.Envelope.{Envelope}
use Rattle.phase_core.specs.Machine.{start_flight}
use Rattle.phase_core.specs.Lemmas.Starts.{start_flight-suc}
use Rattle.phase_core.specs.Lemmas.Lookups.{map-slice_set_same}
use Rattle.phase_core.specs.Lemmas.Ring.{RingPlace, RingNote, Begin, Token, Answer, RingProblem, ring_problem, ring_react, ring_weigh, ring_weight, IsFromBelow, IsWithin, IsRing, RingHolds, ring_start, ring_start_weight}

-- the cell that stands at a place meets what all meet
at_place : (P : RingPlace → Type 0) (cells : List RingPlace) (at : ℕ) (cell : RingPlace) → slice_get cells at ≡ Some cell → All P cells → P cell
at_place P cells at cell here all = subst P (get_or_from_slice_get cells at cell cell here) (all at cell (slice_get_within cells at cell here))

react_next : (p : RingProblem) (at : ℕ) (cell : RingPlace) (msg : RingNote) → (ring_react p at cell msg).cell.next ≡ cell.next
react_next p at cell Begin = refl
react_next p at cell (Token from) = refl
react_next p at cell (Answer from) = refl

react_within : (p : RingProblem) (at : ℕ) (cell : RingPlace) (msg : RingNote) → at < p.places → cell.next < p.places → IsFromBelow p.places msg → All (IsWithin p.places) (ring_react p at cell msg).sent
react_within p at cell Begin a n f = All-cons (IsWithin p.places) _ [] (n, a) (All-nil (IsWithin p.places))
react_within p at cell (Token from) a n f = All-cons (IsWithin p.places) _ [] (f, a) (All-nil (IsWithin p.places))
react_within p at cell (Answer from) a n f = All-nil (IsWithin p.places)

react_weighs : (p : RingProblem) (at : ℕ) (cell : RingPlace) (msg : RingNote) → sum_by (λ e. ring_weigh e.msg) (ring_react p at cell msg).sent < ring_weigh msg
react_weighs p at cell Begin = omega arith
react_weighs p at cell (Token from) = omega arith
react_weighs p at cell (Answer from) = omega arith

lower_by : (sent one rest after before : ℕ) → after ≡ rest + sent → before ≡ one + rest → sent < one → after < before
lower_by sent one rest after before a b less = omega arith

pub keeps : (p : RingProblem) (cells : List RingPlace) (e : Envelope RingNote) (rest : List (Envelope RingNote)) (cell : RingPlace) → RingHolds p cells (e ∷ rest) → slice_get cells e.to ≡ Some cell → RingHolds p (slice_set cells e.to (ring_react p e.to cell e.msg).cell) (rest ++ (ring_react p e.to cell e.msg).sent)
keeps p cells e rest cell holds here =
    let r = ring_react p e.to cell e.msg in
    let within = All-head (IsWithin p.places) e rest holds.1 in
    let next : cell.next < p.places = at_place (λ c. c.next < p.places) cells e.to cell here holds.0.nexts in
    let same : r.cell.next ≡ cell.next = react_next p e.to cell e.msg in
    let next_new : r.cell.next < p.places = omega (arith, next, same) in (
      record {
        few = holds.0.few;
        many = length-set cells e.to r.cell ∙ holds.0.many;
        nexts = All-set (λ c. c.next < p.places) cells e.to r.cell next_new holds.0.nexts;
      },
      All-append (IsWithin p.places) rest r.sent (All-tail (IsWithin p.places) e rest holds.1) (react_within p e.to cell e.msg within.0 next within.1),
    )

pub lowers : (p : RingProblem) (cells : List RingPlace) (e : Envelope RingNote) (rest : List (Envelope RingNote)) (cell : RingPlace) → RingHolds p cells (e ∷ rest) → slice_get cells e.to ≡ Some cell → ring_weight p (slice_set cells e.to (ring_react p e.to cell e.msg).cell) (rest ++ (ring_react p e.to cell e.msg).sent) < ring_weight p cells (e ∷ rest)
lowers p cells e rest cell holds here =
    let weigh : Envelope RingNote → ℕ = λ x. ring_weigh x.msg in
    let sent = (ring_react p e.to cell e.msg).sent in
    lower_by (sum_by weigh sent) (ring_weigh e.msg) (sum_by weigh rest) (sum_by weigh (rest ++ sent)) (sum_by weigh (e ∷ rest)) (sum_by-append weigh rest sent) (sum_by-cons weigh e rest) (react_weighs p e.to cell e.msg)

pub same_nexts : (cells : List RingPlace) (p : RingProblem) (at : ℕ) (cell : RingPlace) (msg : RingNote) → slice_get cells at ≡ Some cell → map (λ c. c.next) (slice_set cells at (ring_react p at cell msg).cell) ≡ map (λ c. c.next) cells
same_nexts cells p at cell msg here = map-slice_set_same (λ c. c.next) cells at cell (ring_react p at cell msg).cell here (react_next p at cell msg)

pub holds_in_any_order : (p : RingProblem) (cells : List RingPlace) (flight other : List (Envelope RingNote)) → IsPermutation flight other → RingHolds p cells flight → RingHolds p cells other
holds_in_any_order p cells flight other moved holds = (holds.0, All-permutation (IsWithin p.places) flight other moved holds.1)

pub weighs_in_any_order : (p : RingProblem) (cells : List RingPlace) (flight other : List (Envelope RingNote)) → IsPermutation flight other → ring_weight p cells other ≡ ring_weight p cells flight
weighs_in_any_order p cells flight other moved = sum_by-IsPermutation (λ e. ring_weigh e.msg) flight other moved

pub few_cells : (p : RingProblem) (cells : List RingPlace) (flight : List (Envelope RingNote)) → RingHolds p cells flight → length cells < 2 ^ 32
few_cells p cells flight holds = omega (arith, holds.0.few, holds.0.many)

pub addressed : (p : RingProblem) (cells : List RingPlace) (flight : List (Envelope RingNote)) → RingHolds p cells flight → All (λ e. e.to < length cells) flight
addressed p cells flight holds =
    let weaker : (e : Envelope RingNote) → IsWithin p.places e → e.to < length cells = λ e w. omega (arith, w.0, holds.0.many) in
    All-weaker (IsWithin p.places) (λ e. e.to < length cells) weaker flight holds.1

pub start_weight_fits : (p : RingProblem) (cells : List RingPlace) (flight : List (Envelope RingNote)) → RingHolds p cells flight → ring_start_weight p < 2 ^ 62
start_weight_fits p cells flight holds = omega (arith, holds.0.few)

starts_within : (n count : ℕ) → count ≤ n → All (IsWithin n) (start_flight ring_start count)
starts_within n zero few = All-nil (IsWithin n)
starts_within n (suc count) few =
    let last : IsWithin n (record { to = count; msg = Begin }) = (omega arith, tt) in
    subst (All (IsWithin n)) (sym (start_flight-suc ring_start count)) (All-push (IsWithin n) (start_flight ring_start count) (record { to = count; msg = Begin }) (starts_within n count (omega arith)) last)

pub start_holds : (p : RingProblem) (cells : List RingPlace) → IsRing p cells → RingHolds p cells (start_flight ring_start (length cells))
start_holds p cells ring = (ring, starts_within p.places (length cells) (omega (arith, ring.many)))

starts_weigh : (count : ℕ) → sum_by (λ e. ring_weigh e.msg) (start_flight ring_start count) ≡ 3 * count
starts_weigh zero = refl
starts_weigh (suc count) =
    let weigh : Envelope RingNote → ℕ = λ e. ring_weigh e.msg in
    let before = start_flight ring_start count in
    let last : List (Envelope RingNote) = (record { to = count; msg = Begin }) ∷ [] in
    let full : sum_by weigh (start_flight ring_start (suc count)) ≡ sum_by weigh before + 3 = ap (sum_by weigh) (start_flight-suc ring_start count) ∙ sum_by-append weigh before last in
    let rest : sum_by weigh before ≡ 3 * count = starts_weigh count in
    full ∙ omega (arith, rest)

pub start_weighs : (p : RingProblem) (cells : List RingPlace) → IsRing p cells → ring_weight p cells (start_flight ring_start (length cells)) ≡ ring_start_weight p
start_weighs p cells ring = omega (arith, starts_weigh (length cells), ring.many)

pub same_problem : (places : ℕ) (p : RingProblem) (cells : List RingPlace) (at : ℕ) (cell : RingPlace) (msg : RingNote) → slice_get cells at ≡ Some cell → ring_problem places (slice_set cells at (ring_react p at cell msg).cell) ≡ ring_problem places cells
same_problem places p cells at cell msg here =
    let with_parts : List ℕ → RingProblem = λ nexts. record { places = places; nexts = nexts } in
    ap with_parts (same_nexts cells p at cell msg here)
