-- The start messages, as a list that grows at its end.
use Rattle.std.specs.Prelude.{◌≡◌, ℕ, ◌+◌, List, [], ◌∷◌, ◌++◌, length}
use Rattle.std.proofs.Common.{zero-add, add-one, suc, ap, sym, ◌∙◌}
use Rattle.std.proofs.lemmas.List.FromFn.{map-range_with_len_more, length-map-range_with_len}
use Rattle.phase_core.specs.declared.envelope.Envelope.{Envelope}
use Rattle.phase_core.specs.Machine.{start_flight}

-- one more cell
pub start_flight-more : {M : Type 0} (start : ℕ → M) (count : ℕ) → start_flight start (count + 1) ≡ start_flight start count ++ (record { to = count; msg = start count }) ∷ []
start_flight-more {M} start count =
    let envelope : ℕ → Envelope M = λ to. record { to = to; msg = start to } in
    map-range_with_len_more envelope 0 count count (zero-add count)

-- the same, as an induction over the count has it
pub start_flight-suc : {M : Type 0} (start : ℕ → M) (count : ℕ) → start_flight start (suc count) ≡ start_flight start count ++ (record { to = count; msg = start count }) ∷ []
start_flight-suc {M} start count =
    let flight : ℕ → List (Envelope M) = λ n. start_flight start n in
    ap flight (sym (add-one count)) ∙ start_flight-more start count

pub length-start_flight : {M : Type 0} (start : ℕ → M) (count : ℕ) → length (start_flight start count) ≡ count
length-start_flight {M} start count =
    let envelope : ℕ → Envelope M = λ to. record { to = to; msg = start to } in
    length-map-range_with_len envelope 0 count
