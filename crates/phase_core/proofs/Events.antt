-- One event of the core machine, by what a phase's laws say at one problem.
use Rattle.std.proofs.Common.{◌≡◌, ℕ, ◌<◌, List, ◌∷◌, ◌++◌, length, refl, ap, sym, ◌∙◌, subst, inl, inr, arith}
use Rattle.std.specs.Prelude.{Some, IsPermutation, slice_get, slice_set, remove}
use Rattle.std.proofs.lemmas.Option.{slice_get_cases, slice_get_within, get_or_from_slice_get}
use Rattle.std.proofs.lemmas.List.Sorted.{IsPermutation-remove}
use Rattle.phase_core.specs.declared.envelope.Envelope.{Envelope}
use Rattle.phase_core.specs.Machine.{Reaction, CoreState, Handles}
use Rattle.phase_core.specs.PhaseLaws.{Keeps, Lowers, HoldsInAnyOrder, WeighsInAnyOrder, IsAddressed}
use Rattle.phase_core.specs.Stands.{Stands}

-- what a phase's laws say at one problem
pub record Laws {C M : Type 0} (react : ℕ → C → M → Reaction C M) (holds : List C → List (Envelope M) → Type 0) (weight : List C → List (Envelope M) → ℕ) : Type 0 where
  pub keeps : Keeps react holds
  pub lowers : Lowers react holds weight
  pub holds_in_any_order : HoldsInAnyOrder holds
  pub weighs_in_any_order : WeighsInAnyOrder weight
  pub addressed : IsAddressed holds

pub same_state : {C M : Type 0} (t u : CoreState C M) → t.cells ≡ u.cells → t.flight ≡ u.flight → t ≡ u
same_state {C} {M} t u p q =
    let first : List C → CoreState C M = λ cells. record { cells = cells; flight = t.flight } in
    let second : List (Envelope M) → CoreState C M = λ flight. record { cells = u.cells; flight = flight } in
    ap first p ∙ ap second q

-- a state has at most one next state by an event
pub Handles-once : {C M : Type 0} {react : ℕ → C → M → Reaction C M} {s : CoreState C M} {i : ℕ} {t u : CoreState C M} → Handles react s i t → Handles react s i u → t ≡ u
Handles-once {C} {M} {react} {s} {i} {t} {u} h k =
    let e : h.envelope ≡ k.envelope = cc in
    let c : h.cell ≡ k.cell = cc in
    let cells : t.cells ≡ u.cells = cc in
    let flight : t.flight ≡ u.flight = cc in
    same_state t u cells flight

-- the envelope at i may be thought of as the first
pub moved_to_front : {M : Type 0} (flight : List (Envelope M)) (i : ℕ) (e : Envelope M) → slice_get flight i ≡ Some e → IsPermutation flight (e ∷ remove flight i)
moved_to_front flight i e taken =
    IsPermutation-remove flight i e (slice_get_within flight i e taken) (sym (get_or_from_slice_get flight i e e taken))

-- an event keeps the invariant
pub Handles-holds : {C M : Type 0} {react : ℕ → C → M → Reaction C M} {holds : List C → List (Envelope M) → Type 0} {weight : List C → List (Envelope M) → ℕ} → Laws react holds weight → {s : CoreState C M} {i : ℕ} {t : CoreState C M} → Handles react s i t → holds s.cells s.flight → holds t.cells t.flight
Handles-holds laws {s} {i} {t} h valid =
    let rest = remove s.flight i in
    let front = laws.holds_in_any_order s.cells s.flight (h.envelope ∷ rest) (moved_to_front s.flight i h.envelope h.taken) valid in
    rw (h.cells, h.flight) (laws.keeps s.cells h.envelope rest h.cell front h.stands)

-- an event lowers the weight
pub Handles-weight : {C M : Type 0} {react : ℕ → C → M → Reaction C M} {holds : List C → List (Envelope M) → Type 0} {weight : List C → List (Envelope M) → ℕ} → Laws react holds weight → {s : CoreState C M} {i : ℕ} {t : CoreState C M} → Handles react s i t → holds s.cells s.flight → weight t.cells t.flight < weight s.cells s.flight
Handles-weight laws {s} {i} {t} h valid =
    let rest = remove s.flight i in
    let moved = moved_to_front s.flight i h.envelope h.taken in
    let front = laws.holds_in_any_order s.cells s.flight (h.envelope ∷ rest) moved valid in
    rw (h.cells, h.flight, ← (laws.weighs_in_any_order s.cells s.flight (h.envelope ∷ rest) moved)) (laws.lowers s.cells h.envelope rest h.cell front h.stands)

-- each envelope in flight can be handled
pub Handles-next : {C M : Type 0} {react : ℕ → C → M → Reaction C M} {holds : List C → List (Envelope M) → Type 0} {weight : List C → List (Envelope M) → ℕ} → Laws react holds weight → (s : CoreState C M) (i : ℕ) → holds s.cells s.flight → i < length s.flight → (t : CoreState C M) × Handles react s i t
Handles-next {C} {M} {react} laws s i valid within =
    elim (slice_get_cases s.flight i).1 [
      | inl e ↦
          let to_cell : e.0.to < length s.cells = subst (λ (x : Envelope M). x.to < length s.cells) e.3 (laws.addressed s.cells s.flight valid i e.0 within) in
          elim (slice_get_cases s.cells e.0.to).1 [
            | inl c ↦
                let r = react e.0.to c.0 e.0.msg in (
                  record { cells = slice_set s.cells e.0.to r.cell; flight = remove s.flight i ++ r.sent },
                  record { envelope = e.0; cell = c.0; taken = e.2; stands = c.2; cells = refl; flight = refl },
                )
            | inr past ↦ absurd (omega (arith, past.0, to_cell))
          ]
      | inr past ↦ absurd (omega (arith, past.0, within))
    ]

-- the first envelope of a flight is for a cell
pub first_within : {C M : Type 0} {holds : List C → List (Envelope M) → Type 0} → IsAddressed holds → (cells : List C) (e : Envelope M) (rest : List (Envelope M)) → holds cells (e ∷ rest) → e.to < length cells
first_within addressed cells e rest valid = addressed cells (e ∷ rest) valid 0 e (omega arith)

-- the first envelope of a flight may be handled
pub Stands-first : {Q C M : Type 0} {holds : Q → List C → List (Envelope M) → Type 0} {problem : List C → Q} (cells : List C) (e : Envelope M) (rest : List (Envelope M)) (cell : C) → slice_get cells e.to ≡ Some cell → holds (problem cells) cells (e ∷ rest) → Stands holds problem e.to cell e.msg cells (e ∷ rest)
Stands-first cells e rest cell here valid = record { here = here; waits = (0, omega arith, refl); valid = valid }

-- what handling the first envelope does
pub Handles-first : {C M : Type 0} (react : ℕ → C → M → Reaction C M) (cells : List C) (e : Envelope M) (rest : List (Envelope M)) (cell new : C) (after : List (Envelope M)) → slice_get cells e.to ≡ Some cell → new ≡ (react e.to cell e.msg).cell → after ≡ rest ++ (react e.to cell e.msg).sent → Handles react (record { cells = cells; flight = e ∷ rest }) 0 (record { cells = slice_set cells e.to new; flight = after })
Handles-first react cells e rest cell new after here is_new is_after =
    record { envelope = e; cell = cell; taken = refl; stands = here; cells = ap (λ c. slice_set cells e.to c) is_new; flight = is_after }
