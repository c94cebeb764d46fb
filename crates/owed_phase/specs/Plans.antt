-- Phases in which each cell owes messages that the problem tells, and each message is handled once.
use Rattle.std.specs.Prelude.{◌≡◌, ℕ, suc, ◌==◌, Bool, true, false, cond, List, [], ◌∷◌, ◌++◌, All, IsPermutation, length, slice_get, Some}
use Rattle.phase_core.specs.declared.envelope.Envelope.{Envelope}
use Rattle.phase_core.specs.Machine.{Reaction, start_flight}

-- What such a phase is, over plain data: parts of the problem, cells and messages. `owed` is what a cell at a
-- position has still to send.
pub record Plan (K C M : Type 0) : Type 1 where
  pub start : ℕ → M
  pub is_start : M → Bool
  pub part : C → K
  -- what a cell may be before anything was handled, and what such a cell of a part owes
  pub Fresh : C → Type 0
  pub tells : ℕ → K → List (Envelope M)
  pub started : C → Bool
  pub owed : ℕ → C → List (Envelope M)
  pub react : ℕ → C → M → Reaction C M

-- what all cells from position k on have still to send
abbrev pub owed_from : {C M : Type 0} → (ℕ → C → List (Envelope M)) → ℕ → List C → List (Envelope M)
owed_from owed k [] = []
owed_from owed k (c ∷ cells) = owed k c ++ owed_from owed (suc k) cells

-- the messages to a position, among these
abbrev pub inbox : {M : Type 0} → ℕ → List (Envelope M) → List M
inbox i [] = []
inbox i (e ∷ es) = cond (e.to == i) (e.msg ∷ inbox i es) (inbox i es)

-- the cell after these messages, the last first
abbrev pub after : {C M : Type 0} → (ℕ → C → M → Reaction C M) → ℕ → C → List M → C
after react i c [] = c
after react i c (m ∷ done) = (react i (after react i c done) m).cell

-- all messages of the phase: those that the first cells owe, and the starts
abbrev pub all_of : {K C M : Type 0} → Plan K C M → List K → List (Envelope M)
all_of plan parts = owed_from plan.tells 0 parts ++ start_flight plan.start (length parts)

-- The cell of an envelope that is next: what it has handled, in order, and that the envelope is one of all messages
-- and was not handled before.
pub record Due {K C M : Type 0} (plan : Plan K C M) (parts : List K) (e : Envelope M) (c : C) : Type 0 where
  pub part : K
  pub first : C
  pub handled : List (Envelope M)
  pub others : List (Envelope M)
  pub here : slice_get parts e.to ≡ Some part
  pub fresh : plan.Fresh first
  pub of_part : plan.part first ≡ part
  pub is : c ≡ after plan.react e.to first (inbox e.to handled)
  pub once : IsPermutation (all_of plan parts) (e ∷ (handled ++ others))
  -- a start is for a cell that hasn't started
  pub waits : plan.is_start e.msg ≡ true → plan.started c ≡ false

-- what a phase proves of its plan
pub record IsPlan {K C M : Type 0} (plan : Plan K C M) (parts : List K) : Type 0 where
  pub starts : (i : ℕ) → plan.is_start (plan.start i) ≡ true
  pub pieces : (i : ℕ) (c : C) → All (λ e. plan.is_start e.msg ≡ false) (plan.owed i c)
  pub pieces_told : (i : ℕ) (k : K) → All (λ e. plan.is_start e.msg ≡ false) (plan.tells i k)
  pub fresh : (c : C) → plan.Fresh c → plan.started c ≡ false
  pub owes : (i : ℕ) (c : C) → plan.Fresh c → plan.owed i c ≡ plan.tells i (plan.part c)
  pub starting : (i : ℕ) (c : C) (m : M) → plan.is_start m ≡ true → plan.started (plan.react i c m).cell ≡ true
  pub staying : (i : ℕ) (c : C) (m : M) → plan.is_start m ≡ false → plan.started (plan.react i c m).cell ≡ plan.started c
  -- what a cell owed before a handling is what it owes after it and what it sent
  pub sends : (e : Envelope M) (c : C) → Due plan parts e c →
      IsPermutation (plan.owed e.to c) (plan.owed e.to (plan.react e.to c e.msg).cell ++ (plan.react e.to c e.msg).sent)

-- and that a cell keeps its part
abbrev pub KeepsPart : {K C M : Type 0} → Plan K C M → Type 0
KeepsPart {K} {C} {M} plan = (i : ℕ) (c : C) (m : M) → plan.part (plan.react i c m).cell ≡ plan.part c
