-- Envelopes that wait at a shard were handled in order.
use Rattle.std.specs.Prelude.{◌≡◌, ℕ, List, [], ◌∷◌, ◌++◌, length, Some, slice_get, slice_set}
use Rattle.phase_core.specs.declared.envelope.Envelope.{Envelope}
use Rattle.phase_core.specs.Machine.{Reaction}
use Rattle.post_office.specs.Shares.{IsFor, rank}

module _ {C M : Type 0} (react : ℕ → C → M → Reaction C M) (owners : List ℕ) (shard : ℕ) where
  -- these envelopes were handled one after another at the cells of the shard, and that is what they sent
  abbrev pub HandledInOrder : List (Envelope M) → List C → List C → List (Envelope M) → Type 0
  HandledInOrder [] cells cells' sent = (cells' ≡ cells) × (sent ≡ [])
  HandledInOrder (e ∷ es) cells cells' sent = (c : C) × (more : List (Envelope M)) × IsFor owners shard e × (slice_get cells (rank owners shard e.to) ≡ Some c) × (sent ≡ (react e.to c e.msg).sent ++ more)
      × HandledInOrder es (slice_set cells (rank owners shard e.to) (react e.to c e.msg).cell) cells' more

  -- so many of those that waited first left their list, and were handled in order
  pub record HandledFirst (count : ℕ) (mail mail' : List (List (Envelope M))) (cells cells' : List C) (sent : List (Envelope M)) : Type 0 where
    pub es : List (Envelope M)
    pub rest : List (Envelope M)
    pub first : slice_get mail shard ≡ Some (es ++ rest)
    pub counts : count ≡ length es
    pub left : mail' ≡ slice_set mail shard rest
    pub handled : HandledInOrder es cells cells' sent
