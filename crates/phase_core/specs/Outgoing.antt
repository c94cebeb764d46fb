-- What contracts see of an outbox: the envelopes sent so far, in order, and how many more have a place.
use Rattle.std.specs.Prelude.{ℕ, List}
use Rattle.phase_core.specs.declared.envelope.Envelope.{Envelope}

pub record Outgoing (M : Type 0) : Type 0 where
  pub items : List (Envelope M)
  pub spare : ℕ
