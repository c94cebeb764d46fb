-- What contracts see of a phase that has come to rest: its problem, its cells, and how many messages were handled.
use Rattle.std.specs.Prelude.{ℕ, List}

pub record Settled (Q C : Type 0) : Type 0 where
  pub problem : Q
  pub cells : List C
  pub handled : ℕ
