-- How great the numbers of a run can be, so that none passes the end of its type.
use Rattle.std.specs.Prelude.{ℕ, ◌^◌}

-- more messages than an adapt phase handles
abbrev pub many_messages : ℕ
many_messages = 2 ^ 40

-- more works than a run has
abbrev pub most_works : ℕ
most_works = 40000
