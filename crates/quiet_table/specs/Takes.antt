-- What a try for a slot answers.
use Rattle.std.specs.Prelude.{ℕ}
use Rattle.quiet_table.specs.declared.take.Take.{Take}
use Rattle.quiet_table.specs.declared.take.Take.TheVariants.{Taken, Held}

-- a fact of each variant
abbrev pub Tells : {T : Type 0} → (T → Type 0) → (ℕ → Type 0) → Take T → Type 0
Tells p q (Taken x) = p x
Tells p q (Held n) = q n
