-- What a wave and a look at the verdict answer.
use Rattle.std.specs.Prelude.{◌≡◌, ◌≢◌, ℕ, length}
use Rattle.quiet_table.specs.Words.{adds}
use Rattle.quiet_table.specs.declared.view.View.{View}
use Rattle.quiet_table.specs.declared.wave.Wave.{Wave}
use Rattle.quiet_table.specs.declared.wave.Wave.TheVariants.{Quiet, NotYet, Stopped}
use Rattle.quiet_table.specs.declared.wave.Verdict.{Verdict}
use Rattle.quiet_table.specs.declared.wave.Verdict.TheVariants as verdicts

-- The view after a full wave: both have a number of each shard. NotYet has the two sums, which differ; else they are
-- equal, and the seat has seen the verdict.
abbrev pub Waved : {R E : Type 0} → ℕ → View R E → Wave → Type 0
Waved shards v Quiet = (length v.first ≡ shards) × (length v.second ≡ shards) × (adds v.first ≡ adds v.second) × (v.seen ≡ 1)
Waved shards v (NotYet handled sent) = (length v.first ≡ shards) × (length v.second ≡ shards) × (handled ≡ adds v.first) × (sent ≡ adds v.second) × (handled ≢ sent)
Waved shards v Stopped = (length v.first ≡ shards) × (length v.second ≡ shards) × (adds v.first ≡ adds v.second) × (v.seen ≡ 2)

-- the word that a verdict is read from
abbrev pub verdict_word : Verdict → ℕ
verdict_word verdicts.Running = 0
verdict_word verdicts.Quiet = 1
verdict_word verdicts.Stopped = 2

-- whoever has seen a verdict sees the same one later
abbrev pub SeesAgain : ℕ → ℕ → Type 0
SeesAgain before now = before ≢ 0 → now ≡ before
