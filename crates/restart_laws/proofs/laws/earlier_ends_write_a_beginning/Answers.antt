-- The phases of the one are the first ones of the other.
use Rattle.checkpoint.specs.Reading.{state_in}
use Rattle.restart_laws.specs.Resumes.{gone_by}
use Rattle.restart_laws.proofs.LongerRuns.{writes-beginning}
use Rattle.restart_laws.proofs.laws.earlier_ends_write_a_beginning.Goals as goal

pub returns : goal.returns
returns c = record {
  begins = λ s until last part rest stop limit more ends longer.
      writes-beginning s.params s.cycle (state_in s) (gone_by s) until last part rest stop limit more ends longer;
}
