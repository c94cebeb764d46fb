-- The states of a run and their totals, from its start on.
use Rattle.run_core.proofs.RunTotals.{Runs-keeps, initial-most, total-together, total-kept, whole-IsCourse}
use Rattle.run_core.specs.Courses.{whole}
use Rattle.run_core.proofs.phase_laws.totals_stay.Goals as goal

pub returns : goal.returns
returns c = record {
  keeps = λ c phases run w runs. Runs-keeps c w phases run runs;
  state = λ p phases run w runs. (Runs-keeps (whole p) (whole-IsCourse p w) phases run runs).state;
  totals = λ p phases f run w runs h. total-kept p w run (Runs-keeps (whole p) (whole-IsCourse p w) phases run runs) f h;
  together = λ p phases f run w runs h. total-together p w run (Runs-keeps (whole p) (whole-IsCourse p w) phases run runs) f h;
  most = λ p f w h. initial-most p w f h;
}
