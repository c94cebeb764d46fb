use Rattle.prolong_restrict.proofs.RoundTrips.{sums_of-parts_of, join_amounts-split_amounts}
use Rattle.prolong_restrict.proofs.laws.joining_undoes_splitting.Goals as goal

pub returns : goal.returns
returns c = record {
  field = λ n a q some long. sums_of-parts_of n some a q long;
  fields = λ n fields a amounts some l full. join_amounts-split_amounts n some fields a amounts l full;
}
