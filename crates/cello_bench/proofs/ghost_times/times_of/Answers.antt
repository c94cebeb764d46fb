use Rattle.std.proofs.Common.{◌≡◌, Some, slice_get, subst}
use Rattle.cello_bench.proofs.ghost_times.times_of.Goals as goal

pub time_filing-requires : goal.time_filing-requires
time_filing-requires c =
    record { fit = λ k p e. (c.time_filling.ensures.fit k p (subst (λ l. slice_get l k ≡ Some p) c.deref-2.ensures.value e)).size }
