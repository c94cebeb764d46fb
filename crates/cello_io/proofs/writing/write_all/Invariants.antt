-- What holds at each turn of the loop.
use Rattle.std.proofs.Common.{◌≡◌, ◌≤◌, List, ℕ, [], ◌++◌, length}
use Rattle.std.specs.Io.KnownBytes.{append_known}
use Rattle.cello_io.proofs.writing.write_all.Given as goal

-- what was written and what is left make up the piece
abbrev pub invariant-loop-left : goal.invariant-loop-left
invariant-loop-left g l =
    let K = g.K.Sink in
    (done : List ℕ)
    × (done ++ l.left ≡ l.initial.left)
    × (K.written l.sink ≡ append_known (K.written l.initial.sink) done)
    × (K.rest l.sink ≡ K.rest l.initial.sink)
    × (K.write_faults l.initial.sink ≤ K.write_faults l.sink)
    × (l.initial.left ≡ [] → l.sink ≡ l.initial.sink)

abbrev pub decreases-loop-left : goal.decreases-loop-left
decreases-loop-left g l = length l.left
