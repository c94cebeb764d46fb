-- What holds at each turn of the loop.
use Rattle.std.proofs.Common.{◌≡◌, ◌-◌, ◌≤◌, length}
use Rattle.std.specs.Io.KnownBytes.{prepend_known}
use Rattle.cello_io.proofs.reading.read_all.Given as goal

-- what was read and what is left are what was left at first
abbrev pub invariant-loop-chunk : goal.invariant-loop-chunk
invariant-loop-chunk g l =
    let S = g.S.Source in
    record {
      read : S.left l.initial.source ≡ prepend_known l.bytes.items (S.left l.source);
      within : length l.bytes.items ≤ l.limit;
      no_fall : S.read_faults l.initial.source ≤ S.read_faults l.source;
    }

abbrev pub decreases-loop-chunk : goal.decreases-loop-chunk
decreases-loop-chunk g l = l.limit - length l.bytes.items
