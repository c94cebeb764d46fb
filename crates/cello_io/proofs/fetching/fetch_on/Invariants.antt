-- What holds at each turn of the loop.
use Rattle.std.proofs.Common.{◌-◌, ◌<◌, ◌≤◌, length}
use Rattle.cello_io.specs.Fetching.{IsFront, IsThere, OnlyFetched}
use Rattle.cello_io.proofs.fetching.fetch_on.Given as goal

-- what was fetched is a front of the file, which is there if anything was fetched
abbrev pub invariant-loop-name : goal.invariant-loop-name
invariant-loop-name g l =
    let H = g.H.Shelf in
    record {
      front : IsFront l.name l.bytes.items (H.tells l.shelf);
      there : 0 < length l.bytes.items → IsThere l.name (H.tells l.shelf);
      within : length l.bytes.items ≤ l.limit;
      room : 0 < length l.chunk;
      only : OnlyFetched (H.tells l.initial.shelf) (H.tells l.shelf);
    }

abbrev pub decreases-loop-name : goal.decreases-loop-name
decreases-loop-name g l = l.limit - length l.bytes.items
