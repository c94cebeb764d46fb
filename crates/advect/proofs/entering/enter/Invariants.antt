use Rattle.std.proofs.Common.{◌≡◌, ℕ, ◌+◌, ◌*◌, ◌<◌, slice_index}
use Rattle.advect.specs.Lemmas.Shares.{carried}
use Rattle.advect.proofs.entering.enter.Given as goal

abbrev pub invariant-loop-r : goal.invariant-loop-r
invariant-loop-r l = (r i : ℕ) → r < l.r → i < l.wide → slice_index l.faces (r * l.wide + i) ≡ carried l.share (slice_index l.ghosts ((r * l.depth + l.position) * l.wide + i))
