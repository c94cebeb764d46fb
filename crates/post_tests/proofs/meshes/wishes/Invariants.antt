use Rattle.std.proofs.Common.{◌≡◌, length}
use Rattle.post_tests.proofs.meshes.wishes.Given as goal

abbrev pub invariant-loop-k : goal.invariant-loop-k
invariant-loop-k l = length l.wishes.items ≡ l.k
