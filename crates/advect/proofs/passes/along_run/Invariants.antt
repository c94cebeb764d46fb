use Rattle.std.proofs.Common.{◌≡◌, ℕ, ◌+◌, ◌^◌, ◌<◌, ◌≤◌, slice_index}
use Rattle.advect.specs.Lemmas.Passes.{cell, comes, layer, passed}
use Rattle.advect.proofs.passes.along_run.Given as goal

abbrev pub invariant-loop-v : goal.invariant-loop-v
invariant-loop-v l = record {
  moved : (v i : ℕ) → v < l.v → i < 1 → slice_index l.next (cell l.layers 1 l.run (layer l.pass.up l.layers v) i) ≡ passed l.pass l.layers 1 l.run l.amounts l.initial.next l.faces v i;
  ahead : (v i : ℕ) → l.v ≤ v → v < l.layers → i < 1 → slice_index l.next (cell l.layers 1 l.run (layer l.pass.up l.layers v) i) ≡ slice_index l.initial.next (cell l.layers 1 l.run (layer l.pass.up l.layers v) i);
  carry : (i : ℕ) → i < 1 → l.carry ≡ comes l.pass l.layers 1 l.run l.amounts l.faces l.v i;
  small : l.carry ≤ 2 ^ 42;
  cells_before : (k : ℕ) → k < cell l.layers 1 l.run 0 0 → slice_index l.next k ≡ slice_index l.initial.next k;
  cells_after : (k : ℕ) → cell l.layers 1 (l.run + 1) 0 0 ≤ k → slice_index l.next k ≡ slice_index l.initial.next k;
}
