use Rattle.std.proofs.Common.{◌≡◌, ℕ, ◌+◌, ◌*◌, ◌^◌, ◌<◌, ◌≤◌, slice_index}
use Rattle.advect.specs.Lemmas.Passes.{cell, comes, layer, passed}
use Rattle.advect.proofs.passes.across_run.Given as goal

abbrev pub invariant-loop-v : goal.invariant-loop-v
invariant-loop-v l = record {
  moved : (v i : ℕ) → v < l.v → i < l.wide → slice_index l.next (cell l.layers l.wide l.run (layer l.pass.up l.layers v) i) ≡ passed l.pass l.layers l.wide l.run l.amounts l.initial.next l.initial.faces v i;
  ahead : (v i : ℕ) → l.v ≤ v → v < l.layers → i < l.wide → slice_index l.next (cell l.layers l.wide l.run (layer l.pass.up l.layers v) i) ≡ slice_index l.initial.next (cell l.layers l.wide l.run (layer l.pass.up l.layers v) i);
  carry : (i : ℕ) → i < l.wide → slice_index l.faces (l.run * l.wide + i) ≡ comes l.pass l.layers l.wide l.run l.amounts l.initial.faces l.v i;
  small : (i : ℕ) → i < l.wide → slice_index l.faces (l.run * l.wide + i) ≤ 2 ^ 42;
  cells_before : (k : ℕ) → k < cell l.layers l.wide l.run 0 0 → slice_index l.next k ≡ slice_index l.initial.next k;
  cells_after : (k : ℕ) → cell l.layers l.wide (l.run + 1) 0 0 ≤ k → slice_index l.next k ≡ slice_index l.initial.next k;
  faces_before : (k : ℕ) → k < l.run * l.wide → slice_index l.faces k ≡ slice_index l.initial.faces k;
  faces_after : (k : ℕ) → (l.run + 1) * l.wide ≤ k → slice_index l.faces k ≡ slice_index l.initial.faces k;
}
