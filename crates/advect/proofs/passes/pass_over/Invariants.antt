use Rattle.std.proofs.Common.{◌≡◌, ℕ, ◌+◌, ◌-◌, ◌*◌, ◌^◌, ◌<◌, ◌≤◌, slice_index}
use Rattle.advect.specs.Lemmas.Passes.{cell, gives, layer, passed}
use Rattle.advect.proofs.passes.pass_over.Given as goal

abbrev pub invariant-loop-r : goal.invariant-loop-r
invariant-loop-r l = record {
  moved : (r v i : ℕ) → r < l.r → v < l.layers → i < l.wide → slice_index l.next (cell l.layers l.wide r (layer l.pass.up l.layers v) i) ≡ passed l.pass l.layers l.wide r l.amounts l.initial.next l.initial.faces v i;
  leaves : (r i : ℕ) → r < l.r → i < l.wide → slice_index l.faces (r * l.wide + i) ≡ gives l.pass l.layers (l.layers - 1) (slice_index l.amounts (cell l.layers l.wide r (layer l.pass.up l.layers (l.layers - 1)) i));
  ahead : (k : ℕ) → cell l.layers l.wide l.r 0 0 ≤ k → slice_index l.next k ≡ slice_index l.initial.next k;
  faces_ahead : (k : ℕ) → l.r * l.wide ≤ k → slice_index l.faces k ≡ slice_index l.initial.faces k;
  small : (k : ℕ) → slice_index l.faces k ≤ 2 ^ 42;
}
