-- The lines so far, and how long they are at most.
use Rattle.std.proofs.Common.{◌≡◌, ◌≤◌, ◌+◌, ◌*◌, ◌++◌, length, take}
use Rattle.roomy_runs.specs.Summaries.{demo_line, leaves_line}
use Rattle.cello_top.specs.Lemmas.Demonstrating.{ledger_lines}
use Rattle.cello_top.proofs.summary.summary.Given as goal

abbrev pub invariant-loop-name : goal.invariant-loop-name
invariant-loop-name l = record {
  number : l.field ≡ l.name-index;
  text : l.text ≡ (demo_line l.seed l.size ++ leaves_line l.leaves l.params.cycles) ++ ledger_lines l.ledger 0 (take l.name-index l.name-items);
  room : length l.text ≤ 320 + 160 * l.name-index;
  total : l.total ≡ l.ledger.total;
  gone : l.gone ≡ l.ledger.gone;
}
