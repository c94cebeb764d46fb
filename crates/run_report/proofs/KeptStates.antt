-- The checkpoint of blocks as that of their state.
use Rattle.std.proofs.Common.{◌≡◌, ℕ, List, length, map, take, sym, ap, ◌∙◌}
use Rattle.amount_ledger.specs.Ledgers.{LedgerState}
use Rattle.block_index.specs.Places.{Cube}
use Rattle.block_fields.specs.Blocks.{BlockState}
use Rattle.checkpoint.specs.SavedStates.{saved}
use Rattle.checkpoint.specs.Spelling.{bytes_of}
use Rattle.params_check.specs.Parameters.{Parameters}
use Rattle.run_core.specs.Courses.{totals_of}
use Rattle.run_core.specs.Runs.{blocks_state}
use Rattle.run_report.specs.Actions.{Action, file, state_file}
use Rattle.run_report.specs.FileNames.{state_name}

pub state_file-saved : (p : Parameters) (cycle : ℕ) (places : List Cube) (blocks : List BlockState) (ledger : LedgerState)
    → map (λ (b : BlockState). b.place) blocks ≡ places → ledger.total ≡ totals_of (blocks_state p blocks)
    → file (state_name cycle) (bytes_of (saved p cycle places blocks ledger)) ≡ state_file p cycle (blocks_state p blocks) ledger
state_file-saved p cycle places blocks ledger are totals =
    let make : List Cube → List ℕ → Action = λ leaves held. file (state_name cycle) (bytes_of (record {
      params = p;
      cycle = cycle;
      places = leaves;
      amounts = map (λ (b : BlockState). b.amounts) blocks;
      totals = take (length p.fields) held;
      gone = take (length p.fields) ledger.gone;
    })) in
    ap (λ (leaves : List Cube). make leaves ledger.total) (sym are)
    ∙ ap (λ (held : List ℕ). make (map (λ (b : BlockState). b.place) blocks) held) totals
