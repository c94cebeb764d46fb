-- One line more, and the last one.
use Rattle.std.proofs.Common.{ℕ, List, ◌++◌, length, sym, ap, ◌∙◌, arith}
use Rattle.std.specs.Prelude.{slice_index}
use Rattle.roomy_runs.specs.Summaries.{amounts_line, demo_line, leaves_line}
use Rattle.cello_top.proofs.SummaryAmounts.{line-more, summary-closed}
use Rattle.cello_top.proofs.SummaryLines.{end_line_is}
use Rattle.cello_top.proofs.summary.summary.Goals as goal

pub loop-name-preserved : goal.loop-name-preserved
loop-name-preserved c =
    let ledger = c.args.ledger.now in
    let front : List ℕ = demo_line c.args.seed c.args.size ++ leaves_line c.args.leaves c.args.params.now.cycles in
    record {
      number = omega (arith, c.loop-name.invariant.number);
      text = c.push-in-loop-name.ensures.bytes
          ∙ line-more ledger front c.loop-name.text c.bytes-in-loop-name.result.now c.items-name-items.result.now c.loop-name.name-index c.loop-name.field c.name-item.result
          c.loop-name-test.true c.name-item.is c.loop-name.invariant.number c.loop-name.invariant.text
          (c.bytes-in-loop-name.ensures.bytes ∙ c.amounts_line.ensures.line
          ∙ ap (λ (l : List ℕ). amounts_line c.name-item.result (slice_index l c.loop-name.field) (slice_index c.gone-gone.result c.loop-name.field)) c.total-total.ensures.total
          ∙ ap (λ (l : List ℕ). amounts_line c.name-item.result (slice_index ledger.total c.loop-name.field) (slice_index l c.loop-name.field)) c.gone-gone.ensures.gone);
      room = omega (arith, c.loop-name.invariant.room, c.push-in-loop-name.ensures.len, c.bytes-in-loop-name.ensures.within, ap (λ (l : List ℕ). length l) c.bytes-in-loop-name.ensures.bytes);
      total = c.total-total.ensures.total;
      gone = c.gone-gone.ensures.gone;
    }

pub returns : goal.returns
returns c = record {
  summary = c.push-2.ensures.bytes
      ∙ summary-closed c.args.ledger.now c.args.seed c.args.size c.args.leaves c.args.params.now c.loop-name.text _ c.items-name-items.result.now c.loop-name.name-index
      (c.items-name-items.ensures.items ∙ c.fields.ensures.fields) c.loop-name-test.false c.loop-name.invariant.text (sym end_line_is);
  few = omega (arith, c.items-name-items.ensures.few, ap (λ (l : List (List ℕ)). length l) (c.items-name-items.ensures.items ∙ c.fields.ensures.fields));
}
