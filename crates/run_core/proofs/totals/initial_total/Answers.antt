-- The total by the parameters' shapes is that of the initial state.
use Rattle.std.proofs.Common.{rules}
use Rattle.run_core.proofs.RunTotals.{initial-shown}
use Rattle.run_core.proofs.totals.initial_total.Goals as goal

pub returns-then-field-items : goal.returns-then-field-items
returns-then-field-items c = initial-shown c.args.params.now c.args.field c.initial_total.result (search rules) c.initial_total.ensures.total
