-- Each state that a run comes to keeps the totals.
use Rattle.cello_top.proofs.ReportTotals.{ends-balance}
use Rattle.cello_top.proofs.laws.every_cycle_balances.Goals as goal

pub returns : goal.returns
returns c = record { balances = λ p run limit w ends. ends-balance p w run limit ends }
