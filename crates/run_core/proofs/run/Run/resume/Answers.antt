-- The blocks hold the state in which the run starts, and the ledger has its totals.
use Rattle.std.proofs.Common.{◌+◌, ap, rules}
use Rattle.run_core.proofs.Beginning.{resumed-keeps}
use Rattle.run_core.proofs.run.Run.resume.Goals as goal

pub invariant_of-result : goal.invariant_of-result
invariant_of-result g c =
    resumed-keeps c.args.params c.rounds.ensures.limits c.args.set c.args.ledger
    (record { blocks = c.args.blocks.items; wishes = c.new.result.items; faces = c.new-2.result.items }) c.args.cycle (c.rounds.result + c.args.cycle) c.args.until
    c.after_cycle_told.result g.S.Start.start c.requires.grid c.requires.blocks c.requires.state c.requires.restored c.requires.together c.requires.cycle
    c.requires.until (ap (λ n. n + c.args.cycle) c.rounds.ensures.rounds) c.requires.start c.saturating_sub-all.result (search rules) c.after_cycle_told.ensures.step
