-- The root blocks hold the state before the first phase, and the ledger its totals.
use Rattle.std.proofs.Common.{ap, ◌∙◌}
use Rattle.leaf_set.specs.RootMesh.{root_mesh}
use Rattle.amount_ledger.specs.Ledgers.{first_ledger}
use Rattle.run_core.specs.Steps.{after_round}
use Rattle.run_core.proofs.Beginning.{begun-keeps, begun-stands}
use Rattle.run_core.proofs.run.«Run+Whole».begin.Goals as goal

pub invariant_of-result : goal.invariant_of-result
invariant_of-result c =
    begun-keeps c.args.params c.domain.ensures.limits c.in_ok-set.set c.new-ledger.result
    (record { blocks = c.in_ok-blocks.blocks.items; wishes = c.new.result.items; faces = c.new-2.result.items }) c.after_round-step.result
    (c.in_ok-set.ensures.grid ∙ c.domain.ensures.domain) (c.in_ok-set.ensures.places ∙ ap root_mesh c.domain.ensures.domain)
    (c.new-ledger.ensures.first ∙ ap first_ledger c.initial_totals.ensures) (c.after_round-step.ensures.step ∙ ap (λ n. after_round n 0) c.rounds.ensures.rounds)
    c.in_ok-blocks.ensures.blocks c.in_ok-blocks.ensures.state c.cycles-last.result c.cycles-last.ensures.cycles

pub returns-clause-stands : goal.returns-clause-stands
returns-clause-stands c =
    begun-stands c.args.params c.domain.ensures.limits c.in_ok-set.set c.new-ledger.result
    (record { blocks = c.in_ok-blocks.blocks.items; wishes = c.new.result.items; faces = c.new-2.result.items }) c.after_round-step.result
    (c.in_ok-set.ensures.grid ∙ c.domain.ensures.domain) (c.in_ok-set.ensures.places ∙ ap root_mesh c.domain.ensures.domain)
    (c.new-ledger.ensures.first ∙ ap first_ledger c.initial_totals.ensures) (c.after_round-step.ensures.step ∙ ap (λ n. after_round n 0) c.rounds.ensures.rounds)
    c.in_ok-blocks.ensures.blocks c.in_ok-blocks.ensures.state c.cycles-last.result c.cycles-last.ensures.cycles
