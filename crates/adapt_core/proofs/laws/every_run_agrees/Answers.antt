-- From the laws of the phase and its levels at rest.
use Rattle.std.proofs.Common.{subst, arith}
use Rattle.std.proofs.lemmas.List.{length-map}
use Rattle.adapt_core.specs.Cells.{LeafPart}
use Rattle.adapt_core.specs.Holds.{AdaptHolds}
use Rattle.adapt_core.specs.Lemmas.Beginning.{start_weight_most}
use Rattle.adapt_core.proofs.Rest.{levels-IsLeast}
use Rattle.adapt_core.proofs.EveryRun.{run_holds, run_handles}
use Rattle.adapt_core.proofs.laws.every_run_agrees.Goals as goal

pub returns-clause-holds : goal.returns-clause-holds
returns-clause-holds c p cells t events begins runs = run_holds p cells t events begins runs

pub returns-clause-handled : goal.returns-clause-handled
returns-clause-handled c p cells t events begins runs =
    omega (arith, run_handles p cells t events begins runs, start_weight_most p, length-map p.parts (λ (x : LeafPart). x.place))

pub returns-clause-least : goal.returns-clause-least
returns-clause-least c p cells t events begins runs quiet =
    levels-IsLeast p t.cells (subst (AdaptHolds p t.cells) quiet (run_holds p cells t events begins runs))

pub returns-clause-start_weight : goal.returns-clause-start_weight
returns-clause-start_weight c p = omega (arith, start_weight_most p, length-map p.parts (λ (x : LeafPart). x.place))
