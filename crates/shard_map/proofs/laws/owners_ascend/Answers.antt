-- The laws, from their lemmas.
use Rattle.shard_map.proofs.Runs.{owner-ascends, owner-between, owner-each}
use Rattle.shard_map.proofs.laws.owners_ascend.Goals as goal

pub returns-clause-ascend : goal.returns-clause-ascend
returns-clause-ascend c = owner-ascends

pub returns-clause-run : goal.returns-clause-run
returns-clause-run c = owner-between

pub returns-clause-each : goal.returns-clause-each
returns-clause-each c = owner-each
