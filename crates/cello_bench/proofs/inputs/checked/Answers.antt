use Rattle.cello_bench.proofs.Fitting.{few_in_fields}
use Rattle.cello_bench.proofs.inputs.checked.Goals as goal

pub returns-clause-few : goal.returns-clause-few
returns-clause-few c = few_in_fields c.args.grid.set c.args.grid.blocks.items c.domain-domain.ensures.tiles c.requires.blocks
