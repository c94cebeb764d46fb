-- The laws, from their lemmas.
use Rattle.flux_register.proofs.Upwind.{holds-small, state-before, upwind-advanced}
use Rattle.std.specs.Prelude.{length}
use Rattle.flux_register.proofs.advance_laws.upwind_advances.Goals as goal

pub returns-clause-advanced : goal.returns-clause-advanced
returns-clause-advanced c p mesh depth befores blocks faces w t are few samples is = upwind-advanced p mesh depth befores w t are few samples blocks faces is

pub returns-clause-before : goal.returns-clause-before
returns-clause-before c p befores blocks faces is = state-before p befores blocks faces is p.grid p.block (length p.fields)

pub returns-clause-small : goal.returns-clause-small
returns-clause-small c p mesh depth befores i b w t are few samples at = holds-small p mesh depth befores w t are few samples i b at
