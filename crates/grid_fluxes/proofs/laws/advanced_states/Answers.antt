-- The laws, from their lemmas.
use Rattle.std.specs.Prelude.{◌+◌, ◌-◌}
use Rattle.block_fields.proofs.FilledStates.{IsState-filled}
use Rattle.block_fields.specs.States.{held}
use Rattle.grid_fluxes.specs.Fluxes.{given, taken}
use Rattle.grid_fluxes.proofs.Replacing.{held-advanced_by}
use Rattle.grid_fluxes.proofs.laws.advanced_states.Goals as goal

pub returns-clause-state : goal.returns-clause-state
returns-clause-state c s across fluxes w =
    IsState-filled s.grid s.edge s.fields s.leaves (λ f c. held s f c - given s across fluxes f c + taken s across fluxes f c) w.domain w.mesh w.edge w.balanced

pub returns-clause-amounts : goal.returns-clause-amounts
returns-clause-amounts c s across fluxes f d w h leaf = held-advanced_by s across fluxes f d w h leaf
