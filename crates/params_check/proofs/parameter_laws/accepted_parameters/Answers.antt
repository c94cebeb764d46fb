-- What is left of the proof of this function.
use Rattle.params_check.proofs.NoFaults.{accepted-limits}
use Rattle.params_check.proofs.parameter_laws.accepted_parameters.Goals as goal

pub returns : goal.returns
returns c = record { limits = accepted-limits }
