-- The start of the test phase weighs three for each place.
use Rattle.std.proofs.Common.{◌+◌, ◌*◌, ◌≤◌, length, arith}
use Rattle.phase_core.specs.Lemmas.Ring.{ring_weight}
use Rattle.phase_core.proofs.tests.runs_are_short.Goals as goal

pub returns : goal.returns
returns c p cells t events first r =
    let bound : length events + ring_weight p t.cells t.flight ≤ 3 * p.places = c.every_run_from_the_start_keeps.ensures.weight p cells t events first r in
    omega (arith, bound)
