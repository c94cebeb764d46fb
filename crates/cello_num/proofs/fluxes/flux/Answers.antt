use Rattle.std.proofs.Common.{rules, ◌≡◌, ℕ, ◌*◌, ◌^◌, ◌≤◌, ◌<◌, arith}
use Rattle.cello_num.proofs.FluxBounds.{low_level}
use Rattle.cello_num.proofs.fluxes.flux.Goals as goal

-- src/fluxes.rt:17:6
pub overflow_shl-result : goal.overflow_shl-result
overflow_shl-result c =
    omega (arith, low_level c.args.speed c.args.den c.args.level (omega (arith, c.if-speed-eq0.false)) c.requires.most c.requires.courant)
