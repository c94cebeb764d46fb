use Rattle.std.proofs.Common.{arith}
use Rattle.advect.proofs.Fours.{four-room, four-sum}
use Rattle.advect.proofs.reducing.four_faces.Goals as goal

pub bounds-fluxes-at-3 : goal.bounds-fluxes-at-3
bounds-fluxes-at-3 c = let r = four-room c.args.n c.args.i c.args.j c.requires.even c.requires.i c.requires.j in omega (arith, c.requires.fluxes.0)

pub bounds-fluxes-at-4 : goal.bounds-fluxes-at-4
bounds-fluxes-at-4 c = let r = four-room c.args.n c.args.i c.args.j c.requires.even c.requires.i c.requires.j in omega (arith, c.requires.fluxes.0)

pub returns : goal.returns
returns c = record { sum = four-sum c.args.n c.args.i c.args.j c.args.fluxes.now c.requires.i }
