-- One more start message.
use Rattle.std.proofs.Common.{arith}
use Rattle.phase_core.proofs.Driving.{pushed}
use Rattle.phase_core.proofs.delivery.start_messages.Goals as goal

pub loop-to-preserved : goal.loop-to-preserved
loop-to-preserved g c = record {
  sent = pushed g.P.Phase.start c.loop-to.to _ _ _ c.loop-to.invariant.sent c.push.ensures.items c.start-msg.ensures.message;
  room = omega (arith, c.loop-to.invariant.room, c.push.ensures.spare);
}
