-- One more start message.
use Rattle.phase_core.proofs.Driving.{pushed}
use Rattle.phase_core.proofs.picked.start_list.Goals as goal

pub loop-to-preserved : goal.loop-to-preserved
loop-to-preserved g c = pushed g.P.Phase.start c.loop-to.to c.start-msg.result c.loop-to.sent.items c.push.new.self.items c.loop-to.invariant c.in_ok-push.ensures.items c.start-msg.ensures.message
