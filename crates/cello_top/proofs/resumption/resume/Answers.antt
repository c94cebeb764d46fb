-- What was fetched, or that nothing was.
use Rattle.std.proofs.Common.{Err, refl}
use Rattle.cello_top.proofs.Fetched.{fetched-devices, fetched-done, fetched-ends, fetched-unmade, idle-still, unfetched-devices, unfetched-ends}
use Rattle.cello_top.proofs.ResumeEnds.{resuming-not_absent, resuming-not_read}
use Rattle.cello_top.proofs.resumption.resume.Goals as goal

pub resume_bytes-requires-clause-idle : goal.resume_bytes-requires-clause-idle
resume_bytes-requires-clause-idle g c = idle-still _ _ c.in-Ok.ensures.only c.requires.idle

pub returns-in-Ok-clause-done : goal.returns-in-Ok-clause-done
returns-in-Ok-clause-done g c =
    fetched-done (g.H.Shelf.tells c.args.shelf.now) _ c.in-Ok.ensures.only c.args.name.now c.args.until (g.K.Sink.written c.args.sink.now) _ c.deref.result.now c.in-Ok.bytes.items c.deref.ensures.value c.in-Ok.ensures.fetched g.C.Crew.counts c.resume_bytes.result c.resume_bytes.ensures.whole

pub returns-in-Ok-clause-ended : goal.returns-in-Ok-clause-ended
returns-in-Ok-clause-ended g c =
    fetched-ends (g.H.Shelf.tells c.args.shelf.now) _ c.in-Ok.ensures.only c.args.name.now c.args.until (g.K.Sink.written c.args.sink.now) _ c.deref.result.now c.in-Ok.bytes.items c.deref.ensures.value c.in-Ok.ensures.fetched c.resume_bytes.result c.resume_bytes.ensures.ended

pub returns-in-Ok-clause-unmade : goal.returns-in-Ok-clause-unmade
returns-in-Ok-clause-unmade g c = fetched-unmade _ _ c.in-Ok.ensures.only _ c.resume_bytes.result c.resume_bytes.ensures.unmade

pub returns-in-Ok-clause-fetch_cause : goal.returns-in-Ok-clause-fetch_cause
returns-in-Ok-clause-fetch_cause g c = λ e. absurd (resuming-not_read _ _ _ _ c.resume_bytes.result c.resume_bytes.ensures.ended e)

pub returns-in-Ok-clause-absent_cause : goal.returns-in-Ok-clause-absent_cause
returns-in-Ok-clause-absent_cause g c = λ name e. absurd (resuming-not_absent _ _ _ _ c.resume_bytes.result name c.resume_bytes.ensures.ended e)

pub returns-in-Ok-clause-devices : goal.returns-in-Ok-clause-devices
returns-in-Ok-clause-devices g c = fetched-devices _ _ c.in-Ok.ensures.only _ _ _ _ c.resume_bytes.ensures.devices

pub returns-in-Err-clause-ended : goal.returns-in-Err-clause-ended
returns-in-Err-clause-ended g c = unfetched-ends (g.H.Shelf.tells c.args.shelf.now) _ c.in-Err.ensures.only c.args.name.now c.args.until (g.K.Sink.written c.args.sink.now) c.in-Err.fault c.in-Err.ensures.ended

pub returns-in-Err-clause-devices : goal.returns-in-Err-clause-devices
returns-in-Err-clause-devices g c = unfetched-devices (g.H.Shelf.tells c.args.shelf.now) _ c.in-Err.ensures.only _ c.args.name.now c.in-Err.fault (Err c.in-Err.fault) refl c.in-Err.ensures.ended c.requires.idle
