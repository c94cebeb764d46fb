-- The cycle is what is told last.
use Rattle.restart_laws.proofs.WritingOn.{resumes-at}
use Rattle.restart_laws.proofs.laws.checkpoints_resume.Goals as goal

pub returns : goal.returns
returns c = record { resumes = resumes-at }
