use Rattle.quiet_table.specs.Contents.{contents_of}
use Rattle.quiet_table.proofs.Emptiness.{quiet_empty}
use Rattle.quiet_table.proofs.laws.quiet_means_empty.Goals as goal

pub returns : goal.returns
returns g c = record { empty = quiet_empty (contents_of g.C.Load.rest g.C.Load.parcels g.B.Load.rest g.B.Load.parcels) g.C.LegalLoad.legal g.C.LegalLoad.origin }
