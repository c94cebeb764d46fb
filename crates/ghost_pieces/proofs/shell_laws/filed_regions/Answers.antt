use Rattle.std.proofs.Common.{refl}
use Rattle.ghost_pieces.proofs.FiledLists.{filed-kept, filed-once, filed-others, filed-room, filed-this, one_source_of}
use Rattle.ghost_pieces.proofs.shell_laws.filed_regions.Goals as goal

pub returns-clause-none : goal.returns-clause-none
returns-clause-none c r = refl

pub returns-clause-this : goal.returns-clause-this
returns-clause-this c filed r = filed-this filed r

pub returns-clause-kept : goal.returns-clause-kept
returns-clause-kept c filed r q e = filed-kept filed r q e

pub returns-clause-others : goal.returns-clause-others
returns-clause-others c filed r q e = filed-others filed r q e

pub returns-clause-one : goal.returns-clause-one
returns-clause-one c r q h k e f = one_source_of r q h k e f

pub returns-clause-once : goal.returns-clause-once
returns-clause-once c filed r o = filed-once filed r o

pub returns-clause-room : goal.returns-clause-room
returns-clause-room c grid leaves n d j filed q dom mesh even deep some o f e x none = filed-room grid leaves n d j filed q dom mesh even deep some o f e x none
