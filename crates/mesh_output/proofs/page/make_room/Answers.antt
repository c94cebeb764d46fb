-- A page that was written, and one that wasn't.
use Rattle.mesh_output.proofs.Pages.{Holds-all, Holds-none}
use Rattle.mesh_output.proofs.page.make_room.Goals as goal

pub returns-in_ok-write_all-clause-moved : goal.returns-in_ok-write_all-clause-moved
returns-in_ok-write_all-clause-moved g c = Holds-none _ _ _ _ (rw c.bytes-then-bytes-gt-PAGE_ROOM.ensures.bytes at c.in_ok-write_all.ensures.wrote) c.clear.ensures.empty

pub returns-else-bytes-gt-PAGE_ROOM-clause-moved : goal.returns-else-bytes-gt-PAGE_ROOM-clause-moved
returns-else-bytes-gt-PAGE_ROOM-clause-moved g c = Holds-all _ _
