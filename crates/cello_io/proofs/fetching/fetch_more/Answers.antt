-- What was fetched stays the front of the file.
use Rattle.std.proofs.Common.{◌≡◌, length, arith}
use Rattle.cello_io.proofs.FetchedFronts.{front_more}
use Rattle.cello_io.proofs.fetching.fetch_more.Goals as goal

pub returns-clause-front : goal.returns-clause-front
returns-clause-front g c =
    let S = g.H.Shelf in
    let starts : c.len.result ≡ length c.args.bytes.now.items = omega arith in
    let h = front_more c.args.name c.args.bytes.now.items c.fetch.new.buf c.len.result c.in_ok-count.count (S.tells c.args.shelf.now).past starts
    c.requires.front c.in_ok-count.ensures.fetches.bytes c.in_ok-count.ensures.fetches.within in
    rw c.in_ok-extend_from_slice.ensures.items h
