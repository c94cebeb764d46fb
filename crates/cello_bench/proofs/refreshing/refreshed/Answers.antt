use Rattle.cello_bench.proofs.refreshing.refreshed.Goals as goal

pub begin-requires-clause-blocks : goal.begin-requires-clause-blocks
begin-requires-clause-blocks c =
    let sized = c.requires.blocks in
    (sized.0, sized.1, sized.2, sized.3)
