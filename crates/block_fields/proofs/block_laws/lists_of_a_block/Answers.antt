-- The law, from its lemma.
use Rattle.std.proofs.Common.{arith, []}
use Rattle.std.proofs.lemmas.Option.{slice_get-get_or}
use Rattle.block_fields.specs.Blocks.{amounts_of, before_of, ghosts_of, shell_of}
use Rattle.block_fields.proofs.block_laws.lists_of_a_block.Goals as goal

pub returns-clause-amounts : goal.returns-clause-amounts
returns-clause-amounts c b f k h = k.all_cells f (amounts_of b f) (slice_get-get_or b.amounts f [] h)

pub returns-clause-before : goal.returns-clause-before
returns-clause-before c b f k h = k.all_before f (before_of b f) (slice_get-get_or b.before f [] (let e = k.one_before_each in omega arith))

pub returns-clause-ghosts : goal.returns-clause-ghosts
returns-clause-ghosts c b f d k h hd =
    let at = slice_get-get_or b.ghosts f [] (let e = k.one_shell_each in omega arith) in
    let l = k.all_directions f (shell_of b f) at in
    k.all_ghosts f d (shell_of b f) (ghosts_of b f d) at (slice_get-get_or (shell_of b f) d [] (omega arith))
