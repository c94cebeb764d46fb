-- What is left of the proof of this function.
use Rattle.std.proofs.Common.{◌≡◌, ◌-◌, length, take, drop, sym, ap, ◌∙◌, arith}
use Rattle.block_fields.specs.Shells.{ghost_size}
use Rattle.block_fields.proofs.Layouts.{piece-stretch, length-stretch}
use Rattle.block_fields.proofs.block.copies.ghosts_toward.Goals as goal

pub part_of-requires-clause-within : goal.part_of-requires-clause-within
part_of-requires-clause-within c = omega (arith, c.stretch_of-start.ensures.within)

pub returns-clause-ghosts : goal.returns-clause-ghosts
returns-clause-ghosts c =
    let s = c.stretch_of-start in
    let a = c.args in
    let size : s.result.end - s.result.start ≡ ghost_size a.n a.depth a.direction = omega (arith, s.ensures.start, s.ensures.end) in
    c.part_of.ensures.part
    ∙ (λ i. take (size i) (drop (s.ensures.start i) a.ghosts.now))
    ∙ sym (piece-stretch a.n a.depth a.direction a.ghosts.now c.requires.direction)

pub returns-clause-size : goal.returns-clause-size
returns-clause-size c =
    let a = c.args in
    ap length (returns-clause-ghosts c ∙ piece-stretch a.n a.depth a.direction a.ghosts.now c.requires.direction)
    ∙ length-stretch a.n a.depth a.direction a.ghosts.now c.requires.direction c.requires.all
