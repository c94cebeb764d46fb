-- What is left of the proof of this function.
use Rattle.std.proofs.Common.{◌≡◌, ℕ, ◌-◌, List, length, map, take, drop, sym, ap, ◌∙◌, arith, Vec, Global}
use Rattle.block_fields.specs.Blocks.{BlockState, ghosts_of}
use Rattle.block_fields.specs.Shells.{ghost_count, ghost_size}
use Rattle.block_fields.proofs.Insides.{ghosts-found, kept-IsBlock, length-shell}
use Rattle.block_fields.proofs.Layouts.{ghosts-stretch, length-ghosts}
use Rattle.block_fields.proofs.block.Block.ghosts.Goals as goal

pub part_of-requires-clause-within : goal.part_of-requires-clause-within
part_of-requires-clause-within c =
    let long = length-shell c.self.inside c.self.invariant c.args.self.now c.self.view_is c.args.field c.requires.field c.index.result.now c.index.ensures in
    omega (arith, c.stretch_of-start.ensures.within, ap length c.as_slice.ensures.value)

pub returns-clause-ghosts : goal.returns-clause-ghosts
returns-clause-ghosts c =
    let b = c.self.inside in
    let items : Vec ℕ Global → List ℕ = λ v. v.items in
    let amounts = map items b.amounts.items in
    let before = map items b.before.items in
    let shells = map items b.ghosts.items in
    let f = c.args.field in
    let v = c.index.result.now in
    let at = ghosts-found c.self.inside c.self.invariant c.args.self.now c.self.view_is f c.requires.field v c.index.ensures in
    let s = c.stretch_of-start in
    let d = c.args.direction in
    let size : s.result.end - s.result.start ≡ ghost_size b.edge b.depth d = omega (arith, s.ensures.start, s.ensures.end) in
    c.part_of.ensures.part
    ∙ (λ i. take (size i) (drop (s.ensures.start i) (c.as_slice.ensures.value i)))
    ∙ sym (ghosts-stretch b.place b.edge b.depth amounts before shells f v.items at d c.requires.direction)
    ∙ ap (λ b. ghosts_of b f d) c.self.view_is

pub returns-clause-size : goal.returns-clause-size
returns-clause-size c =
    let b = c.self.inside in
    let items : Vec ℕ Global → List ℕ = λ v. v.items in
    let amounts = map items b.amounts.items in
    let before = map items b.before.items in
    let shells = map items b.ghosts.items in
    let f = c.args.field in
    let v = c.index.result.now in
    let at = ghosts-found c.self.inside c.self.invariant c.args.self.now c.self.view_is f c.requires.field v c.index.ensures in
    let long : length v.items ≡ ghost_count b.edge b.depth = c.self.invariant.all_ghosts f v.items at in
    let d = c.args.direction in
    ap length (returns-clause-ghosts c)
    ∙ ap (λ b. length (ghosts_of b f d)) (sym c.self.view_is)
    ∙ length-ghosts b.place b.edge b.depth amounts before shells f v.items at d c.requires.direction long
    ∙ ap (λ (b : BlockState). ghost_size b.edge b.depth d) c.self.view_is

pub returns-clause-limits : goal.returns-clause-limits
returns-clause-limits c = kept-IsBlock c.self.inside c.self.invariant c.args.self.now c.self.view_is
