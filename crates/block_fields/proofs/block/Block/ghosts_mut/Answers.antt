-- What is left of the proof of this function.
use Rattle.std.proofs.Common.{◌≡◌, ℕ, ◌-◌, List, ◌++◌, length, map, set, take, drop, refl, sym, ap, ◌∙◌, subst, arith, Vec, Global}
use Rattle.block_fields.specs.Blocks.{BlockState, ghosts_of}
use Rattle.block_fields.specs.Layout.{IsLaidOut, laid_out}
use Rattle.block_fields.specs.Lending.{refilled, with_direction}
use Rattle.block_fields.specs.Shells.{ghost_count, ghost_size}
use Rattle.block_fields.proofs.Insides.{ghosts-found}
use Rattle.block_fields.proofs.Layouts.{IsLaidOut-shells, ghosts-stretch, length-ghosts}
use Rattle.block_fields.proofs.Lendings.{direction-written, fields-refilled, length-refilled}
use Rattle.block_fields.proofs.block.Block.ghosts_mut.Goals as goal

pub run_mut-requires-clause-in_bounds : goal.run_mut-requires-clause-in_bounds
run_mut-requires-clause-in_bounds c =
    let b = c.self.inside in
    let items : Vec ℕ Global → List ℕ = λ v. v.items in
    let amounts = map items b.amounts.items in
    let before = map items b.before.items in
    let shells = map items b.ghosts.items in
    let f = c.args.field in
    let v = c.index_mut.result.now in
    let at = ghosts-found c.self.inside c.self.invariant c.args.self.now c.self.view_is f c.requires.field v c.index_mut.ensures.value in
    let long : length v.items ≡ ghost_count b.edge b.depth = c.self.invariant.all_ghosts f v.items at in
    let s = c.stretch_of-start in
    let l : v.len ≡ length v.items = v.ok.0 in
    omega (arith, s.ensures.within)

pub invariant_of-self-lent : goal.invariant_of-self-lent
invariant_of-self-lent c w =
    let b = c.self.inside in
    let items : Vec ℕ Global → List ℕ = λ v. v.items in
    let amounts = map items b.amounts.items in
    let before = map items b.before.items in
    let shells = map items b.ghosts.items in
    let f = c.args.field in
    let v = c.index_mut.result.now in
    let at = ghosts-found c.self.inside c.self.invariant c.args.self.now c.self.view_is f c.requires.field v c.index_mut.ensures.value in
    let long : length v.items ≡ ghost_count b.edge b.depth = c.self.invariant.all_ghosts f v.items at in
    let s = c.stretch_of-start in
    let over = take s.result.start v.items ++ (w ++ drop (length w) (drop s.result.start v.items)) in
    subst (IsLaidOut b.edge b.depth amounts before) (sym (fields-refilled b.ghosts.items f v over))
    (IsLaidOut-shells b.edge b.depth amounts before shells c.self.invariant f (refilled v.items over) (length-refilled v.items over ∙ long))

pub returns : goal.returns
returns c =
    let b = c.self.inside in
    let items : Vec ℕ Global → List ℕ = λ v. v.items in
    let amounts = map items b.amounts.items in
    let before = map items b.before.items in
    let shells = map items b.ghosts.items in
    let f = c.args.field in
    let v = c.index_mut.result.now in
    let at = ghosts-found c.self.inside c.self.invariant c.args.self.now c.self.view_is f c.requires.field v c.index_mut.ensures.value in
    let long : length v.items ≡ ghost_count b.edge b.depth = c.self.invariant.all_ghosts f v.items at in
    let s = c.stretch_of-start in
    let d = c.args.direction in
    let state = laid_out b.place b.edge b.depth amounts before shells in
    let size : s.result.end - s.result.start ≡ ghost_size b.edge b.depth d = omega (arith, s.ensures.start, s.ensures.end) in
    let now : c.run_mut.result.now ≡ ghosts_of state f d =
    c.run_mut.ensures.value
    ∙ (λ i. take (size i) (drop (s.ensures.start i) v.items))
    ∙ sym (ghosts-stretch b.place b.edge b.depth amounts before shells f v.items at d c.requires.direction) in (
      (
        refl,
        λ w.
            let over : ℕ → List ℕ = λ start. take start v.items ++ (w ++ drop (length w) (drop start v.items)) in
            ap (laid_out b.place b.edge b.depth amounts before)
            (fields-refilled b.ghosts.items f v (over s.result.start) ∙ ap (λ k. set shells f (refilled v.items (over k))) s.ensures.start)
            ∙ direction-written b.place b.edge b.depth amounts before shells f v.items at long d w
            ∙ ap (λ b. with_direction b f d w) c.self.view_is,
      ),
      record {
        writes_back = tt;
        ghosts = now ∙ ap (λ b. ghosts_of b f d) c.self.view_is;
        size = ap length now
            ∙ length-ghosts b.place b.edge b.depth amounts before shells f v.items at d c.requires.direction long
            ∙ ap (λ (b : BlockState). ghost_size b.edge b.depth d) c.self.view_is;
      },
    )
