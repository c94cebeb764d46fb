-- What is left of the proof of this function.
use Rattle.std.proofs.Common.{◌≡◌, ℕ, ◌*◌, List, [], length, map, set, get_or, refl, sym, ap, ◌∙◌, subst, Vec, Global}
use Rattle.block_fields.specs.Blocks.{BlockState, amounts_of, before_of, shell_of}
use Rattle.block_fields.specs.Layout.{IsLaidOut, cut, laid_out}
use Rattle.block_fields.specs.Lending.{refilled, with_before}
use Rattle.block_fields.specs.Shells.{ghost_count, ghost_sizes}
use Rattle.block_fields.proofs.Insides.{amounts-found, amounts-is, before-found, before-is, ghosts-found}
use Rattle.block_fields.proofs.Layouts.{IsLaidOut-before, shell-is}
use Rattle.block_fields.proofs.Lendings.{fields-refilled, length-refilled}
use Rattle.block_fields.proofs.block.Block.copies.Goals as goal

pub invariant_of-self-lent : goal.invariant_of-self-lent
invariant_of-self-lent c w =
    let b = c.self.inside in
    let items : Vec ℕ Global → List ℕ = λ v. v.items in
    let amounts = map items b.amounts.items in
    let before = map items b.before.items in
    let shells = map items b.ghosts.items in
    let f = c.args.field in
    let u = c.index_mut.result.now in
    let at = before-found c.self.inside c.self.invariant c.args.self.now c.self.view_is f c.requires.field u c.index_mut.ensures.value in
    let long : length (refilled u.items w) ≡ b.edge * b.edge * b.edge = length-refilled u.items w ∙ c.self.invariant.all_before f u.items at in
    subst (λ l. IsLaidOut b.edge b.depth amounts l shells) (sym (fields-refilled b.before.items f u w))
    (IsLaidOut-before b.edge b.depth amounts before shells c.self.invariant f (refilled u.items w) long)

pub returns : goal.returns
returns c =
    let b = c.self.inside in
    let items : Vec ℕ Global → List ℕ = λ v. v.items in
    let amounts = map items b.amounts.items in
    let before = map items b.before.items in
    let shells = map items b.ghosts.items in
    let f = c.args.field in
    let v = c.index.result.now in
    let q = c.index-2.result.now in
    let u = c.index_mut.result.now in
    let same : u.items ≡ get_or before f [] = sym (before-is c.self.inside c.self.invariant c.args.self.now c.self.view_is f c.requires.field u c.index_mut.ensures.value) in
    let there = ghosts-found c.self.inside c.self.invariant c.args.self.now c.self.view_is f c.requires.field q c.index-2.ensures in (
      (
        refl,
        λ w.
            ap (λ l. laid_out b.place b.edge b.depth amounts l shells)
            (fields-refilled b.before.items f u w ∙ ap (λ p. set before f (refilled p w)) same)
            ∙ ap (λ b. with_before b f w) c.self.view_is,
      ),
      record {
        writes_back = tt;
        amounts = c.as_slice.ensures.value ∙ sym (amounts-is c.self.inside c.self.invariant c.args.self.now c.self.view_is f c.requires.field v c.index.ensures) ∙ ap (λ b. amounts_of b f) c.self.view_is;
        before = c.as_mut_slice.ensures.value ∙ same ∙ ap (λ b. before_of b f) c.self.view_is;
        ghosts = (λ i. cut (ghost_sizes (sym c.self.view_is i).edge (sym c.self.view_is i).depth) (c.as_slice-2.ensures.value i))
            ∙ sym (shell-is b.place b.edge b.depth amounts before shells f q.items there)
            ∙ ap (λ b. shell_of b f) c.self.view_is;
        cells = ap length c.as_slice.ensures.value
            ∙ c.self.invariant.all_cells f v.items (amounts-found c.self.inside c.self.invariant c.args.self.now c.self.view_is f c.requires.field v c.index.ensures)
            ∙ ap (λ (b : BlockState). b.edge * b.edge * b.edge) c.self.view_is;
        same_cells = ap length c.as_mut_slice.ensures.value
            ∙ c.self.invariant.all_before f u.items (before-found c.self.inside c.self.invariant c.args.self.now c.self.view_is f c.requires.field u c.index_mut.ensures.value)
            ∙ ap (λ (b : BlockState). b.edge * b.edge * b.edge) c.self.view_is;
        all_ghosts = ap length c.as_slice-2.ensures.value
            ∙ c.self.invariant.all_ghosts f q.items there
            ∙ ap (λ (b : BlockState). ghost_count b.edge b.depth) c.self.view_is;
      },
    )
