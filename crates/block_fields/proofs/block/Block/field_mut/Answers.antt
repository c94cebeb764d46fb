-- What is left of the proof of this function.
use Rattle.std.proofs.Common.{◌≡◌, ℕ, ◌*◌, List, [], length, map, set, get_or, refl, sym, ap, ◌∙◌, subst, Vec, Global}
use Rattle.block_fields.specs.Blocks.{BlockState}
use Rattle.block_fields.specs.Layout.{IsLaidOut, laid_out}
use Rattle.block_fields.specs.Lending.{refilled, with_field}
use Rattle.block_fields.proofs.Insides.{amounts-found, amounts-is}
use Rattle.block_fields.proofs.Layouts.{IsLaidOut-amounts}
use Rattle.block_fields.proofs.Lendings.{fields-refilled, length-refilled}
use Rattle.block_fields.proofs.block.Block.field_mut.Goals as goal

pub invariant_of-self-lent : goal.invariant_of-self-lent
invariant_of-self-lent c w =
    let b = c.self.inside in
    let items : Vec ℕ Global → List ℕ = λ v. v.items in
    let f = c.args.field in
    let v = c.index_mut.result.now in
    let at = amounts-found c.self.inside c.self.invariant c.args.self.now c.self.view_is f c.requires.field v c.index_mut.ensures.value in
    let long : length (refilled v.items w) ≡ b.edge * b.edge * b.edge = length-refilled v.items w ∙ c.self.invariant.all_cells f v.items at in
    subst (λ l. IsLaidOut b.edge b.depth l (map items b.before.items) (map items b.ghosts.items)) (sym (fields-refilled b.amounts.items f v w))
    (IsLaidOut-amounts b.edge b.depth (map items b.amounts.items) (map items b.before.items) (map items b.ghosts.items) c.self.invariant f (refilled v.items w) long)

pub returns : goal.returns
returns c =
    let b = c.self.inside in
    let items : Vec ℕ Global → List ℕ = λ v. v.items in
    let f = c.args.field in
    let all = map items b.amounts.items in
    let v = c.index_mut.result.now in
    let at = amounts-found c.self.inside c.self.invariant c.args.self.now c.self.view_is f c.requires.field v c.index_mut.ensures.value in
    let same : v.items ≡ get_or all f [] = sym (amounts-is c.self.inside c.self.invariant c.args.self.now c.self.view_is f c.requires.field v c.index_mut.ensures.value) in (
      (
        refl,
        λ w.
            ap (λ l. laid_out b.place b.edge b.depth l (map items b.before.items) (map items b.ghosts.items))
            (fields-refilled b.amounts.items f v w ∙ ap (λ q. set all f (refilled q w)) same)
            ∙ ap (λ b. with_field b f w) c.self.view_is,
      ),
      record {
        writes_back = tt;
        amounts = c.as_mut_slice.ensures.value ∙ same ∙ ap (λ (b : BlockState). get_or b.amounts f []) c.self.view_is;
        cells = ap length c.as_mut_slice.ensures.value ∙ c.self.invariant.all_cells f v.items at ∙ ap (λ (b : BlockState). b.edge * b.edge * b.edge) c.self.view_is;
      },
    )
