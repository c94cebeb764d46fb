-- What is left of the proof of this function.
use Rattle.std.proofs.Common.{◌≡◌, ℕ, ◌*◌, ◌<◌, List, [], length, map, set, get_or, sym, ap, ◌∙◌, subst, Vec, Global}
use Rattle.std.specs.Vec.{with_items}
use Rattle.std.proofs.lemmas.List.{length-set}
use Rattle.block_fields.specs.Blocks.{BlockState, number_at, with_amount}
use Rattle.block_fields.specs.Layout.{IsLaidOut, laid_out}
use Rattle.block_fields.proofs.Fields.{element-set}
use Rattle.block_fields.proofs.Insides.{amounts-is, length-amounts}
use Rattle.block_fields.proofs.Layouts.{IsLaidOut-amounts}
use Rattle.block_fields.proofs.block.Block.set_amount.Goals as goal

pub bounds-amounts-at : goal.bounds-amounts-at
bounds-amounts-at c =
    let i = c.number-at.result in
    let long = length-amounts c.self.inside c.self.invariant c.args.self.now c.self.view_is c.args.field c.requires.field c.index_mut.result.now c.index_mut.ensures.value in
    subst (λ k. i < k) (sym (ap length c.as_mut_slice-amounts.ensures.value ∙ long))
    (subst (λ (b : BlockState). i < b.edge * b.edge * b.edge) (sym c.self.view_is) c.number-at.ensures.within)

pub invariant_of-self : goal.invariant_of-self
invariant_of-self c =
    let b = c.self.inside in
    let items : Vec ℕ Global → List ℕ = λ v. v.items in
    let v = c.index_mut.result.now in
    let ws = c.as_mut_slice-amounts.result.now in
    let long : length (set ws c.number-at.result c.args.q) ≡ b.edge * b.edge * b.edge =
    length-set ws c.number-at.result c.args.q ∙ ap length c.as_mut_slice-amounts.ensures.value ∙ length-amounts c.self.inside c.self.invariant c.args.self.now c.self.view_is c.args.field c.requires.field v c.index_mut.ensures.value in
    subst (λ l. IsLaidOut b.edge b.depth l (map items b.before.items) (map items b.ghosts.items)) (sym (element-set b.amounts.items c.args.field c.number-at.result c.args.q v ws c.as_mut_slice-amounts.ensures.len))
    (IsLaidOut-amounts b.edge b.depth (map items b.amounts.items) (map items b.before.items) (map items b.ghosts.items) c.self.invariant c.args.field (set ws c.number-at.result c.args.q) long)

pub returns : goal.returns
returns c =
    let b = c.self.inside in
    let items : Vec ℕ Global → List ℕ = λ v. v.items in
    let fs = b.amounts.items in
    let all = map items fs in
    let f = c.args.field in
    let v = c.index_mut.result.now in
    let ws = c.as_mut_slice-amounts.result.now in
    let same : ws ≡ get_or all f [] = c.as_mut_slice-amounts.ensures.value ∙ sym (amounts-is c.self.inside c.self.invariant c.args.self.now c.self.view_is f c.requires.field v c.index_mut.ensures.value) in
    let number : c.number-at.result ≡ number_at b.edge c.args.x c.args.y c.args.z = c.number-at.ensures.number ∙ ap (λ (b : BlockState). number_at b.edge c.args.x c.args.y c.args.z) (sym c.self.view_is) in
    let amounts : map items (set fs f (with_items v (set ws c.number-at.result c.args.q))) ≡ set all f (set (get_or all f []) (number_at b.edge c.args.x c.args.y c.args.z) c.args.q) =
    element-set fs f c.number-at.result c.args.q v ws c.as_mut_slice-amounts.ensures.len
    ∙ ap (λ xs. set all f (set xs c.number-at.result c.args.q)) same
    ∙ ap (λ k. set all f (set (get_or all f []) k c.args.q)) number in
    record {
      one_cell = ap (λ l. laid_out b.place b.edge b.depth l (map items b.before.items) (map items b.ghosts.items)) amounts
          ∙ ap (λ b. with_amount b f c.args.x c.args.y c.args.z c.args.q) c.self.view_is;
    }
