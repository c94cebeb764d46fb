-- What is left of the proof of this function.
use Rattle.std.proofs.Common.{ℕ, List, map, set, sym, ap, ◌∙◌, subst, Vec, Global}
use Rattle.block_fields.specs.Blocks.{exchanged}
use Rattle.block_fields.specs.Layout.{IsLaidOut, laid_out}
use Rattle.block_fields.proofs.Fields.{field-set}
use Rattle.block_fields.proofs.Insides.{amounts-found, amounts-is, before-found, before-is}
use Rattle.block_fields.proofs.Layouts.{IsLaidOut-amounts, IsLaidOut-before}
use Rattle.block_fields.proofs.block.Block.exchange.Goals as goal

pub invariant_of-self : goal.invariant_of-self
invariant_of-self c =
    let b = c.self.inside in
    let items : Vec ℕ Global → List ℕ = λ v. v.items in
    let f = c.args.field in
    let amounts = map items b.amounts.items in
    let before = map items b.before.items in
    let shells = map items b.ghosts.items in
    let v = c.index_mut.result.now in
    let u = c.index_mut-2.result.now in
    let long = c.self.invariant.all_cells f v.items (amounts-found c.self.inside c.self.invariant c.args.self.now c.self.view_is f c.requires.field v c.index_mut.ensures.value) in
    let wide = c.self.invariant.all_before f u.items (before-found c.self.inside c.self.invariant c.args.self.now c.self.view_is f c.requires.field u c.index_mut-2.ensures.value) in
    let first = IsLaidOut-amounts b.edge b.depth amounts before shells c.self.invariant f u.items wide in
    let both = IsLaidOut-before b.edge b.depth (set amounts f u.items) before shells first f v.items long in
    let a = field-set (Vec ℕ Global) items b.amounts.items f c.swap.new.x u.items (ap items c.swap.ensures.x_after) in
    let e = field-set (Vec ℕ Global) items b.before.items f c.swap.new.y v.items (ap items c.swap.ensures.y_after) in
    subst (λ l. IsLaidOut b.edge b.depth l (map items (set b.before.items f c.swap.new.y)) shells) (sym a)
    (subst (λ l. IsLaidOut b.edge b.depth (set amounts f u.items) l shells) (sym e) both)

pub returns : goal.returns
returns c =
    let b = c.self.inside in
    let items : Vec ℕ Global → List ℕ = λ v. v.items in
    let f = c.args.field in
    let amounts = map items b.amounts.items in
    let before = map items b.before.items in
    let shells = map items b.ghosts.items in
    let v = c.index_mut.result.now in
    let u = c.index_mut-2.result.now in
    let a = field-set (Vec ℕ Global) items b.amounts.items f c.swap.new.x u.items (ap items c.swap.ensures.x_after) ∙ ap (set amounts f) (sym (before-is c.self.inside c.self.invariant c.args.self.now c.self.view_is f c.requires.field u c.index_mut-2.ensures.value)) in
    let e = field-set (Vec ℕ Global) items b.before.items f c.swap.new.y v.items (ap items c.swap.ensures.y_after) ∙ ap (set before f) (sym (amounts-is c.self.inside c.self.invariant c.args.self.now c.self.view_is f c.requires.field v c.index_mut.ensures.value)) in
    record { exchanged = (λ i. laid_out b.place b.edge b.depth (a i) (e i) shells) ∙ ap (λ b. exchanged b f) c.self.view_is }
