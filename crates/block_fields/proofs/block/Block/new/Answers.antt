-- What is left of the proof of this function.
use Rattle.std.proofs.Common.{◌≡◌, ℕ, ◌*◌, List, map, replicate, sym, ap, ◌∙◌, subst, Vec, Global}
use Rattle.block_fields.specs.Blocks.{IsBlock}
use Rattle.block_fields.specs.Layout.{laid_out}
use Rattle.block_fields.specs.Shells.{ghost_count}
use Rattle.block_fields.proofs.Layouts.{IsLaidOut-IsBlock}
use Rattle.block_fields.proofs.Zeros.{IsLaidOut-zeros, laid_out-zeros}
use Rattle.block_fields.proofs.block.Block.new.Goals as goal

pub returns-clause-zeros : goal.returns-clause-zeros
returns-clause-zeros c =
    let a = c.args in
    let ghosts = c.in_ok-zero_lists-3.ensures.lists ∙ ap (λ k. replicate a.fields (replicate k 0)) c.ghost_count.ensures.count in
    (λ i. laid_out a.place a.n a.depth (c.in_ok-zero_lists.ensures.lists i) (c.in_ok-zero_lists-2.ensures.lists i) (ghosts i))
    ∙ laid_out-zeros a.place a.n a.depth a.fields

pub returns-clause-limits : goal.returns-clause-limits
returns-clause-limits c =
    let a = c.args in
    let ghosts = c.in_ok-zero_lists-3.ensures.lists ∙ ap (λ k. replicate a.fields (replicate k 0)) c.ghost_count.ensures.count in
    let cells : List (List ℕ) = replicate a.fields (replicate (a.n * a.n * a.n) 0) in
    let shells : List (List ℕ) = replicate a.fields (replicate (ghost_count a.n a.depth) 0) in
    let items : Vec ℕ Global → List ℕ = λ v. v.items in
    let e : laid_out a.place a.n a.depth (map items c.in_ok-zero_lists.field-0.items) (map items c.in_ok-zero_lists-2.field-0.items) (map items c.in_ok-zero_lists-3.field-0.items) ≡ laid_out a.place a.n a.depth cells cells shells = λ i. laid_out a.place a.n a.depth (c.in_ok-zero_lists.ensures.lists i) (c.in_ok-zero_lists-2.ensures.lists i) (ghosts i) in
    subst IsBlock (sym e)
    (IsLaidOut-IsBlock a.place a.n a.depth cells cells shells
    (IsLaidOut-zeros a.n a.depth a.fields c.requires.even c.requires.least c.requires.most c.requires.shallowest c.requires.deepest c.requires.few))
