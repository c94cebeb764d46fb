-- Leaf by leaf, what flows out is added up.
use Rattle.std.proofs.Common.{◌≡◌, ℕ, zero, suc, List, sym, ap, ◌∙◌, refl, subst, length, arith, ◌≤◌, slice_index, ◌∷◌, []}
use Rattle.std.proofs.lemmas.List.{take_all}
use Rattle.flux_register.specs.Cells.{FluxState}
use Rattle.flux_register.specs.Problem.{FluxFixHolds}
use Rattle.flux_register.specs.Lemmas.Outward.{out_of_cells}
use Rattle.block_index.specs.Places.{Grid}
use Rattle.flux_register.proofs.OuterFlows.{none-next, out-cells, room-next, sums-next}
use Rattle.flux_register.proofs.outer_flow.outer.Goals as goal

pub loop-cell-init : goal.loop-cell-init
loop-cell-init c = record {
  each = λ f known. first f;
  rest = λ f past. first f;
}
  where
    first : (f : ℕ) → slice_index (0 ∷ 0 ∷ 0 ∷ 0 ∷ []) f ≡ 0
    first zero = refl
    first (suc zero) = refl
    first (suc (suc zero)) = refl
    first (suc (suc (suc zero))) = refl
    first (suc (suc (suc (suc f)))) = refl

pub add_leaf-requires : goal.add_leaf-requires
add_leaf-requires c = record {
  room = room-next c.args.quiet.now.problem c.cells-cell-items.result.now
      (subst (λ (cells : List FluxState). FluxFixHolds c.args.quiet.now.problem cells []) (sym c.cells-cell-items.ensures.cells) c.cells-cell-items.ensures.holds)
      c.requires.few c.args.domain.now c.requires.domain c.loop-cell.cell-index c.cell-item.result c.loop-cell-test.true c.cell-item.is c.loop-cell.sums c.loop-cell.invariant.each;
}

pub loop-cell-preserved : goal.loop-cell-preserved
loop-cell-preserved c =
    let holds : FluxFixHolds c.args.quiet.now.problem c.cells-cell-items.result.now [] =
    subst (λ (cells : List FluxState). FluxFixHolds c.args.quiet.now.problem cells []) (sym c.cells-cell-items.ensures.cells) c.cells-cell-items.ensures.holds in
    record {
      each = sums-next c.args.quiet.now.problem c.cells-cell-items.result.now holds
          c.requires.few c.args.domain.now c.requires.domain c.loop-cell.cell-index c.cell-item.result c.loop-cell-test.true c.cell-item.is c.loop-cell.sums c.loop-cell.invariant.each
          c.add_leaf.new.sums c.add_leaf.ensures.adds;
      rest = λ f past. none-next c.args.quiet.now.problem c.cells-cell-items.result.now holds
          c.requires.few c.args.domain.now c.requires.domain c.loop-cell.cell-index c.cell-item.result c.loop-cell-test.true c.cell-item.is c.loop-cell.sums c.loop-cell.invariant.each
          c.add_leaf.new.sums c.add_leaf.ensures.adds f past (c.loop-cell.invariant.rest f past);
    }

pub returns-clause-out : goal.returns-clause-out
returns-clause-out c fluxes f made known =
    let p = c.args.quiet.now.problem in
    let cells = c.cells-cell-items.result.now in
    let holds : FluxFixHolds p cells [] = subst (λ (cells : List FluxState). FluxFixHolds p cells []) (sym c.cells-cell-items.ensures.cells) c.cells-cell-items.ensures.holds in
    let past : length cells ≤ c.loop-cell.cell-index = omega (arith, c.loop-cell-test.false) in
    c.loop-cell.invariant.each f known
    ∙ ap (λ (l : List FluxState). out_of_cells c.args.domain.now l f) (take_all c.loop-cell.cell-index cells past)
    ∙ ap (λ (grid : Grid). out_of_cells grid cells f) c.requires.domain
    ∙ sym (out-cells p cells holds fluxes f made known)

pub returns-clause-none : goal.returns-clause-none
returns-clause-none c f past = c.loop-cell.invariant.rest f past
