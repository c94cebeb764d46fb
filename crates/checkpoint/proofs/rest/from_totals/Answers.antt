-- The totals: whole, at fault, or the next part.
use Rattle.std.proofs.Common.{◌≡◌, ℕ, ◌*◌, [], length, map, slice_index, take, sym, ap, subst, ◌∙◌, arith}
use Rattle.checkpoint.specs.Lemmas.PartEnds.{IsFirstOff}
use Rattle.checkpoint.specs.Reading.{AreWords}
use Rattle.checkpoint.specs.Lemmas.Stages.{EndsRead, told}
use Rattle.checkpoint.specs.declared.part.Part.TheVariants as parts
use Rattle.checkpoint.proofs.StageParts.{after-totals, total-faulty}
use Rattle.checkpoint.proofs.Stages.{is-short, passed-on}
use Rattle.checkpoint.proofs.rest.from_totals.Goals as goal

pub returns-then-left-size-clause-fault : goal.returns-then-left-size-clause-fault
returns-then-left-size-clause-fault c =
    let state = c.args.state in
    let many = ap length (c.items.ensures.items ∙ c.fields.ensures.fields) in
    subst (EndsRead c.args.file.now) (sym c.truncated.ensures.fault)
    (is-short parts.Totals c.args.file.now (told state.params state.cycle state.set.places (map (λ b. b.amounts) state.blocks.items) [] [])
    c.args.left.now c.requires.stands (omega (arith, c.if-left-size.true, many)))

pub returns-in_err-total-clause-fault : goal.returns-in_err-total-clause-fault
returns-in_err-total-clause-fault c =
    let state = c.args.state in
    let many : length c.items.result.now ≡ length state.params.fields = ap length (c.items.ensures.items ∙ c.fields.ensures.fields) in
    let here = c.split_at.result.0.now in
    let sums = c.args.sums.now in
    let e = c.in_err-total.ensures.fault in
    let off : IsFirstOff here e.0 (length state.params.fields) (λ g. slice_index e.0 g ≡ slice_index sums g) e.1 =
    subst (λ (n : ℕ). IsFirstOff here e.0 n (λ g. slice_index e.0 g ≡ slice_index sums g) e.1) many e.2 in
    let h : EndsRead c.args.file.now c.in_err-total.field-0.0 =
    total-faulty c.args.file.now c.args.left.now here c.split_at.result.1.now (8 * length c.items.result.now) state.params state.cycle state.set.places
    (map (λ b. b.amounts) state.blocks.items) sums e.0 e.1 c.in_err-total.field-0.0 c.requires.stands c.split_at.ensures.front c.split_at.ensures.back
    (omega (arith, c.if-left-size.false)) (ap (λ n. 8 * n) many) c.requires.sums off e.3 in
    passed-on _ c.args.file.now c.from_residual.result c.in_err-total.field-0.0 c.from_residual.ensures.1 (λ x e. e) h

pub from_gone-requires-clause-stands : goal.from_gone-requires-clause-stands
from_gone-requires-clause-stands c =
    let state = c.args.state in
    let stated = c.in_ok-total.total in
    let many : length c.items.result.now ≡ length state.params.fields = ap length (c.items.ensures.items ∙ c.fields.ensures.fields) in
    after-totals c.args.file.now c.args.left.now c.split_at.result.0.now c.split_at.result.1.now (8 * length c.items.result.now) state.params state.cycle state.set.places
    (map (λ b. b.amounts) state.blocks.items) stated c.requires.stands c.split_at.ensures.front c.split_at.ensures.back (omega (arith, many, c.items.ensures.few))
    (subst (λ (n : ℕ). AreWords (take n stated) c.split_at.result.0.now) many c.in_ok-total.ensures.words)
    (λ f l. c.in_ok-total.ensures.sums f (omega (arith, l, many)) ∙ c.requires.sums f l)

pub from_gone-requires-clause-no_total : goal.from_gone-requires-clause-no_total
from_gone-requires-clause-no_total c =
    let many : length c.items.result.now ≡ length c.args.state.params.fields = ap length (c.items.ensures.items ∙ c.fields.ensures.fields) in
    λ g m. c.in_ok-total.ensures.zero g (omega (arith, m, many))
