-- What has left: whole, at fault, or the last part.
use Rattle.std.proofs.Common.{◌≡◌, ℕ, ◌+◌, ◌*◌, [], length, map, slice_index, take, sym, ap, subst, ◌∙◌, arith}
use Rattle.params_check.specs.Parameters.{total_of}
use Rattle.checkpoint.specs.Lemmas.PartEnds.{IsFirstOff}
use Rattle.checkpoint.specs.Reading.{AreWords}
use Rattle.checkpoint.specs.Lemmas.Stages.{EndsRead, told}
use Rattle.checkpoint.specs.declared.part.Part.TheVariants as parts
use Rattle.checkpoint.proofs.StageParts.{after-gone, at-end, gone-faulty, restored-limit}
use Rattle.checkpoint.proofs.Stages.{is-short, passed-on}
use Rattle.checkpoint.proofs.rest.from_gone.Goals as goal

pub returns-then-left-size-clause-fault : goal.returns-then-left-size-clause-fault
returns-then-left-size-clause-fault c =
    let state = c.args.state in
    let many = ap length (c.items.ensures.items ∙ c.fields.ensures.fields) in
    subst (EndsRead c.args.file.now) (sym c.truncated.ensures.fault)
    (is-short parts.Gone c.args.file.now (told state.params state.cycle state.set.places (map (λ b. b.amounts) state.blocks.items) (take (length state.params.fields) c.args.total) [])
    c.args.left.now c.requires.stands (omega (arith, c.if-left-size.true, many)))

pub returns-in_err-gone-clause-fault : goal.returns-in_err-gone-clause-fault
returns-in_err-gone-clause-fault c =
    let state = c.args.state in
    let many : length c.items.result.now ≡ length state.params.fields = ap length (c.items.ensures.items ∙ c.fields.ensures.fields) in
    let here = c.split_at.result.0.now in
    let total = c.args.total in
    let e = c.in_err-gone.ensures.fault in
    let off : IsFirstOff here e.0 (length state.params.fields) (λ g. slice_index total g + slice_index e.0 g ≡ total_of state.params g) e.1 =
    subst (λ (n : ℕ). IsFirstOff here e.0 n (λ g. slice_index total g + slice_index e.0 g ≡ total_of state.params g) e.1) many e.2 in
    let h : EndsRead c.args.file.now c.in_err-gone.field-0.0 =
    gone-faulty c.args.file.now c.args.left.now here c.split_at.result.1.now (8 * length c.items.result.now) state.params state.cycle state.set.places
    (map (λ b. b.amounts) state.blocks.items) total e.0 e.1 c.in_err-gone.field-0.0 c.requires.stands c.split_at.ensures.front c.split_at.ensures.back
    (omega (arith, c.if-left-size.false)) (ap (λ n. 8 * n) many) off e.3 in
    passed-on _ c.args.file.now c.from_residual.result c.in_err-gone.field-0.0 c.from_residual.ensures.1 (λ x e. e) h

pub restored-ledger-requires : goal.restored-ledger-requires
restored-ledger-requires c =
    let state = c.args.state in
    let many : length c.items.result.now ≡ length state.params.fields = ap length (c.items.ensures.items ∙ c.fields.ensures.fields) in
    record {
      limit = λ f l. restored-limit state.params c.args.total c.in_ok-gone.gone c.fields.ensures.limits (λ g m. c.in_ok-gone.ensures.balance g (omega (arith, m, many))) c.requires.no_total
          (λ g m. c.in_ok-gone.ensures.zero g (omega (arith, m, many))) f;
    }

pub at_the_end-requires : goal.at_the_end-requires
at_the_end-requires c =
    let state = c.args.state in
    let total = c.args.total in
    let gone = c.in_ok-gone.gone in
    let many : length c.items.result.now ≡ length state.params.fields = ap length (c.items.ensures.items ∙ c.fields.ensures.fields) in
    record {
      stands = at-end c.args.file.now c.split_at.result.1.now state c.restored-ledger.result total gone c.restored-ledger.ensures.restored
          (after-gone c.args.file.now c.args.left.now c.split_at.result.0.now c.split_at.result.1.now (8 * length c.items.result.now) state.params state.cycle state.set.places
          (map (λ b. b.amounts) state.blocks.items) total gone c.requires.stands c.split_at.ensures.front c.split_at.ensures.back (omega (arith, many, c.items.ensures.few))
          (subst (λ (n : ℕ). AreWords (take n gone) c.split_at.result.0.now) many c.in_ok-gone.ensures.words) (λ g m. c.in_ok-gone.ensures.balance g (omega (arith, m, many))))
          c.requires.grid c.requires.blocks c.requires.no_total (λ g m. c.in_ok-gone.ensures.zero g (omega (arith, m, many)));
    }
