-- The amounts: not there whole, or the next part.
use Rattle.std.proofs.Common.{◌≡◌, ℕ, ◌*◌, List, [], length, sym, ap, subst, ◌∙◌, arith}
use Rattle.block_index.specs.Places.{Cube}
use Rattle.block_fields.specs.BlockStates.{AreBlocksOf}
use Rattle.checkpoint.specs.Lemmas.Stages.{EndsRead, told}
use Rattle.checkpoint.specs.Reading.{kept_depth, size}
use Rattle.checkpoint.specs.declared.part.Part.TheVariants as parts
use Rattle.checkpoint.proofs.StageParts.{after-amounts, total-told}
use Rattle.checkpoint.proofs.Stages.{is-short}
use Rattle.checkpoint.proofs.rest.from_amounts.Goals as goal

pub returns-then-left-size-clause-fault : goal.returns-then-left-size-clause-fault
returns-then-left-size-clause-fault c =
    let p = c.args.params in
    let s = told p c.args.cycle c.args.set.places [] [] [] in
    let many : length c.items.result.now ≡ length p.fields = ap length (c.items.ensures.items ∙ c.fields.ensures.fields) in
    let edge : c.block.result ≡ p.block = c.block.ensures.block in
    let whole : c.amounts_size-size.result ≡ size s parts.Amounts =
    c.amounts_size-size.ensures.size ∙ (λ i. c.len.ensures.len i * (many i * (8 * (edge i * edge i * edge i)))) in
    subst (EndsRead c.args.file.now) (sym c.truncated.ensures.fault)
    (is-short parts.Amounts c.args.file.now s c.args.left.now c.requires.stands (omega (arith, c.if-left-size.true, whole)))

pub from_totals-requires-clause-stands : goal.from_totals-requires-clause-stands
from_totals-requires-clause-stands c =
    let p = c.args.params in
    let blocks = c.in_ok-blocks.blocks.items in
    let many : length c.items.result.now ≡ length p.fields = ap length (c.items.ensures.items ∙ c.fields.ensures.fields) in
    let are : AreBlocksOf c.args.set.places p.block (length p.fields) kept_depth blocks =
    subst (λ (n : ℕ). AreBlocksOf c.args.set.places p.block n kept_depth blocks) many
    (subst (λ (n : ℕ). AreBlocksOf c.args.set.places n (length c.items.result.now) kept_depth blocks) c.block-2.ensures.block
    (subst (λ (l : List Cube). AreBlocksOf l c.block-2.result (length c.items.result.now) kept_depth blocks) c.places.ensures.places c.in_ok-blocks.ensures.blocks)) in
    after-amounts c.args.file.now c.args.left.now c.split_at.result.0.now c.split_at.result.1.now c.amounts_size-size.result p c.args.cycle c.args.set.places blocks
    c.requires.stands c.split_at.ensures.front c.split_at.ensures.back (omega (arith, c.block.ensures.limits.block.low)) are c.in_ok-blocks.ensures.words

pub from_totals-requires-clause-sums : goal.from_totals-requires-clause-sums
from_totals-requires-clause-sums c =
    let p = c.args.params in
    let many : length c.items.result.now ≡ length p.fields = ap length (c.items.ensures.items ∙ c.fields.ensures.fields) in
    λ f l. c.in_ok-blocks.ensures.sums f (omega (arith, l, many)) ∙ total-told p c.args.cycle c.args.set.places c.in_ok-blocks.blocks.items f
