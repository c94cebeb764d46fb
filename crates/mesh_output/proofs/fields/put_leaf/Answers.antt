-- The place, each field, and a page that fails.
use Rattle.std.proofs.Common.{[], ◌∷◌, ◌+◌, drop, ap, ◌∙◌, arith}
use Rattle.block_index.specs.Places.{packed}
use Rattle.mesh_output.proofs.FieldFiles.{block_bytes, fields_bytes, numbers_bytes, block_bytes-begins, fields_bytes-next}
use Rattle.mesh_output.proofs.Pages.{Holds-all}
use Rattle.mesh_output.proofs.Puts.{Puts-from_err, Holds-put, Holds-failed}
use Rattle.mesh_output.proofs.fields.put_leaf.Goals as goal

pub returns-in_err-put_few-clause-puts : goal.returns-in_err-put_few-clause-puts
returns-in_err-put_few-clause-puts g c =
    let b = c.args.block.now in
    let word = c.pack.result in
    Puts-from_err _ _ _ c.args.page.now c.put_few.new.page (block_bytes b) c.from_residual.result c.from_residual.ensures.1
    (Holds-failed _ _ _ _ c.args.page.now (block_bytes b) (numbers_bytes (word ∷ [])) (fields_bytes b.amounts)
    (block_bytes-begins b word (c.pack.ensures.word ∙ ap packed c.place.ensures.place))
    (Holds-all _ _) c.in_err-put_few.ensures.puts)

pub loop-field-init : goal.loop-field-init
loop-field-init g c =
    let b = c.args.block.now in
    let word = c.pack.result in
    record {
      holds = Holds-put _ _ _ _ c.args.page.now (block_bytes b) (numbers_bytes (word ∷ [])) (fields_bytes b.amounts) c.put_few.new.page
          (block_bytes-begins b word (c.pack.ensures.word ∙ ap packed c.place.ensures.place))
          (Holds-all _ _) c.in_ok-put_few.ensures.puts;
      same_rest = c.in_ok-put_few.ensures.same_rest;
      no_fall = omega (arith, c.in_ok-put_few.ensures.cause);
    }

pub returns-in_err-put_numbers-clause-puts : goal.returns-in_err-put_numbers-clause-puts
returns-in_err-put_numbers-clause-puts g c =
    let b = c.args.block.now in
    let f = c.loop-field.field in
    let q = c.field.result.now in
    Puts-from_err _ _ _ c.args.page.now c.put_numbers.new.page (block_bytes b) c.from_residual-in_err-put_numbers.result c.from_residual-in_err-put_numbers.ensures.1
    (Holds-failed _ _ _ _ c.loop-field.page (fields_bytes (drop f b.amounts)) (numbers_bytes q) (fields_bytes (drop (f + 1) b.amounts))
    (fields_bytes-next b.amounts f q (omega (arith, c.loop-field-test.true, c.fields-field-end.ensures.fields)) c.field.ensures.amounts)
    c.loop-field.invariant.holds c.in_err-put_numbers.ensures.puts)

pub loop-field-preserved : goal.loop-field-preserved
loop-field-preserved g c =
    let b = c.args.block.now in
    let f = c.loop-field.field in
    let q = c.field.result.now in
    record {
      holds = Holds-put _ _ _ _ c.loop-field.page (fields_bytes (drop f b.amounts)) (numbers_bytes q) (fields_bytes (drop (f + 1) b.amounts)) c.put_numbers.new.page
          (fields_bytes-next b.amounts f q (omega (arith, c.loop-field-test.true, c.fields-field-end.ensures.fields)) c.field.ensures.amounts)
          c.loop-field.invariant.holds c.in_ok-put_numbers.ensures.puts;
      same_rest = c.in_ok-put_numbers.ensures.same_rest ∙ c.loop-field.invariant.same_rest;
      no_fall = omega (arith, c.in_ok-put_numbers.ensures.cause, c.loop-field.invariant.no_fall);
    }
