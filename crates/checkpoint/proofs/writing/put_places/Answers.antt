-- A place that was put on the page, and a page that fails.
use Rattle.std.proofs.Common.{[], ◌∷◌, ◌+◌, drop, ◌∙◌, arith}
use Rattle.mesh_output.proofs.Puts.{Puts-from_err, Holds-put, Holds-failed}
use Rattle.checkpoint.specs.Spelling.{numbers_bytes}
use Rattle.checkpoint.proofs.Amounts.{places_bytes, places_bytes-next}
use Rattle.checkpoint.proofs.writing.put_places.Goals as goal

pub returns-in_err-put_numbers-clause-puts : goal.returns-in_err-put_numbers-clause-puts
returns-in_err-put_numbers-clause-puts g c =
    let places = c.args.places.now in
    let i = c.loop-place.place-index in
    let word = c.pack.result in
    Puts-from_err _ _ _ c.args.page.now c.put_numbers.new.page (places_bytes places) c.from_residual.result c.from_residual.ensures.1
    (Holds-failed _ _ _ _ c.loop-place.page (places_bytes (drop i places)) (numbers_bytes (word ∷ [])) (places_bytes (drop (i + 1) places))
    (places_bytes-next places i c.place-item.result word c.loop-place-test.true c.place-item.is c.pack.ensures.word)
    c.loop-place.invariant.holds c.in_err-put_numbers.ensures.puts)

pub loop-place-preserved : goal.loop-place-preserved
loop-place-preserved g c =
    let places = c.args.places.now in
    let i = c.loop-place.place-index in
    let word = c.pack.result in
    record {
      holds = Holds-put _ _ _ _ c.loop-place.page (places_bytes (drop i places)) (numbers_bytes (word ∷ [])) (places_bytes (drop (i + 1) places)) c.put_numbers.new.page
          (places_bytes-next places i c.place-item.result word c.loop-place-test.true c.place-item.is c.pack.ensures.word)
          c.loop-place.invariant.holds c.in_ok-put_numbers.ensures.puts;
      same_rest = c.in_ok-put_numbers.ensures.same_rest ∙ c.loop-place.invariant.same_rest;
      no_fall = omega (arith, c.in_ok-put_numbers.ensures.cause, c.loop-place.invariant.no_fall);
    }
