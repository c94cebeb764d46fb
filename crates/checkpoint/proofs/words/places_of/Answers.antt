-- One word more, and one that is no place.
use Rattle.std.proofs.Common.{refl, arith}
use Rattle.std.proofs.lemmas.List.Elements.{All-push}
use Rattle.block_index.specs.Places.{IsPlace}
use Rattle.checkpoint.proofs.PlaceWords.{first-no-place, none-so_far, places-more}
use Rattle.checkpoint.proofs.words.places_of.Goals as goal

pub returns-in-None-clause-fault : goal.returns-in-None-clause-fault
returns-in-None-clause-fault c = λ grid.
    first-no-place c.args.bytes.now c.loop-at.at c.word_at.result grid (omega (arith, c.requires.whole, c.loop-at-test.true)) c.word_at.ensures.word
    (c.in-None.ensures.none.0 refl) c.loop-at.invariant.none_before

pub loop-at-preserved : goal.loop-at-preserved
loop-at-preserved c =
    let bytes = c.args.bytes.now in
    let at = c.loop-at.at in
    let word = c.word_at.result in
    let place = c.in-Some.place in
    record {
      within = omega (arith, c.loop-at-test.true);
      words = rw c.in_ok-push-in-Some.ensures.items (places-more bytes c.loop-at.places.items at word place (omega (arith, c.requires.whole, c.loop-at-test.true)) c.word_at.ensures.word
          c.in-Some.ensures.packs_back c.loop-at.invariant.words);
      limits = rw c.in_ok-push-in-Some.ensures.items (All-push IsPlace c.loop-at.places.items place c.loop-at.invariant.limits c.in-Some.ensures.limits);
      none_before = none-so_far bytes at word place c.word_at.ensures.word c.in-Some.ensures.packs_back c.in-Some.ensures.limits c.loop-at.invariant.none_before;
    }
