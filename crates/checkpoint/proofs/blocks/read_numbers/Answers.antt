-- One number more.
use Rattle.std.proofs.Common.{◌<◌, length, ◌∙◌, arith}
use Rattle.std.proofs.lemmas.List.{length-set}
use Rattle.checkpoint.proofs.WordLists.{NumbersRead-more}
use Rattle.checkpoint.proofs.blocks.read_numbers.Goals as goal

pub loop-j-preserved : goal.loop-j-preserved
loop-j-preserved c =
    let numbers = c.loop-j.numbers in
    let j = c.loop-j.j in
    let word = c.word_at-word.result in
    let same = length-set numbers j word in
    let long = c.loop-j.invariant.long in
    let below : j < length numbers = omega (arith, c.loop-j-test.true, long) in
    record {
      within = omega (arith, same, below);
      long = same ∙ long;
      read = NumbersRead-more c.args.bytes.now numbers j c.loop-j.total word c.loop-j.invariant.read below (omega (arith, c.requires.whole, long, below)) c.word_at-word.ensures.word;
    }
