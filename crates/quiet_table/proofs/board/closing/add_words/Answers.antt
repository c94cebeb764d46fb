use Rattle.std.proofs.Common.{◌≡◌, ◌+◌, ◌*◌, suc, arith, refl}
use Rattle.std.specs.Mem.Slots.{slots_items}
use Rattle.quiet_table.proofs.Spans.{span_last, span_mono}
use Rattle.quiet_table.proofs.board.closing.add_words.Goals as goal

pub overflow_add-total : goal.overflow_add-total
overflow_add-total g c =
    let words = slots_items c.args.closed.now.words in
    let n = c.args.shards in
    let l = span_last words (3 * n) c.loop-k.k (3 * n + c.loop-k.k) refl (let a = c.requires.row.0 in let b = c.loop-k-test.true in omega arith) in
    let m = span_mono words (3 * n) (suc c.loop-k.k) n (let b = c.loop-k-test.true in omega arith) in
    let a = c.requires.small in let b = c.loop-k.invariant in let d = c.word_at-total.ensures in omega arith

pub loop-k-preserved : goal.loop-k-preserved
loop-k-preserved g c =
    let words = slots_items c.args.closed.now.words in
    let n = c.args.shards in
    let q : c.loop-k.k + 1 ≡ suc c.loop-k.k = omega arith in
    let l = span_last words (3 * n) c.loop-k.k (3 * n + c.loop-k.k) refl (let a = c.requires.row.0 in let b = c.loop-k-test.true in omega arith) in
    let b = c.loop-k.invariant in let d = c.word_at-total.ensures in rw q (omega arith)
