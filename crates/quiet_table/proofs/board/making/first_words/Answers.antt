use Rattle.std.proofs.Common.{rules, ◌≡◌, ◌<◌, ◌+◌, ◌*◌, ◌++◌, [], map, take, length, set, get_or, replicate, arith, sym, ap, ◌∙◌, subst}
use Rattle.quiet_table.specs.Contents.{pool}
use Rattle.quiet_table.specs.Words.{FirstWords}
use Rattle.quiet_table.proofs.Openings.{zero_words, zeros_at, words_more, lots_more, lots_both, lot_at, lot_within, take_all}
use Rattle.std.proofs.lemmas.Grind.{common_steps}
use Rattle.std.proofs.Common.{get_or-set_other}
use lib.ListN.{length-map}
use Rattle.quiet_table.proofs.board.making.first_words.Goals as goal

pub loop-k-init : goal.loop-k-init
loop-k-init g c =
    let n = length c.args.cells.now.items in
    let z : c.in_ok-words.words.items ≡ replicate (4 * n + 1) 0 = first_of (search rules, grind (arith, common_steps)) in
    record { words = rw z (zero_words n); zeros = λ j a b. rw z (zeros_at (4 * n + 1) (2 * n + j)) }

pub overflow_add-there : goal.overflow_add-there
overflow_add-there g c =
    let cs = c.args.cells.now.items in
    let bs = c.args.boxes.now.items in
    let n = length cs in
    let k = c.loop-k.k in
    let sh : c.len-shards.result ≡ n = first_of (search rules, grind (arith, common_steps)) in
    let fs = map g.C.Load.parcels cs in
    let gs = map g.B.Load.parcels bs in
    let lf = length-map cs g.C.Load.parcels in
    let lg = length-map bs g.B.Load.parcels in
    let below = c.loop-k-test.true in
    let low : k < n = omega arith in
    let same = c.requires.counts.0 in
    let one : get_or fs k [] ≡ g.C.Load.parcels c.index.result.now = lot_at g.C.Load.parcels cs k c.index.result.now low c.index.ensures in
    let two : get_or gs k [] ≡ g.B.Load.parcels c.index-in-loop-k.result.now = lot_at g.B.Load.parcels bs k c.index-in-loop-k.result.now (omega arith) c.index-in-loop-k.ensures in
    let one_is = c.load.ensures.count ∙ ap (λ l. length l) (sym one) in
    let two_is = c.load-in-loop-k.ensures.count ∙ ap (λ l. length l) (sym two) in
    let a = lot_within fs k (omega arith) in
    let b = lot_within gs k (omega arith) in
    let all = lots_both fs gs in
    let small = c.requires.small in
    omega arith

pub loop-k-preserved : goal.loop-k-preserved
loop-k-preserved g c =
    let cs = c.args.cells.now.items in
    let bs = c.args.boxes.now.items in
    let n = length cs in
    let k = c.loop-k.k in
    let sh : c.len-shards.result ≡ n = first_of (search rules, grind (arith, common_steps)) in
    let fs = map g.C.Load.parcels cs in
    let gs = map g.B.Load.parcels bs in
    let lf = length-map cs g.C.Load.parcels in
    let lg = length-map bs g.B.Load.parcels in
    let below = c.loop-k-test.true in
    let low : k < n = omega arith in
    let same = c.requires.counts.0 in
    let one : get_or fs k [] ≡ g.C.Load.parcels c.index.result.now = lot_at g.C.Load.parcels cs k c.index.result.now low c.index.ensures in
    let two : get_or gs k [] ≡ g.B.Load.parcels c.index-in-loop-k.result.now = lot_at g.B.Load.parcels bs k c.index-in-loop-k.result.now (omega arith) c.index-in-loop-k.ensures in
    let one_is = c.load.ensures.count ∙ ap (λ l. length l) (sym one) in
    let two_is = c.load-in-loop-k.ensures.count ∙ ap (λ l. length l) (sym two) in
    let inv = c.loop-k.invariant in
    let x = c.load.result + c.load-in-loop-k.result in
    let f = length (pool (take k fs)) + length (pool (take k gs)) in
    let m1 = lots_more fs k (omega arith) in
    let m2 = lots_more gs k (omega arith) in
    let total : f + x ≡ length (pool (take (k + 1) fs)) + length (pool (take (k + 1) gs)) = omega arith in
    let at : 2 * n + k ≡ 2 * c.len-shards.result + k = omega arith in
    record {
      words = subst (λ z. FirstWords n (set c.loop-k.words.items z x) (length (pool (take (k + 1) fs)) + length (pool (take (k + 1) gs)))) at (subst (λ z. FirstWords n (set c.loop-k.words.items (2 * n + k) x) z) total (words_more n k x f c.loop-k.words.items inv.words low (inv.zeros k (omega arith) low)));
      zeros = λ j a b. get_or-set_other c.loop-k.words.items (2 * c.len-shards.result + k) (2 * n + j) x 0 (λ q. omega arith) ∙ inv.zeros j (omega arith) b;
    }

pub returns : goal.returns
returns g c =
    let cs = c.args.cells.now.items in
    let bs = c.args.boxes.now.items in
    let n = length cs in
    let k = c.loop-k.k in
    let sh : c.len-shards.result ≡ n = first_of (search rules, grind (arith, common_steps)) in
    let fs = map g.C.Load.parcels cs in
    let gs = map g.B.Load.parcels bs in
    let lf = length-map cs g.C.Load.parcels in
    let lg = length-map bs g.B.Load.parcels in
    let past = c.loop-k-test.false in
    let same = c.requires.counts.0 in
    let e1 = take_all fs k (omega arith) in
    let e2 = take_all gs k (omega arith) in
    let all = lots_both fs gs in
    let total : length (pool (take k fs)) + length (pool (take k gs)) ≡ length (pool (fs ++ gs)) = (let a = ap (λ l. length (pool l)) e1 in let b = ap (λ l. length (pool l)) e2 in omega arith) in
    subst (λ z. FirstWords n c.loop-k.words.items z) total c.loop-k.invariant.words
