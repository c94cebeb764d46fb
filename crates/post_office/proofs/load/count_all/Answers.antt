use Rattle.std.proofs.Common.{rules, ◌+◌, ◌<◌, length, refl, arith}
use Rattle.std.proofs.lemmas.Grind.{common_steps}
use Rattle.std.proofs.lemmas.Option.{slice_get_read}
use Rattle.post_office.proofs.Lists.{pool_more, pool_take_low, list_within}
use Rattle.post_office.proofs.load.count_all.Goals as goal

pub len-total-requires : goal.len-total-requires
len-total-requires g c =
    let mail = c.args.mail.now.items in
    let low : c.loop-k.k < length mail = first_of (search rules, grind (arith, common_steps)) in
    let here = slice_get_read mail (length mail) c.loop-k.k c.index.result.now refl low c.index.ensures in
    let within = list_within mail c.loop-k.k c.index.result.now here in
    record { few = omega (arith, within, c.requires.few) }

pub overflow_add-total : goal.overflow_add-total
overflow_add-total g c =
    let mail = c.args.mail.now.items in
    let low : c.loop-k.k < length mail = first_of (search rules, grind (arith, common_steps)) in
    let here = slice_get_read mail (length mail) c.loop-k.k c.index.result.now refl low c.index.ensures in
    let more = pool_more mail c.loop-k.k c.index.result.now here in
    let few = pool_take_low mail (c.loop-k.k + 1) in
    omega (arith, c.loop-k.invariant, c.len-total.ensures, more, few, c.requires.few)

pub loop-k-preserved : goal.loop-k-preserved
loop-k-preserved g c =
    let mail = c.args.mail.now.items in
    let low : c.loop-k.k < length mail = first_of (search rules, grind (arith, common_steps)) in
    let here = slice_get_read mail (length mail) c.loop-k.k c.index.result.now refl low c.index.ensures in
    let more = pool_more mail c.loop-k.k c.index.result.now here in
    omega (arith, c.loop-k.invariant, c.len-total.ensures, more)
