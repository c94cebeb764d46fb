use Rattle.std.proofs.Common.{rules, ◌≡◌, ◌<◌, ◌≤◌, ◌+◌, length, get_or, ap, ◌∙◌, arith}
use Rattle.std.specs.Prelude.{slice_set}
use Rattle.std.proofs.lemmas.Grind.{common_steps}
use Rattle.post_office.specs.Lemmas.PartLaws.{get_within}
use Rattle.post_office.proofs.Lists.{get_at}
use Rattle.post_office.specs.Lemmas.PartLaws.{length_put}
use Rattle.post_office.proofs.Ranks.{zero_at, length_zeros, rank_begins, rank_low, any_default, counted_more, ranked_more}
use Rattle.post_office.proofs.opening.rank_all.Goals as goal

pub loop-i-init : goal.loop-i-init
loop-i-init c =
    let is = c.in_ok-counts.ensures in
    record {
      wide = ap length is ∙ length_zeros c.args.shards 0;
      counted = λ s h. ap (λ l. get_or l s 0) is ∙ (zero_at c.args.shards s 0 ∙ rank_begins c.args.owners.now s);
      long = ap length c.new-ranks.ensures.items;
      ranked = λ j s h. absurd (omega arith);
    }

pub overflow_add-index_mut : goal.overflow_add-index_mut
overflow_add-index_mut c =
    let i = c.loop-i.i in
    let owners = c.args.owners.now in
    let low : i < length owners = first_of (search rules, grind (arith, common_steps)) in
    let o = get_or owners i 0 in
    let within = c.requires.within i 0 low in
    let n = c.loop-i.invariant.counted o within in
    let m = rank_low owners o i in
    let wide = c.loop-i.invariant.wide in
    let read : c.index_mut.result.now ≡ get_or c.loop-i.counts.items o 0 = c.index_mut.ensures.value ∙ any_default c.loop-i.counts.items o c.index_mut.result.now 0 (omega (arith, within, wide)) in
    omega (arith, n, m, low, read, c.requires.few)

pub loop-i-preserved : goal.loop-i-preserved
loop-i-preserved c =
    let i = c.loop-i.i in
    let inv = c.loop-i.invariant in
    let owners = c.args.owners.now in
    let counts = c.loop-i.counts.items in
    let ranks = c.loop-i.ranks.items in
    let low : i < length owners = first_of (search rules, grind (arith, common_steps)) in
    let o = get_or owners i 0 in
    let at = get_at owners i 0 low in
    let within = c.requires.within i 0 low in
    let pushed = c.in_ok-push.ensures.items in
    let wide = inv.wide in
    let read : c.index_mut.result.now ≡ get_or counts o 0 = c.index_mut.ensures.value ∙ any_default counts o c.index_mut.result.now 0 (omega (arith, within, wide)) in
    record {
      wide = length_put counts o (c.index_mut.result.now + 1) ∙ inv.wide;
      counted = λ s h. ap (λ z. get_or (slice_set counts o (z + 1)) s 0) read ∙ counted_more owners counts c.args.shards i o inv.wide at within inv.counted s h;
      long = (let n = ap length pushed in first_of (search rules, grind (arith, common_steps)));
      ranked = ranked_more owners ranks _ i o _ pushed at inv.long (c.index.ensures ∙ (any_default counts o c.index.result.now 0 (omega (arith, within, wide)) ∙ inv.counted o within)) inv.ranked;
    }

pub returns : goal.returns
returns c =
    let full : length c.args.owners.now ≤ c.loop-i.i = first_of (search rules, grind (arith, common_steps)) in
    record { ranked = λ j s at. (let h = get_within c.args.owners.now j s at in c.loop-i.invariant.ranked j s (omega (arith, h, full)) at) }
