use Rattle.std.proofs.Common.{◌≡◌, ◌<◌, [], length, sym, ap, ◌∙◌, arith}
use Rattle.std.proofs.lemmas.List.{length-map, get_or-map, ext_get_or}
use Rattle.block_fields.specs.Blocks.{amounts_of}
use Rattle.block_fields.specs.Divisions.{parts_of, split_amounts}
use Rattle.prolong_restrict.specs.Lemmas.SplitNumbers.{split_list}
use Rattle.prolong_restrict.proofs.SplitNumbers.{parts_of-split_list}
use Rattle.prolong_restrict.proofs.cells.split_cells.Goals as goal

pub returns : goal.returns
returns c =
    let child = c.args.child.now in
    let parent = c.args.parent.now in
    let now = c.loop-f.child.amounts in
    let limits = c.edge-n.ensures.limits in
    let n = parent.edge in
    let long : length now ≡ length parent.amounts = c.loop-f.invariant.long ∙ c.requires.fits.fields in
    let all : now ≡ split_amounts child.edge child.place parent.amounts =
    ext_get_or [] now (split_amounts child.edge child.place parent.amounts) (long ∙ sym (length-map parent.amounts (parts_of child.edge child.place))) (λ g h.
    let l : g < length parent.amounts = omega (arith, long) in
    c.loop-f.invariant.written g (omega (arith, c.loop-f-test.false, c.fields-f-end.ensures.fields))
    ∙ ap (λ n. split_list n c.args.k (amounts_of parent g)) c.edge-n.ensures.edge
    ∙ sym (parts_of-split_list n c.args.k parent.place (amounts_of parent g) limits.even (let e = limits.least in omega arith) c.requires.number)
    ∙ ap (λ p. parts_of n p (amounts_of parent g)) (sym c.requires.fits.place)
    ∙ ap (λ n. parts_of n child.place (amounts_of parent g)) (sym c.requires.fits.edge)
    ∙ sym (get_or-map (parts_of child.edge child.place) parent.amounts g [] [] l)) in
    record { parts = c.loop-f.invariant.same ∙ ap (λ a. record child { amounts = a }) all }
