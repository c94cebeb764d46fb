-- The slots are the values of the sub's keys, which fit.
use Rattle.std.proofs.Common.{◌≡◌, ◌∙◌, List, codes, length, map, sym, ap, subst, arith}
use Rattle.params_check.specs.declared.slots.Slot.{Slot}
use Rattle.params_check.specs.Keys.{criterion_kind, criterion_keys}
use Rattle.params_check.specs.Lemmas.Tables.{entry}
use Rattle.params_check.specs.Limits.{KeepsTest}
use Rattle.params_check.specs.TreeValues.{word_at, test_of}
use Rattle.params_check.specs.Values.{size_in}
use Rattle.params_check.specs.Walks.{keys_faults}
use Rattle.params_check.proofs.FirstFaults.{finds-err, first-of}
use Rattle.params_check.proofs.KeptSubs.{criterion-kept}
use Rattle.params_check.proofs.SlotValues.{slot-value, keys_faults-same, kept-keys}
use Rattle.params_check.proofs.criterion_walk.walk_criterion.Goals as goal
use Rattle.params_check.proofs.criterion_walk.walk_criterion.Goals.{in_default-via-then-as_slice-lt8, in_default-via-else-as_slice-lt8+else-this-lt9}

pub returns-in_err-slots-clause-fault : goal.returns-in_err-slots-clause-fault
returns-in_err-slots-clause-fault c =
    let a = c.args in
    let e = c.in_err-slots.field-0.0 in
    let table = map entry c.criterion_keys.result.now in
    let found = keys_faults c.name.result a.sub.now a.names.now c.word_of-kind.result.now a.sets.now table in
    let faults = keys_faults (codes "Adapt") a.sub.now a.names.now (word_at criterion_kind a.sets.now) a.sets.now criterion_keys in
    let same = keys_faults-same c.name.result (codes "Adapt") a.sub.now a.names.now c.word_of-kind.result.now (word_at criterion_kind a.sets.now) a.sets.now table criterion_keys
    c.name.ensures.bytes c.word_of-kind.ensures.word c.criterion_keys.ensures.keys in
    finds-err faults c.from_residual.result e c.from_residual.ensures.1 (first-of (List Slot) found faults e same c.in_err-slots.ensures.fault)

pub unreachable-requires : goal.unreachable-requires
unreachable-requires c =
    let eight : length c.as_slice.result.now ≡ 8 = ap length c.as_slice.ensures.value ∙ c.in_ok-slots.ensures.length ∙ c.criterion_keys.ensures.count in
    elim c.in_default.branch [
      | in_default-via-then-as_slice-lt8 w ↦ grind (arith, eight)
      | in_default-via-else-as_slice-lt8+else-this-lt9 w ↦ grind (arith, eight)
    ]

pub overflow_cast-result : goal.overflow_cast-result
unfolding criterion_keys
overflow_cast-result c =
    let a = c.args in
    let items = c.in_ok-slots.slots.items in
    let are = rw c.criterion_keys.ensures.keys at c.in_ok-slots.ensures.slots in
    let eight : length items ≡ 8 = c.in_ok-slots.ensures.length ∙ c.criterion_keys.ensures.count in
    let until = slot-value criterion_keys a.sets.now items 1 _ c.until-item.result criterion_kind are (omega (arith, eight)) (rw c.as_slice.ensures.value at c.until-item.is) in
    let faults = rw (c.name.ensures.bytes, c.word_of-kind.ensures.word, c.criterion_keys.ensures.keys) at c.in_ok-slots.ensures.fault in
    let kept = kept-keys (codes "Adapt") a.sub.now a.names.now (word_at criterion_kind a.sets.now) a.sets.now criterion_keys faults in
    omega (arith, c.number.ensures.number, ap size_in until, (criterion-kept a.names.now a.sets.now a.sub.now kept).most)

pub test-requires-clause-keeps : goal.test-requires-clause-keeps
unfolding criterion_keys
test-requires-clause-keeps c =
    let a = c.args in
    let items = c.in_ok-slots.slots.items in
    let are = rw c.criterion_keys.ensures.keys at c.in_ok-slots.ensures.slots in
    let eight : length items ≡ 8 = c.in_ok-slots.ensures.length ∙ c.criterion_keys.ensures.count in
    let field = slot-value criterion_keys a.sets.now items 2 _ c.field-item.result criterion_kind are (omega (arith, eight)) (rw c.as_slice.ensures.value at c.field-item.is) in
    let low = slot-value criterion_keys a.sets.now items 3 _ c.low-item.result criterion_kind are (omega (arith, eight)) (rw c.as_slice.ensures.value at c.low-item.is) in
    let high = slot-value criterion_keys a.sets.now items 4 _ c.high-item.result criterion_kind are (omega (arith, eight)) (rw c.as_slice.ensures.value at c.high-item.is) in
    let level = slot-value criterion_keys a.sets.now items 5 _ c.level-item.result criterion_kind are (omega (arith, eight)) (rw c.as_slice.ensures.value at c.level-item.is) in
    let refine = slot-value criterion_keys a.sets.now items 6 _ c.refine-item.result criterion_kind are (omega (arith, eight)) (rw c.as_slice.ensures.value at c.refine-item.is) in
    let coarsen = slot-value criterion_keys a.sets.now items 7 _ c.coarsen-item.result criterion_kind are (omega (arith, eight)) (rw c.as_slice.ensures.value at c.coarsen-item.is) in
    let faults = rw (c.name.ensures.bytes, c.word_of-kind.ensures.word, c.criterion_keys.ensures.keys) at c.in_ok-slots.ensures.fault in
    let kept = kept-keys (codes "Adapt") a.sub.now a.names.now (word_at criterion_kind a.sets.now) a.sets.now criterion_keys faults in
    let fields = length a.names.now in
    (fields, subst (KeepsTest fields) (sym (λ i. test_of a.names.now (c.word_of-kind.ensures.word i) (field i) (low i) (high i) (level i) (refine i) (coarsen i))) (criterion-kept a.names.now a.sets.now a.sub.now kept).test)

pub returns-clause-value : goal.returns-clause-value
unfolding criterion_keys
returns-clause-value c =
    let a = c.args in
    let items = c.in_ok-slots.slots.items in
    let are = rw c.criterion_keys.ensures.keys at c.in_ok-slots.ensures.slots in
    let eight : length items ≡ 8 = c.in_ok-slots.ensures.length ∙ c.criterion_keys.ensures.count in
    let until = slot-value criterion_keys a.sets.now items 1 _ c.until-item.result criterion_kind are (omega (arith, eight)) (rw c.as_slice.ensures.value at c.until-item.is) in
    let field = slot-value criterion_keys a.sets.now items 2 _ c.field-item.result criterion_kind are (omega (arith, eight)) (rw c.as_slice.ensures.value at c.field-item.is) in
    let low = slot-value criterion_keys a.sets.now items 3 _ c.low-item.result criterion_kind are (omega (arith, eight)) (rw c.as_slice.ensures.value at c.low-item.is) in
    let high = slot-value criterion_keys a.sets.now items 4 _ c.high-item.result criterion_kind are (omega (arith, eight)) (rw c.as_slice.ensures.value at c.high-item.is) in
    let level = slot-value criterion_keys a.sets.now items 5 _ c.level-item.result criterion_kind are (omega (arith, eight)) (rw c.as_slice.ensures.value at c.level-item.is) in
    let refine = slot-value criterion_keys a.sets.now items 6 _ c.refine-item.result criterion_kind are (omega (arith, eight)) (rw c.as_slice.ensures.value at c.refine-item.is) in
    let coarsen = slot-value criterion_keys a.sets.now items 7 _ c.coarsen-item.result criterion_kind are (omega (arith, eight)) (rw c.as_slice.ensures.value at c.coarsen-item.is) in
    let last = c.number.ensures.number ∙ ap size_in until in
    let test : c.test.result ≡ _ = c.test.ensures.test ∙ (λ i. test_of a.names.now (c.word_of-kind.ensures.word i) (field i) (low i) (high i) (level i) (refine i) (coarsen i)) in
    λ i. record { until = last i; test = test i }
