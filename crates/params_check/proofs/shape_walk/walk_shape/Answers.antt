-- The slots are the values of the sub's keys, which fit.
use Rattle.std.proofs.Common.{◌≡◌, ◌∙◌, List, codes, length, map, sym, ap, subst, arith}
use Rattle.params_check.specs.declared.slots.Slot.{Slot}
use Rattle.params_check.specs.Keys.{shape_kind, shape_keys}
use Rattle.params_check.specs.Lemmas.Tables.{entry}
use Rattle.params_check.specs.Limits.{KeepsForm}
use Rattle.params_check.specs.TreeValues.{position_of, word_at, form_of}
use Rattle.params_check.specs.Values.{size_in, word_in}
use Rattle.params_check.specs.Walks.{keys_faults}
use Rattle.params_check.proofs.FirstFaults.{finds-err, first-of}
use Rattle.params_check.proofs.KeptSubs.{shape-kept}
use Rattle.params_check.proofs.SlotValues.{slot-value, keys_faults-same, kept-keys}
use Rattle.params_check.proofs.shape_walk.walk_shape.Goals as goal
use Rattle.params_check.proofs.shape_walk.walk_shape.Goals.{in_default-via-then-as_slice-lt7, in_default-via-else-as_slice-lt7+else-this-lt8}

pub returns-in_err-slots-clause-fault : goal.returns-in_err-slots-clause-fault
returns-in_err-slots-clause-fault c =
    let a = c.args in
    let e = c.in_err-slots.field-0.0 in
    let table = map entry c.shape_keys.result.now in
    let found = keys_faults c.name.result a.sub.now a.names.now c.word_of-kind.result.now a.sets.now table in
    let faults = keys_faults (codes "Initial") a.sub.now a.names.now (word_at shape_kind a.sets.now) a.sets.now shape_keys in
    let same = keys_faults-same c.name.result (codes "Initial") a.sub.now a.names.now c.word_of-kind.result.now (word_at shape_kind a.sets.now) a.sets.now table shape_keys
    c.name.ensures.bytes c.word_of-kind.ensures.word c.shape_keys.ensures.keys in
    finds-err faults c.from_residual.result e c.from_residual.ensures.1 (first-of (List Slot) found faults e same c.in_err-slots.ensures.fault)

pub unreachable-requires : goal.unreachable-requires
unreachable-requires c =
    let seven : length c.as_slice.result.now ≡ 7 = ap length c.as_slice.ensures.value ∙ c.in_ok-slots.ensures.length ∙ c.shape_keys.ensures.count in
    elim c.in_default.branch [
      | in_default-via-then-as_slice-lt7 w ↦ grind (arith, seven)
      | in_default-via-else-as_slice-lt7+else-this-lt8 w ↦ grind (arith, seven)
    ]

pub form-requires : goal.form-requires
unfolding shape_keys
form-requires c =
    let a = c.args in
    let items = c.in_ok-slots.slots.items in
    let are = rw c.shape_keys.ensures.keys at c.in_ok-slots.ensures.slots in
    let seven : length items ≡ 7 = c.in_ok-slots.ensures.length ∙ c.shape_keys.ensures.count in
    let low = slot-value shape_keys a.sets.now items 2 _ c.low-item.result shape_kind are (omega (arith, seven)) (rw c.as_slice.ensures.value at c.low-item.is) in
    let high = slot-value shape_keys a.sets.now items 3 _ c.high-item.result shape_kind are (omega (arith, seven)) (rw c.as_slice.ensures.value at c.high-item.is) in
    let center = slot-value shape_keys a.sets.now items 4 _ c.center-item.result shape_kind are (omega (arith, seven)) (rw c.as_slice.ensures.value at c.center-item.is) in
    let radius = slot-value shape_keys a.sets.now items 5 _ c.radius-item.result shape_kind are (omega (arith, seven)) (rw c.as_slice.ensures.value at c.radius-item.is) in
    let faults = rw (c.name.ensures.bytes, c.word_of-kind.ensures.word, c.shape_keys.ensures.keys) at c.in_ok-slots.ensures.fault in
    let kept = kept-keys (codes "Initial") a.sub.now a.names.now (word_at shape_kind a.sets.now) a.sets.now shape_keys faults in
    record { keeps = subst KeepsForm (sym (λ i. form_of (c.word_of-kind.ensures.word i) (low i) (high i) (center i) (radius i))) (shape-kept a.names.now a.sets.now a.sub.now kept).form }

pub returns-clause-value : goal.returns-clause-value
unfolding shape_keys
returns-clause-value c =
    let a = c.args in
    let items = c.in_ok-slots.slots.items in
    let are = rw c.shape_keys.ensures.keys at c.in_ok-slots.ensures.slots in
    let seven : length items ≡ 7 = c.in_ok-slots.ensures.length ∙ c.shape_keys.ensures.count in
    let field = slot-value shape_keys a.sets.now items 1 _ c.field-item.result shape_kind are (omega (arith, seven)) (rw c.as_slice.ensures.value at c.field-item.is) in
    let low = slot-value shape_keys a.sets.now items 2 _ c.low-item.result shape_kind are (omega (arith, seven)) (rw c.as_slice.ensures.value at c.low-item.is) in
    let high = slot-value shape_keys a.sets.now items 3 _ c.high-item.result shape_kind are (omega (arith, seven)) (rw c.as_slice.ensures.value at c.high-item.is) in
    let center = slot-value shape_keys a.sets.now items 4 _ c.center-item.result shape_kind are (omega (arith, seven)) (rw c.as_slice.ensures.value at c.center-item.is) in
    let radius = slot-value shape_keys a.sets.now items 5 _ c.radius-item.result shape_kind are (omega (arith, seven)) (rw c.as_slice.ensures.value at c.radius-item.is) in
    let amount = slot-value shape_keys a.sets.now items 6 _ c.amount-item.result shape_kind are (omega (arith, seven)) (rw c.as_slice.ensures.value at c.amount-item.is) in
    let at = c.position_of.ensures.position ∙ ap (λ w. position_of w a.names.now) (c.word.ensures.word ∙ ap word_in field) in
    let much = c.number.ensures.number ∙ ap size_in amount in
    let form : c.form.result ≡ _ = c.form.ensures.form ∙ (λ i. form_of (c.word_of-kind.ensures.word i) (low i) (high i) (center i) (radius i)) in
    λ i. record { field = at i; amount = much i; form = form i }
