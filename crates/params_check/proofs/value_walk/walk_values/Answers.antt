-- Each group's step answers the first fault of its part, where no part before has one.
use Rattle.std.proofs.Common.{ℕ, List, [], ◌∙◌, codes, ap}
use Rattle.params_check.specs.declared.criterion.Criterion.{Criterion}
use Rattle.params_check.specs.declared.shape.Shape.{Shape}
use Rattle.params_check.specs.declared.slots.Slot.{Slot}
use Rattle.params_check.specs.Keys.{Key, mesh_keys, method_keys}
use Rattle.params_check.specs.TreeValues.{settings_of}
use Rattle.params_check.specs.Walks.{keys_faults, second_walk}
use Rattle.params_check.proofs.FirstFaults.{finds-err, first-of}
use Rattle.params_check.proofs.KeptGroups.{mesh-fits, method-fits, mesh-corner, mesh-domain, shape_items-few, criterion_items-few}
use Rattle.params_check.proofs.SecondWalk.{shape_faults, criterion_faults, mesh_part, field_part, shape_part, criterion_part, method_part, output_part, mesh-found, field-found, shapes-found, criteria-found, method-found, output-found, no-part}
use Rattle.params_check.proofs.SlotValues.{kept-keys}
use Rattle.params_check.proofs.value_walk.walk_values.Goals as goal

pub returns-in_err-mesh-clause-fault : goal.returns-in_err-mesh-clause-fault
returns-in_err-mesh-clause-fault c =
    let e = c.in_err-mesh.field-0.0 in
    let groups = c.args.groups.now in
    let part = λ (keys : List Key). keys_faults (codes "Mesh") [] [] [] (settings_of (codes "Mesh") groups) keys in
    let found = first-of (List Slot) _ (mesh_part groups) e (ap part c.mesh_keys.ensures.keys) c.in_err-mesh.ensures.fault in
    finds-err (second_walk groups) c.from_residual.result e c.from_residual.ensures.1 (mesh-found groups e found)

pub returns-in_err-fields-clause-fault : goal.returns-in_err-fields-clause-fault
returns-in_err-fields-clause-fault c =
    let e = c.in_err-fields.field-0.0 in
    let groups = c.args.groups.now in
    let mesh = rw c.mesh_keys.ensures.keys at c.in_ok-mesh.ensures.fault in
    let found = first-of (List (List ℕ)) (field_part groups) (field_part groups) e (λ i. field_part groups) c.in_err-fields.ensures.fault in
    finds-err (second_walk groups) c.from_residual-in_err-fields.result e c.from_residual-in_err-fields.ensures.1 (field-found groups e mesh found)

pub walk_shapes-requires-clause-few : goal.walk_shapes-requires-clause-few
walk_shapes-requires-clause-few c = rw c.items_of.ensures.items (shape_items-few c.args.groups.now c.requires.named)

pub walk_criteria-requires-clause-few : goal.walk_criteria-requires-clause-few
walk_criteria-requires-clause-few c = rw c.items_of-2.ensures.items (criterion_items-few c.args.groups.now c.requires.named)

pub returns-in_err-shapes-clause-fault : goal.returns-in_err-shapes-clause-fault
returns-in_err-shapes-clause-fault c =
    let e = c.in_err-shapes.field-0.0 in
    let groups = c.args.groups.now in
    let mesh = rw c.mesh_keys.ensures.keys at c.in_ok-mesh.ensures.fault in
    let names = c.items.ensures.items ∙ c.in_ok-fields.ensures.names in
    let found = first-of (List Shape) (shape_faults c.items.result.now c.items_of.result.now) (shape_part groups) e (λ i. shape_faults (names i) (c.items_of.ensures.items i)) c.in_err-shapes.ensures.fault in
    finds-err (second_walk groups) c.from_residual-in_err-shapes.result e c.from_residual-in_err-shapes.ensures.1
    (shapes-found groups e mesh c.in_ok-fields.ensures.fault found)

pub returns-in_err-criteria-clause-fault : goal.returns-in_err-criteria-clause-fault
returns-in_err-criteria-clause-fault c =
    let e = c.in_err-criteria.field-0.0 in
    let groups = c.args.groups.now in
    let mesh = rw c.mesh_keys.ensures.keys at c.in_ok-mesh.ensures.fault in
    let names = c.items.ensures.items ∙ c.in_ok-fields.ensures.names in
    let names_again = c.items-2.ensures.items ∙ c.in_ok-fields.ensures.names in
    let shapes = rw (c.items_of.ensures.items, names) at c.in_ok-shapes.ensures.fault in
    let found = first-of (List Criterion) (criterion_faults c.items-2.result.now c.items_of-2.result.now) (criterion_part groups) e (λ i. criterion_faults (names_again i) (c.items_of-2.ensures.items i)) c.in_err-criteria.ensures.fault in
    finds-err (second_walk groups) c.from_residual-in_err-criteria.result e c.from_residual-in_err-criteria.ensures.1
    (criteria-found groups e mesh c.in_ok-fields.ensures.fault shapes found)

pub returns-in_err-method-clause-fault : goal.returns-in_err-method-clause-fault
returns-in_err-method-clause-fault c =
    let e = c.in_err-method.field-0.0 in
    let groups = c.args.groups.now in
    let mesh = rw c.mesh_keys.ensures.keys at c.in_ok-mesh.ensures.fault in
    let names = c.items.ensures.items ∙ c.in_ok-fields.ensures.names in
    let names_again = c.items-2.ensures.items ∙ c.in_ok-fields.ensures.names in
    let shapes = rw (c.items_of.ensures.items, names) at c.in_ok-shapes.ensures.fault in
    let criteria = rw (c.items_of-2.ensures.items, names_again) at c.in_ok-criteria.ensures.fault in
    let part = λ (keys : List Key). keys_faults (codes "Method") [] [] [] (settings_of (codes "Method") groups) keys in
    let found = first-of (List Slot) _ (method_part groups) e (ap part c.method_keys.ensures.keys) c.in_err-method.ensures.fault in
    finds-err (second_walk groups) c.from_residual-in_err-method.result e c.from_residual-in_err-method.ensures.1
    (method-found groups mesh c.in_ok-fields.ensures.fault shapes criteria e found)

pub returns-in_err-output-clause-fault : goal.returns-in_err-output-clause-fault
returns-in_err-output-clause-fault c =
    let e = c.in_err-output.field-0.0 in
    let groups = c.args.groups.now in
    let mesh = rw c.mesh_keys.ensures.keys at c.in_ok-mesh.ensures.fault in
    let names = c.items.ensures.items ∙ c.in_ok-fields.ensures.names in
    let names_again = c.items-2.ensures.items ∙ c.in_ok-fields.ensures.names in
    let shapes = rw (c.items_of.ensures.items, names) at c.in_ok-shapes.ensures.fault in
    let criteria = rw (c.items_of-2.ensures.items, names_again) at c.in_ok-criteria.ensures.fault in
    let method = rw c.method_keys.ensures.keys at c.in_ok-method.ensures.fault in
    let part = λ (keys : List Key). keys_faults (codes "Output") [] [] [] (settings_of (codes "Output") groups) keys in
    let found = first-of (List Slot) _ (output_part groups) e (ap part c.output_keys.ensures.keys) c.in_err-output.ensures.fault in
    finds-err (second_walk groups) c.from_residual-in_err-output.result e c.from_residual-in_err-output.ensures.1
    (output-found groups mesh c.in_ok-fields.ensures.fault shapes criteria method e found)

pub read_values-requires-clause-mesh : goal.read_values-requires-clause-mesh
unfolding mesh_keys
read_values-requires-clause-mesh c =
    let sets = settings_of (codes "Mesh") c.args.groups.now in
    let fits = mesh-fits sets (kept-keys (codes "Mesh") [] [] [] sets mesh_keys (rw c.mesh_keys.ensures.keys at c.in_ok-mesh.ensures.fault)) in
    (sets, rw c.deref.ensures.value (rw c.mesh_keys.ensures.keys at c.in_ok-mesh.ensures.slots), mesh-corner sets fits, mesh-domain sets fits, fits.1.1.1.1.1.1.0)

pub read_values-requires-clause-method : goal.read_values-requires-clause-method
unfolding method_keys
read_values-requires-clause-method c =
    let sets = settings_of (codes "Method") c.args.groups.now in
    let fits = method-fits sets (kept-keys (codes "Method") [] [] [] sets method_keys (rw c.method_keys.ensures.keys at c.in_ok-method.ensures.fault)) in
    (sets, rw c.deref-2.ensures.value (rw c.method_keys.ensures.keys at c.in_ok-method.ensures.slots), fits.0.three)

pub returns-clause-fault : goal.returns-clause-fault
returns-clause-fault c =
    let groups = c.args.groups.now in
    let mesh = rw c.mesh_keys.ensures.keys at c.in_ok-mesh.ensures.fault in
    let names = c.items.ensures.items ∙ c.in_ok-fields.ensures.names in
    let names_again = c.items-2.ensures.items ∙ c.in_ok-fields.ensures.names in
    let shapes = rw (c.items_of.ensures.items, names) at c.in_ok-shapes.ensures.fault in
    let criteria = rw (c.items_of-2.ensures.items, names_again) at c.in_ok-criteria.ensures.fault in
    let method = rw c.method_keys.ensures.keys at c.in_ok-method.ensures.fault in
    let output = rw c.output_keys.ensures.keys at c.in_ok-output.ensures.fault in
    no-part groups mesh c.in_ok-fields.ensures.fault shapes criteria method output
