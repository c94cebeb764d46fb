-- The slots are the values of the keys of their groups.
use Rattle.std.proofs.Common.{◌∙◌, [], Option, None, codes, length, map, sym, ap, subst, arith}
use Rattle.block_index.specs.Places.{IsDomain}
use Rattle.params_check.specs.Keys.{Key, NewNames, key, mesh_keys, method_keys, output_keys}
use Rattle.params_check.specs.Limits.{IsCorner}
use Rattle.params_check.specs.Parameters.{values_of}
use Rattle.params_check.specs.TreeValues.{axis_kind, grid_by, settings_of}
use Rattle.params_check.specs.Values.{same, size_in, sizes_in, word_in, words_in, numbers_in}
use Rattle.params_check.proofs.SlotValues.{slot-value}
use Rattle.params_check.proofs.params.read_values.Goals as goal

-- what stands past the end of a table
abbrev no_key : Key
no_key = key [] [] NewNames None

pub three_axes-axes-requires : goal.three_axes-axes-requires
unfolding mesh_keys
three_axes-axes-requires c =
    let m = c.requires.mesh in
    let boundary = slot-value mesh_keys (m.0) c.args.mesh.now 6 _ c.boundary-item.result no_key m.1 (omega (arith, c.requires.mesh_count)) c.boundary-item.is in
    record { three = ap (λ (o : Option _). length (words_in o)) boundary ∙ m.4 }

pub domain-requires-clause-array : goal.domain-requires-clause-array
unfolding mesh_keys
domain-requires-clause-array c =
    let m = c.requires.mesh in
    let array = slot-value mesh_keys (m.0) c.args.mesh.now 0 _ c.array-item.result no_key m.1 (omega (arith, c.requires.mesh_count)) c.array-item.is in
    subst IsCorner (ap sizes_in (sym array)) m.2

pub domain-requires-clause-limits : goal.domain-requires-clause-limits
unfolding mesh_keys
domain-requires-clause-limits c =
    let m = c.requires.mesh in
    let array = slot-value mesh_keys (m.0) c.args.mesh.now 0 _ c.array-item.result no_key m.1 (omega (arith, c.requires.mesh_count)) c.array-item.is in
    let max_level = slot-value mesh_keys (m.0) c.args.mesh.now 2 _ c.max_level-item.result no_key m.1 (omega (arith, c.requires.mesh_count)) c.max_level-item.is in
    let boundary = slot-value mesh_keys (m.0) c.args.mesh.now 6 _ c.boundary-item.result no_key m.1 (omega (arith, c.requires.mesh_count)) c.boundary-item.is in
    let axes = c.three_axes-axes.ensures.axes ∙ ap (λ (o : Option _). map axis_kind (words_in o)) boundary in
    subst IsDomain (sym (λ i. grid_by (sizes_in (array i)) (axes i) (size_in (max_level i)))) m.3

pub three_numbers-requires : goal.three_numbers-requires
unfolding method_keys
three_numbers-requires c =
    let m = c.requires.method in
    let velocity = slot-value method_keys (m.0) c.args.method.now 0 _ c.velocity-item.result no_key m.1 (omega (arith, c.requires.method_count)) c.velocity-item.is in
    record { three = ap (λ (o : Option _). length (numbers_in o)) velocity ∙ m.2 }

pub returns : goal.returns
unfolding mesh_keys method_keys output_keys values_of
returns c = record {
  values = λ groups in_mesh in_method in_output fields shapes criteria text.
      let array = slot-value mesh_keys (settings_of (codes "Mesh") groups) c.args.mesh.now 0 _ c.array-item.result no_key in_mesh (omega (arith, c.requires.mesh_count)) c.array-item.is in
      let block = slot-value mesh_keys (settings_of (codes "Mesh") groups) c.args.mesh.now 1 _ c.block-item.result no_key in_mesh (omega (arith, c.requires.mesh_count)) c.block-item.is in
      let max_level = slot-value mesh_keys (settings_of (codes "Mesh") groups) c.args.mesh.now 2 _ c.max_level-item.result no_key in_mesh (omega (arith, c.requires.mesh_count)) c.max_level-item.is in
      let max_blocks = slot-value mesh_keys (settings_of (codes "Mesh") groups) c.args.mesh.now 3 _ c.max_blocks-item.result no_key in_mesh (omega (arith, c.requires.mesh_count)) c.max_blocks-item.is in
      let rounds = slot-value mesh_keys (settings_of (codes "Mesh") groups) c.args.mesh.now 4 _ c.rounds-item.result no_key in_mesh (omega (arith, c.requires.mesh_count)) c.rounds-item.is in
      let strict = slot-value mesh_keys (settings_of (codes "Mesh") groups) c.args.mesh.now 5 _ c.strict-item.result no_key in_mesh (omega (arith, c.requires.mesh_count)) c.strict-item.is in
      let boundary = slot-value mesh_keys (settings_of (codes "Mesh") groups) c.args.mesh.now 6 _ c.boundary-item.result no_key in_mesh (omega (arith, c.requires.mesh_count)) c.boundary-item.is in
      let velocity = slot-value method_keys (settings_of (codes "Method") groups) c.args.method.now 0 _ c.velocity-item.result no_key in_method (omega (arith, c.requires.method_count)) c.velocity-item.is in
      let den = slot-value method_keys (settings_of (codes "Method") groups) c.args.method.now 1 _ c.den-item.result no_key in_method (omega (arith, c.requires.method_count)) c.den-item.is in
      let cycles = slot-value method_keys (settings_of (codes "Method") groups) c.args.method.now 2 _ c.cycles-item.result no_key in_method (omega (arith, c.requires.method_count)) c.cycles-item.is in
      let mesh_every = slot-value output_keys (settings_of (codes "Output") groups) c.args.output.now 0 _ c.mesh_every-item.result no_key in_output (omega (arith, c.requires.output_count)) c.mesh_every-item.is in
      let fields_every = slot-value output_keys (settings_of (codes "Output") groups) c.args.output.now 1 _ c.fields_every-item.result no_key in_output (omega (arith, c.requires.output_count)) c.fields_every-item.is in
      let checkpoint_every = slot-value output_keys (settings_of (codes "Output") groups) c.args.output.now 2 _ c.checkpoint_every-item.result no_key in_output (omega (arith, c.requires.output_count)) c.checkpoint_every-item.is in
      let axes = c.three_axes-axes.ensures.axes ∙ ap (λ (o : Option _). map axis_kind (words_in o)) boundary in
      let grid = c.domain.ensures.grid ∙ (λ i. grid_by (sizes_in (array i)) (axes i) (size_in (max_level i))) in
      λ i. record {
        grid = grid i;
        axes = axes i;
        block = (c.number.ensures.number ∙ ap size_in block) i;
        max_blocks = (c.number-2.ensures.number ∙ ap size_in max_blocks) i;
        rounds = (c.number-3.ensures.number ∙ ap size_in rounds) i;
        strict = (c.is_yes.ensures.yes ∙ ap (λ (o : Option _). same (word_in o) (codes "yes")) strict) i;
        fields = fields i;
        shapes = shapes i;
        criteria = criteria i;
        velocity = (c.three_numbers.ensures.numbers ∙ ap numbers_in velocity) i;
        den = (c.number-4.ensures.number ∙ ap size_in den) i;
        cycles = (c.number-5.ensures.number ∙ ap size_in cycles) i;
        mesh_every = (c.number-6.ensures.number ∙ ap size_in mesh_every) i;
        fields_every = (c.number-7.ensures.number ∙ ap size_in fields_every) i;
        checkpoint_every = (c.number-8.ensures.number ∙ ap size_in checkpoint_every) i;
        text = text i;
      };
}
