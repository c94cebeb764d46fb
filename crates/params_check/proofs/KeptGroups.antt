-- The values of groups that two walks met no fault in keep their ranges.
use Rattle.std.proofs.Common.{◌≡◌, ◌≤◌, List, [], length, codes, map, arith, refl, All}
use Rattle.std.proofs.lemmas.List.{length-map}
use Rattle.std.proofs.lemmas.List.Elements.{All-map, All-weaker}
use Rattle.block_index.specs.Places.{IsDomain}
use Rattle.params_syntax.specs.declared.tree.Setting.{Setting}
use Rattle.params_syntax.specs.declared.tree.Group.{Group}
use Rattle.params_syntax.specs.Trees.{Each}
use Rattle.params_check.specs.Bounds.{most_subs}
use Rattle.params_check.specs.Keys.{mesh_array, mesh_keys, field_keys, method_keys, output_keys, shape_keys, criterion_keys}
use Rattle.params_check.specs.Limits.{IsCorner, KeepsShape, KeepsCriterion}
use Rattle.params_check.specs.TreeValues.{sizes_at, grid_of_mesh, shape_of, criterion_of, fields_of, subs_of}
use Rattle.params_check.specs.Values.{items_of}
use Rattle.params_check.specs.Walks.{items_faults, first_walk}
use Rattle.params_check.proofs.Fits.{KeyFits, keys-fit}
use Rattle.params_check.proofs.KeptSubs.{corner, shape-kept, criterion-kept}
use Rattle.params_check.proofs.WalkedKeys.{KeyKept}
use Rattle.params_check.proofs.WalkedGroups.{groups-once, items_of-none, items-few, subs_among-length, AllKept}

-- ---- groups of settings

module _ (sets : List Setting) where
  pub mesh-fits : All (KeyKept [] [] sets) mesh_keys → Each (KeyFits [] [] sets) mesh_keys
  unfolding mesh_keys
  mesh-fits kept = keys-fit [] [] sets mesh_keys refl kept

  pub field-fits : All (KeyKept [] [] sets) field_keys → Each (KeyFits [] [] sets) field_keys
  unfolding field_keys
  field-fits kept = keys-fit [] [] sets field_keys refl kept

  pub method-fits : All (KeyKept [] [] sets) method_keys → Each (KeyFits [] [] sets) method_keys
  unfolding method_keys
  method-fits kept = keys-fit [] [] sets method_keys refl kept

  pub output-fits : All (KeyKept [] [] sets) output_keys → Each (KeyFits [] [] sets) output_keys
  unfolding output_keys
  output-fits kept = keys-fit [] [] sets output_keys refl kept

  pub mesh-corner : Each (KeyFits [] [] sets) mesh_keys → IsCorner (sizes_at mesh_array sets)
  unfolding mesh_keys
  mesh-corner fits = corner 1 16 _ (omega arith) fits.0

  pub mesh-domain : Each (KeyFits [] [] sets) mesh_keys → IsDomain (grid_of_mesh sets)
  unfolding mesh_keys
  mesh-domain fits =
      let x = fits.0.limits 0 0 (omega (arith, fits.0.three)) in
      let y = fits.0.limits 1 0 (omega (arith, fits.0.three)) in
      let z = fits.0.limits 2 0 (omega (arith, fits.0.three)) in
      record { some_x = x.0; some_y = y.0; some_z = z.0; most_x = x.1; most_y = y.1; most_z = z.1; finest = fits.1.1.0.1 }

-- ---- groups of subs

module _ (groups : List Group) where
  pub shape_items-few : first_walk groups ≡ [] → length (items_of (codes "Initial") groups) ≤ most_subs
  unfolding items_faults
  shape_items-few first =
      items-few (codes "Initial") shape_keys (items_of (codes "Initial") groups) (items_of-none (codes "Initial") [] groups (groups-once groups first))

  pub criterion_items-few : first_walk groups ≡ [] → length (items_of (codes "Adapt") groups) ≤ most_subs
  unfolding items_faults
  criterion_items-few first =
      items-few (codes "Adapt") criterion_keys (items_of (codes "Adapt") groups) (items_of-none (codes "Adapt") [] groups (groups-once groups first))

  pub shapes-few : first_walk groups ≡ [] → length (map (shape_of (fields_of groups)) (subs_of (codes "Initial") groups)) ≤ most_subs
  shapes-few first =
      omega (arith, length-map (subs_of (codes "Initial") groups) (shape_of (fields_of groups)), subs_among-length (items_of (codes "Initial") groups), shape_items-few first)

  pub criteria-few : first_walk groups ≡ [] → length (map (criterion_of (fields_of groups)) (subs_of (codes "Adapt") groups)) ≤ most_subs
  criteria-few first =
      omega (arith, length-map (subs_of (codes "Adapt") groups) (criterion_of (fields_of groups)), subs_among-length (items_of (codes "Adapt") groups), criterion_items-few first)

  pub shapes-kept : AllKept groups → All (KeepsShape (length (fields_of groups))) (map (shape_of (fields_of groups)) (subs_of (codes "Initial") groups))
  shapes-kept kept =
      let names = fields_of groups in
      All-map (KeepsShape (length names)) (shape_of names) (subs_of (codes "Initial") groups)
      (All-weaker _ (λ sub. KeepsShape (length names) (shape_of names sub)) (λ sub one. shape-kept names sub.sets sub.name one) (subs_of (codes "Initial") groups) kept.shapes)

  pub criteria-kept : AllKept groups → All (KeepsCriterion (length (fields_of groups))) (map (criterion_of (fields_of groups)) (subs_of (codes "Adapt") groups))
  criteria-kept kept =
      let names = fields_of groups in
      All-map (KeepsCriterion (length names)) (criterion_of names) (subs_of (codes "Adapt") groups)
      (All-weaker _ (λ sub. KeepsCriterion (length names) (criterion_of names sub)) (λ sub one. criterion-kept names sub.sets sub.name one) (subs_of (codes "Adapt") groups) kept.criteria)
