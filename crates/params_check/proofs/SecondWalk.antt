-- The second walk, group by group: where it found nothing so far, the next group's first fault is the first of all.
use Rattle.std.proofs.Common.{◌≡◌, ℕ, List, [], ◌++◌, None, codes, refl, sym, ap, ◌∙◌, subst}
use Rattle.params_syntax.specs.declared.tree.Item.{Item}
use Rattle.params_syntax.specs.declared.tree.Group.{Group}
use Rattle.params_check.specs.declared.fault.ParamFault.{ParamFault}
use Rattle.params_check.specs.declared.fault.CheckError.{CheckError}
use Rattle.params_check.specs.Keys.{mesh_keys, field_keys, method_keys, output_keys, shape_kind, shape_keys, criterion_kind, criterion_keys}
use Rattle.params_check.specs.Lemmas.Firsts.{first_fault}
use Rattle.params_check.specs.TreeValues.{settings_of, fields_of}
use Rattle.params_check.specs.Values.{items_of, subs_among}
use Rattle.params_check.specs.Walks.{keys_faults, subs_faults, second_walk}
use Rattle.params_check.proofs.FirstFaults.{IsFirst, first-left, first-right, none-both}

-- the faults of shapes and criteria, where these are the names of the fields
abbrev pub shape_faults : List (List ℕ) → List Item → List ParamFault
shape_faults names items = subs_faults (codes "Initial") names shape_kind shape_keys (subs_among items)

abbrev pub criterion_faults : List (List ℕ) → List Item → List ParamFault
criterion_faults names items = subs_faults (codes "Adapt") names criterion_kind criterion_keys (subs_among items)

-- ---- the parts of the second walk

module _ (groups : List Group) where
  abbrev pub mesh_part : List ParamFault
  mesh_part = keys_faults (codes "Mesh") [] [] [] (settings_of (codes "Mesh") groups) mesh_keys

  abbrev pub field_part : List ParamFault
  field_part = keys_faults (codes "Field") [] [] [] (settings_of (codes "Field") groups) field_keys

  abbrev pub shape_part : List ParamFault
  shape_part = shape_faults (fields_of groups) (items_of (codes "Initial") groups)

  abbrev pub criterion_part : List ParamFault
  criterion_part = criterion_faults (fields_of groups) (items_of (codes "Adapt") groups)

  abbrev pub method_part : List ParamFault
  method_part = keys_faults (codes "Method") [] [] [] (settings_of (codes "Method") groups) method_keys

  abbrev pub output_part : List ParamFault
  output_part = keys_faults (codes "Output") [] [] [] (settings_of (codes "Output") groups) output_keys

  abbrev to_fields : List ParamFault
  to_fields = mesh_part ++ field_part

  abbrev to_criteria : List ParamFault
  to_criteria = to_fields ++ shape_part ++ criterion_part

  all-parts : to_criteria ++ method_part ++ output_part ≡ second_walk groups
  unfolding second_walk
  all-parts = refl

  module _ (e : CheckError) where
    in_walk : IsFirst (to_criteria ++ method_part ++ output_part) e → IsFirst (second_walk groups) e
    in_walk found = let P : List ParamFault → Type 0 = λ faults. IsFirst faults e in subst P all-parts found

    in_criteria : IsFirst to_criteria e → IsFirst (second_walk groups) e
    in_criteria found = in_walk (first-left (to_criteria ++ method_part) output_part e (first-left to_criteria method_part e found))

    in_fields : IsFirst to_fields e → IsFirst (second_walk groups) e
    in_fields found = in_criteria (first-left (to_fields ++ shape_part) criterion_part e (first-left to_fields shape_part e found))

    pub mesh-found : IsFirst mesh_part e → IsFirst (second_walk groups) e
    mesh-found found = in_fields (first-left mesh_part field_part e found)

    pub field-found : first_fault mesh_part ≡ None → IsFirst field_part e → IsFirst (second_walk groups) e
    field-found mesh found = in_fields (first-right mesh_part field_part e mesh found)

    pub shapes-found : first_fault mesh_part ≡ None → first_fault field_part ≡ None → IsFirst shape_part e → IsFirst (second_walk groups) e
    shapes-found mesh field found =
        in_criteria (first-left (to_fields ++ shape_part) criterion_part e (first-right to_fields shape_part e (none-both mesh_part field_part mesh field) found))

    pub criteria-found : first_fault mesh_part ≡ None → first_fault field_part ≡ None → first_fault shape_part ≡ None
        → IsFirst criterion_part e → IsFirst (second_walk groups) e
    criteria-found mesh field shapes found =
        in_criteria (first-right (to_fields ++ shape_part) criterion_part e
        (none-both to_fields shape_part (none-both mesh_part field_part mesh field) shapes) found)

  to_criteria-none : first_fault mesh_part ≡ None → first_fault field_part ≡ None → first_fault shape_part ≡ None → first_fault criterion_part ≡ None
      → first_fault to_criteria ≡ None
  to_criteria-none mesh field shapes criteria =
      none-both (to_fields ++ shape_part) criterion_part (none-both to_fields shape_part (none-both mesh_part field_part mesh field) shapes) criteria

  module _ (mesh : first_fault mesh_part ≡ None) (field : first_fault field_part ≡ None) (shapes : first_fault shape_part ≡ None)
      (criteria : first_fault criterion_part ≡ None) where
    pub method-found : (e : CheckError) → IsFirst method_part e → IsFirst (second_walk groups) e
    method-found e found =
        in_walk e (first-left (to_criteria ++ method_part) output_part e
        (first-right to_criteria method_part e (to_criteria-none mesh field shapes criteria) found))

    module _ (method : first_fault method_part ≡ None) where
      pub output-found : (e : CheckError) → IsFirst output_part e → IsFirst (second_walk groups) e
      output-found e found =
          in_walk e (first-right (to_criteria ++ method_part) output_part e
          (none-both to_criteria method_part (to_criteria-none mesh field shapes criteria) method) found)

      -- no part has a fault
      pub no-part : first_fault output_part ≡ None → first_fault (second_walk groups) ≡ None
      no-part output =
          ap first_fault (sym all-parts)
          ∙ none-both (to_criteria ++ method_part) output_part
          (none-both to_criteria method_part (to_criteria-none mesh field shapes criteria) method) output
