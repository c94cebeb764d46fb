-- The values of a tree without faults keep all limits.
use Rattle.std.proofs.Common.{◌≡◌, ℕ, ◌*◌, ◌^◌, ◌<◌, ◌≤◌, ◌||◌, nat_lt, List, [], ◌∷◌, ◌++◌, length, flat_map, codes, slice_index_or, arith, refl, sym, ap, ◌∙◌, subst, Ok}
use Rattle.std.specs.List.{range_with_len}
use Rattle.std.proofs.lemmas.Bool.{or_parts, ltb-false}
use Rattle.std.proofs.lemmas.List.{length-map}
use Rattle.std.proofs.lemmas.List.FromFn.{length-range_with_len, get_or-range_with_len}
use Rattle.params_syntax.specs.declared.tree.Group.{Group}
use Rattle.params_syntax.specs.Trees.{IsTree}
use Rattle.params_syntax.specs.Canonical.{canonical_text}
use Rattle.params_syntax.specs.Reading.{Spells, longest}
use Rattle.params_check.specs.declared.fault.ParamFault.{ParamFault}
use Rattle.params_check.specs.declared.fault.ParamKind.TheVariants.{Size, Courant, TotalTooLarge}
use Rattle.params_check.specs.Bounds.{greatest_edge, most_blocks, most_cells, greatest_amount}
use Rattle.params_check.specs.Keys.{mesh_boundary, mesh_keys, field_keys, method_keys, output_keys}
use Rattle.params_check.specs.Parameters.{Parameters, IsParameters, values_of, trees, most_amounts, speed, total_of}
use Rattle.params_check.specs.TreeValues.{settings_of, words_at, axis_kind}
use Rattle.params_check.specs.Walks.{fault, fault_if, first_walk, second_walk, third_walk, total_faults, all_faults, unless_fault, parameters_of}
use Rattle.params_check.proofs.Turns.{none-first, none-second, fault_if-none, flat_map-none}
use Rattle.params_check.proofs.KeptGroups.{mesh-fits, field-fits, method-fits, output-fits, mesh-domain, shapes-few, criteria-few, shapes-kept, criteria-kept}
use Rattle.params_check.proofs.WalkedGroups.{AllKept, all-kept}
use Rattle.params_check.proofs.ShortTexts.{canonical_text-short}

-- What values meet together.
pub record MeetTogether (p : Parameters) : Type 0 where
  pub trees : trees p ≤ p.max_blocks
  pub amounts : most_amounts p ≤ most_cells
  pub courant : speed p * 2 ^ p.grid.finest ≤ p.den
  pub totals : (field : ℕ) → field < length p.fields → total_of p field ≤ greatest_amount

totals-kept : (p : Parameters) → flat_map (total_faults p) (range_with_len 0 (length p.fields)) ≡ [] → (field : ℕ) → field < length p.fields → total_of p field ≤ greatest_amount
totals-kept p e field h =
    let none = flat_map-none (total_faults p) (range_with_len 0 (length p.fields)) e field 0 (omega (arith, length-range_with_len 0 (length p.fields))) in
    let is : slice_index_or (range_with_len 0 (length p.fields)) field 0 ≡ field = omega (arith, get_or-range_with_len 0 (length p.fields) field 0 h) in
    let here : total_faults p field ≡ [] = ap (total_faults p) (sym is) ∙ none in
    ltb-false greatest_amount (total_of p field) (fault_if-none _ (fault (codes "Initial") [] (slice_index_or p.fields field []) TotalTooLarge) here)

pub meet_together : (p : Parameters) → third_walk p ≡ [] → MeetTogether p
unfolding third_walk
meet_together p e =
    let many = nat_lt p.max_blocks (trees p) || nat_lt most_cells (most_amounts p) in
    let fast = nat_lt p.den (speed p * 2 ^ p.grid.finest) in
    let size = fault_if many (fault (codes "Mesh") [] (codes "max_blocks") Size) in
    let courant = fault_if fast (fault (codes "Method") [] (codes "velocity") Courant) in
    let totals = flat_map (total_faults p) (range_with_len 0 (length p.fields)) in
    let front = none-first (size ++ courant) totals e in
    let few = or_parts (nat_lt p.max_blocks (trees p)) (nat_lt most_cells (most_amounts p))
    (fault_if-none many (fault (codes "Mesh") [] (codes "max_blocks") Size) (none-first size courant front)) in
    record {
      trees = ltb-false p.max_blocks (trees p) few.0;
      amounts = ltb-false most_cells (most_amounts p) few.1;
      courant = ltb-false p.den (speed p * 2 ^ p.grid.finest)
          (fault_if-none fast (fault (codes "Method") [] (codes "velocity") Courant) (none-second size courant front));
      totals = totals-kept p (none-second (size ++ courant) totals e);
    }

-- all limits at once
limits-kept : (groups : List Group) → first_walk groups ≡ [] → AllKept groups → MeetTogether (values_of groups) → length (values_of groups).text ≤ longest
    → IsParameters (values_of groups)
unfolding values_of mesh_keys field_keys method_keys output_keys
limits-kept groups first kept t short =
    let sets = settings_of (codes "Mesh") groups in
    let mesh = mesh-fits sets kept.mesh in
    let field = field-fits (settings_of (codes "Field") groups) kept.field in
    let method = method-fits (settings_of (codes "Method") groups) kept.method in
    let output = output-fits (settings_of (codes "Output") groups) kept.output in
    record {
      domain = mesh-domain sets mesh;
      axes = record { three = length-map (words_at mesh_boundary sets) axis_kind ∙ mesh.1.1.1.1.1.1.0; x = refl; y = refl; z = refl };
      block = record { low = mesh.1.0.0; high = mesh.1.0.1; even = mesh.1.0.2 };
      some_blocks = mesh.1.1.1.0.0;
      most_blocks = mesh.1.1.1.0.1;
      trees = t.trees;
      amounts = t.amounts;
      rounds = mesh.1.1.1.1.0.1;
      few_fields = field.0.few;
      names = field.0.forms;
      different_names = field.0.different;
      few_shapes = shapes-few groups first;
      shapes = shapes-kept groups kept;
      few_criteria = criteria-few groups first;
      criteria = criteria-kept groups kept;
      three_speeds = method.0.three;
      speeds = method.0.limits;
      some_den = method.1.0.0;
      most_den = method.1.0.1;
      cycles = method.1.1.0.1;
      mesh_every = output.0.1;
      fields_every = output.1.0.1;
      checkpoint_every = output.1.1.0.1;
      courant = t.courant;
      totals = t.totals;
      short_text = short;
    }

-- what the third walk asks of the blocks
pub blocks-kept : (groups : List Group) → second_walk groups ≡ [] → ((values_of groups).block ≤ greatest_edge) × ((values_of groups).max_blocks ≤ most_blocks)
unfolding values_of mesh_keys
blocks-kept groups second =
    let mesh = mesh-fits (settings_of (codes "Mesh") groups) (all-kept groups second).mesh in
    (mesh.1.0.1, mesh.1.1.1.0.1)

-- the text of a tree's values is the tree's canonical text
values-text : (groups : List Group) → (values_of groups).text ≡ canonical_text groups
unfolding values_of
values-text groups = refl

-- The values of a tree without faults keep all limits.
pub parameters_keep_limits : (groups : List Group) → IsTree groups → all_faults groups ≡ [] → IsParameters (values_of groups)
parameters_keep_limits groups h e =
    let third = third_walk (values_of groups) in
    let front = none-first (first_walk groups ++ second_walk groups) third e in
    let first = none-first (first_walk groups) (second_walk groups) front in
    let second = none-second (first_walk groups) (second_walk groups) front in
    let short : length (values_of groups).text ≤ longest = rw (values-text groups) (canonical_text-short groups h first second) in
    limits-kept groups first (all-kept groups second) (meet_together (values_of groups) (none-second (first_walk groups ++ second_walk groups) third e)) short

-- ---- accepted parameters

-- a tree that is accepted has no fault, and its values are the parameters
pub unless_fault-Ok : {A : Type 0} (fs : List ParamFault) (x p : A) → unless_fault fs x ≡ Ok p → (fs ≡ []) × (x ≡ p)
unless_fault-Ok [] x p e = (refl, cc)
unless_fault-Ok (f ∷ fs) x p e = absurd cc

pub accepted-limits : (groups : List Group) (p : Parameters) → IsTree groups → parameters_of groups ≡ Ok p → IsParameters p
accepted-limits groups p h e =
    let ok = unless_fault-Ok (all_faults groups) (values_of groups) p e in
    subst IsParameters ok.1 (parameters_keep_limits groups h ok.0)

pub accepted-text : (groups : List Group) (p : Parameters) → IsTree groups → parameters_of groups ≡ Ok p → p.text ≡ canonical_text groups
accepted-text groups p h e =
    let ok = unless_fault-Ok (all_faults groups) (values_of groups) p e in
    subst (λ (q : Parameters). q.text ≡ canonical_text groups) ok.1 (values-text groups)

-- where each short canonical text spells its tree, the text of accepted parameters spells theirs
pub accepted-again : ((tree : List Group) → IsTree tree → length (canonical_text tree) ≤ longest → Spells (canonical_text tree) tree)
    → (groups : List Group) (p : Parameters) → IsTree groups → parameters_of groups ≡ Ok p → Spells p.text groups
accepted-again spells groups p h e =
    let text = accepted-text groups p h e in
    let short : length (canonical_text groups) ≤ longest = subst (λ (t : List ℕ). length t ≤ longest) text (accepted-limits groups p h e).short_text in
    subst (λ (t : List ℕ). Spells t groups) (sym text) (spells groups h short)
