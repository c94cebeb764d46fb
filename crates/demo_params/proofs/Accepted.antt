-- The tree of the demonstration has no fault, where its numbers are in their ranges.
use Rattle.std.proofs.Common.{◌≡◌, ℕ, ◌+◌, ◌*◌, ◌^◌, ◌≤◌, pos, true, false, List, [], ◌∷◌, refl, ap, arith, rules, Ok}
use Rattle.std.proofs.lemmas.Bool.{le-leb, le-ltb}
use Rattle.params_syntax.specs.declared.tree.Atom.TheVariants.{Number}
use Rattle.params_syntax.specs.declared.tree.Group.{Group}
use Rattle.params_syntax.specs.Trees.{IsTree}
use Rattle.params_check.specs.declared.shape.Form.TheVariants.{Ball}
use Rattle.params_check.specs.declared.shape.Shape.{Shape}
use Rattle.params_check.specs.Forms.{is_between}
use Rattle.params_check.specs.Keys.{mesh_keys, field_keys, method_keys, output_keys, shape_keys, criterion_keys}
use Rattle.params_check.specs.Parameters.{Parameters, trees, total_of, values_of}
use Rattle.params_check.specs.Walks.{items_faults, group_names, first_walk, second_walk, third_walk, all_faults, unless_fault, parameters_of}
use Rattle.demo_params.proofs.DemoTrees.{mesh_of, fields_group, ball_of, heavy_group, flow_of}
use Rattle.demo_params.proofs.Totals.{total-most, product-most, cube-most}

-- the numbers that differ from text to text: the size, the ball, and the velocity of the flow
pub record Drawn : Type 0 where
  pub size : ℕ
  pub x : ℕ
  pub y : ℕ
  pub z : ℕ
  pub radius : ℕ
  pub amount : ℕ
  pub u : ℕ
  pub v : ℕ
  pub w : ℕ

-- they are in their ranges
pub record AreInRange (d : Drawn) : Type 0 where
  pub some : 1 ≤ d.size
  pub few : d.size ≤ 4
  pub near_x : d.x ≤ 32
  pub near_y : d.y ≤ 32
  pub near_z : d.z ≤ 32
  pub near : d.radius ≤ 5
  pub small : d.amount ≤ 999
  pub slow_u : d.u ≤ 8
  pub slow_v : d.v ≤ 8
  pub slow_w : d.w ≤ 8

abbrev pub tree_of : Drawn → List Group
tree_of d =
    mesh_of d.size ∷ fields_group ∷ ball_of d.x d.y d.z d.radius d.amount ∷ heavy_group ∷ flow_of d.u d.v d.w (8 * d.size) ∷ []

-- a number in its range
between : (low high n : ℕ) → low ≤ n → n ≤ high → is_between low high (Number (pos n)) ≡ true
between low high n from to = rw (le-leb low n from, le-leb n high to) refl

module _ (d : Drawn) where
  first_walk-none : first_walk (tree_of d) ≡ []
  unfolding first_walk items_faults group_names mesh_keys field_keys method_keys output_keys shape_keys criterion_keys
  first_walk-none = refl

  second_walk-none : AreInRange d → second_walk (tree_of d) ≡ []
  unfolding second_walk mesh_keys field_keys method_keys output_keys shape_keys criterion_keys
  second_walk-none ranges =
      rw (
        between 1 16 d.size ranges.some (omega arith),
        between 0 256 d.x (omega arith) (omega arith),
        between 0 256 d.y (omega arith) (omega arith),
        between 0 256 d.z (omega arith) (omega arith),
        between 0 256 d.radius (omega arith) (omega arith),
        between 0 (2 ^ 40) d.amount (omega arith) (omega arith),
        le-leb d.u (2 ^ 20) (omega arith),
        le-leb d.v (2 ^ 20) (omega arith),
        le-leb d.w (2 ^ 20) (omega arith),
        between 0 4096 (8 * d.size) (omega arith) (omega arith),
      ) refl

  third_walk-none : AreInRange d → third_walk (values_of (tree_of d)) ≡ []
  unfolding third_walk values_of
  third_walk-none ranges =
      let p : Parameters = values_of (tree_of d) in
      let ball : Shape = record { field = 0; amount = d.amount; form = Ball (d.x ∷ d.y ∷ d.z ∷ []) d.radius } in
      let total : total_of p 0 ≤ 2 ^ 40 = omega (arith, total-most p.grid 8 ball 0, product-most (d.size * 8) d.amount (omega arith) ranges.small) in
      rw (
        le-ltb 8192 (d.size * d.size * d.size) (omega (arith, cube-most d.size ranges.few)),
        le-ltb 128 ((d.u + d.v + d.w) * 2 ^ 2) (omega arith),
        le-ltb (2 ^ 40) (total_of p 0) total,
      ) refl

  pub tree_of-accepted : AreInRange d → parameters_of (tree_of d) ≡ Ok (values_of (tree_of d))
  tree_of-accepted ranges =
      let none : all_faults (tree_of d) ≡ [] = rw (first_walk-none, second_walk-none ranges, third_walk-none ranges) refl in
      ap (λ fs. unless_fault fs (values_of (tree_of d))) none

  pub tree_of-limits : AreInRange d → IsTree (tree_of d)
  tree_of-limits ranges = search rules

  pub tree_of-strict : (values_of (tree_of d)).strict ≡ false
  unfolding values_of
  tree_of-strict = refl

  pub tree_of-few : AreInRange d → trees (values_of (tree_of d)) * 8 ^ (values_of (tree_of d)).grid.finest ≤ (values_of (tree_of d)).max_blocks
  unfolding values_of
  tree_of-few ranges = omega (arith, cube-most d.size ranges.few)
