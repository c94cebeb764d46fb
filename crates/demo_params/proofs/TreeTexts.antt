-- Each text of the demonstration is that of a tree whose numbers are in their ranges.
use Rattle.std.proofs.Common.{◌≡◌, ℕ, ◌+◌, ◌*◌, ◌%◌, ◌≤◌, List, [], ◌∷◌, ◌++◌, ◌∙◌, arith, append_assoc, append-nil}
use Rattle.params_syntax.specs.declared.tree.Group.{Group}
use Rattle.params_syntax.specs.Canonical.{group_text, canonical_text}
use Rattle.demo_params.specs.DemoTexts.{draw, mesh_group, field_group, initial_group, adapt_group, method_group, demo_text}
use Rattle.demo_params.proofs.DemoTrees.{mesh_of, fields_group, ball_of, heavy_group, flow_of}
use Rattle.demo_params.proofs.GroupTexts.{mesh_of-text, fields_group-text, ball_of-text, heavy_group-text, flow_of-text}
use Rattle.demo_params.proofs.Accepted.{Drawn, AreInRange, tree_of}

-- the numbers of a seed and a size
abbrev pub drawn : ℕ → ℕ → Drawn
drawn seed size = record {
  size = size;
  x = draw seed 1 % (8 * size + 1);
  y = draw seed 2 % (8 * size + 1);
  z = draw seed 3 % (8 * size + 1);
  radius = 2 + draw seed 4 % 4;
  amount = 100 + draw seed 5 % 900;
  u = draw seed 6 % 9;
  v = draw seed 7 % 9;
  w = draw seed 8 % 9;
}

rest-most : (a n : ℕ) → a % (n + 1) ≤ n
rest-most a n = omega arith

pub drawn-in_range : (seed size : ℕ) → 1 ≤ size → size ≤ 4 → AreInRange (drawn seed size)
drawn-in_range seed size some few = record {
  some = some;
  few = few;
  near_x = omega (arith, rest-most (draw seed 1) (8 * size), few);
  near_y = omega (arith, rest-most (draw seed 2) (8 * size), few);
  near_z = omega (arith, rest-most (draw seed 3) (8 * size), few);
  near = omega (arith, rest-most (draw seed 4) 3);
  small = omega (arith, rest-most (draw seed 5) 899);
  slow_u = rest-most (draw seed 6) 8;
  slow_v = rest-most (draw seed 7) 8;
  slow_w = rest-most (draw seed 8) 8;
}

-- five texts, one after another
five-texts : (a b c d e : List ℕ) → a ++ (b ++ (c ++ (d ++ (e ++ [])))) ≡ a ++ b ++ c ++ d ++ e
five-texts a b c d e = simp (append_assoc, append-nil)

same-texts : (a b c d e f g h i j : List ℕ) → a ≡ f → b ≡ g → c ≡ h → d ≡ i → e ≡ j → a ++ b ++ c ++ d ++ e ≡ f ++ g ++ h ++ i ++ j
same-texts a b c d e f g h i j p q r s t = cc

five-groups : (a b c d e : Group) → canonical_text (a ∷ b ∷ c ∷ d ∷ e ∷ []) ≡ group_text a ++ group_text b ++ group_text c ++ group_text d ++ group_text e
five-groups a b c d e = five-texts (group_text a) (group_text b) (group_text c) (group_text d) (group_text e)

module _ (seed size : ℕ) where
  ball : Group
  ball = ball_of (drawn seed size).x (drawn seed size).y (drawn seed size).z (drawn seed size).radius (drawn seed size).amount

  ball-text : group_text ball ≡ initial_group seed size
  unfolding ball initial_group
  ball-text = ball_of-text (drawn seed size).x (drawn seed size).y (drawn seed size).z (drawn seed size).radius (drawn seed size).amount

  flow : Group
  flow = flow_of (drawn seed size).u (drawn seed size).v (drawn seed size).w (8 * size)

  flow-text : group_text flow ≡ method_group seed size
  unfolding flow method_group
  flow-text = flow_of-text (drawn seed size).u (drawn seed size).v (drawn seed size).w (8 * size)

  pub tree_of-text : canonical_text (tree_of (drawn seed size)) ≡ demo_text seed size
  unfolding ball flow demo_text
  tree_of-text =
      five-groups (mesh_of size) fields_group ball heavy_group flow
      ∙ same-texts (group_text (mesh_of size)) (group_text fields_group) (group_text ball) (group_text heavy_group) (group_text flow)
      (mesh_group size) field_group (initial_group seed size) adapt_group (method_group seed size)
      (mesh_of-text size) fields_group-text ball-text heavy_group-text flow-text
