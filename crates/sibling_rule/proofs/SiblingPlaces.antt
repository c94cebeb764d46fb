-- Siblings: the test for them, and that two of them touch.
use Rattle.std.proofs.Common.{◌≡◌, ℕ, ◌+◌, ◌-◌, ◌*◌, ◌/◌, ◌≤◌, Bool, ap, ◌∙◌, arith, inl, mul-le-mul_right}
use Rattle.block_index.specs.Places.{Cube, Grid, parent_of}
use Rattle.block_index.specs.Touching.{width, MeetsOnAxis, Touches}
use Rattle.leaf_set.specs.LevelRules.{AreSiblings}

pub same_parent : (a c : Cube) → c.level ≡ a.level → c.x / 2 ≡ a.x / 2 → c.y / 2 ≡ a.y / 2 → c.z / 2 ≡ a.z / 2 → parent_of c ≡ parent_of a
same_parent a c l x y z =
    ap (λ n. record { level = n - 1; x = c.x / 2; y = c.y / 2; z = c.z / 2 }) l
    ∙ ap (λ n. record { level = a.level - 1; x = n; y = c.y / 2; z = c.z / 2 }) x
    ∙ ap (λ n. record { level = a.level - 1; x = a.x / 2; y = n; z = c.z / 2 }) y
    ∙ ap (λ n. record { level = a.level - 1; x = a.x / 2; y = a.y / 2; z = n }) z

-- coordinates with one half are next to each other, or one
halves_meet : (trees : ℕ) (wraps : Bool) (x y l m : ℕ) → m ≡ l → y / 2 ≡ x / 2 → MeetsOnAxis trees wraps (x * width l) (width l) (y * width m) (width m)
halves_meet trees wraps x y l m e h =
    let w : ℕ = width l in
    let same : width m ≡ w = ap width e in
    let there : y * width m ≡ y * w = ap (λ n. y * n) same in
    let up : x * w ≤ (y + 1) * w = mul-le-mul_right w (let near : x ≤ y + 1 = omega arith in near) in
    let down : y * w ≤ (x + 1) * w = mul-le-mul_right w (let near : y ≤ x + 1 = omega arith in near) in
    inl (record { left = omega arith; right = omega arith })

-- siblings share their parent's centre
pub AreSiblings-Touches : (grid : Grid) (a c : Cube) → AreSiblings a c → (a ≡ c → ⊥) → Touches grid a c
AreSiblings-Touches grid a c h n =
    let up = h.same_parent in
    record {
      apart = n;
      on_x = halves_meet grid.trees_x grid.wraps_x a.x c.x a.level c.level h.same_level (ap (λ (q : Cube). q.x) up);
      on_y = halves_meet grid.trees_y grid.wraps_y a.y c.y a.level c.level h.same_level (ap (λ (q : Cube). q.y) up);
      on_z = halves_meet grid.trees_z grid.wraps_z a.z c.z a.level c.level h.same_level (ap (λ (q : Cube). q.z) up);
    }
