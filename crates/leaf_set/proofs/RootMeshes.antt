-- The mesh of the roots is a mesh, and balanced.
use Rattle.std.proofs.Common.{◌≡◌, ℕ, ◌+◌, ◌*◌, ◌/◌, ◌%◌, ◌^◌, ◌<◌, ◌≤◌, Some, slice_get, refl, sym, ap, ◌∙◌, subst, arith, ◌⊎◌, inl, inr, mul-le-mul_right}
use Rattle.std.proofs.lemmas.Bool.{cases_order}
use Rattle.std.proofs.lemmas.Nat.{div_below, mod_below, mul-add-lt, div-mul-add, mod-mul-add, div-add-mod'}
use Rattle.std.proofs.lemmas.List.FromFn.{get_or-map-range_with_len, length-map-range_with_len}
use Rattle.std.proofs.lemmas.Option.{same_Some, slice_get_within, slice_get-get_or}
use Rattle.block_index.specs.Places.{Cube, Grid, IsInside, IsDomain}
use Rattle.leaf_set.specs.Meshes.{IsMesh, IsBalanced}
use Rattle.leaf_set.specs.RootMesh.{root_at, root_mesh, tree_count}
use Rattle.leaf_set.proofs.Containment.{Contains, Contains-above, IsInside-Contains, above, same_cube}
use Rattle.leaf_set.proofs.Spots.{start, stop, spot, spot-root, spot_before}
use Rattle.leaf_set.proofs.MeshFacts.{Spaced, ReachesAll, IsMesh-Spaced}

-- ---- rows and columns

-- a later place stands in a later row, or further on in one row
pub rows_rise : (i j t : ℕ) → 0 < t → i < j → (i / t < j / t) ⊎ ((i / t ≡ j / t) × (i % t < j % t))
rows_rise i j t h l =
    let a = div-add-mod' i t in
    let b = div-add-mod' j t in
    elim (cases_order (i / t) (j / t)) [
      | inl e ↦ inr (e, let f = ap (λ n. n * t) e in omega arith)
      | inr r ↦
          elim r [
            | inl less ↦ inl less
            | inr more ↦
                absurd
                (let w = mul-le-mul_right t (let e : j / t + 1 ≤ i / t = omega arith in e) in
                let u = mod_below j t h in
                omega arith)
          ]
    ]

-- ---- the roots by their numbers

pub slice_get-root_mesh : (grid : Grid) (i : ℕ) → i < tree_count grid → slice_get (root_mesh grid) i ≡ Some (root_at grid i)
slice_get-root_mesh grid i h =
    let n = length-map-range_with_len (root_at grid) 0 (tree_count grid) in
    slice_get-get_or (root_mesh grid) i (root_at grid i) (omega arith)
    ∙ ap Some (get_or-map-range_with_len (root_at grid) 0 (tree_count grid) i i (root_at grid i) h (omega arith))

pub root_mesh_at : (grid : Grid) (i : ℕ) (c : Cube) → slice_get (root_mesh grid) i ≡ Some c → (i < tree_count grid) × (c ≡ root_at grid i)
root_mesh_at grid i c e =
    let w = slice_get_within (root_mesh grid) i c e in
    let n = length-map-range_with_len (root_at grid) 0 (tree_count grid) in
    let h : i < tree_count grid = omega arith in
    (h, same_Some c (root_at grid i) (sym e ∙ slice_get-root_mesh grid i h))

root_inside : (grid : Grid) (i : ℕ) → IsDomain grid → i < tree_count grid → IsInside grid (root_at grid i)
root_inside grid i g h =
    let a = mod_below i grid.trees_x g.some_x in
    let b = mod_below (i / grid.trees_x) grid.trees_y g.some_y in
    let q : i / grid.trees_x < grid.trees_z * grid.trees_y = div_below i grid.trees_x (grid.trees_z * grid.trees_y) g.some_x (omega arith) in
    let c : i / grid.trees_x / grid.trees_y < grid.trees_z = div_below (i / grid.trees_x) grid.trees_y grid.trees_z g.some_y q in
    record { level = omega arith; x = omega arith; y = omega arith; z = omega arith }

root_rises : (grid : Grid) (i j : ℕ) → IsDomain grid → i < j → spot (root_at grid i) < spot (root_at grid j)
root_rises grid i j g h =
    let a = mod_below i grid.trees_x g.some_x in
    let b = mod_below (i / grid.trees_x) grid.trees_y g.some_y in
    let m = g.most_x in
    let n = g.most_y in
    let p = spot-root (root_at grid i) refl in
    let q = spot-root (root_at grid j) refl in
    elim (rows_rise i j grid.trees_x g.some_x h) [
      | inl row ↦
          elim (rows_rise (i / grid.trees_x) (j / grid.trees_x) grid.trees_y g.some_y row) [
            | inl plane ↦ omega arith
            | inr w ↦ omega (arith, w.0, w.1)
          ]
      | inr w ↦ omega (arith, ap (λ r. r / grid.trees_y) w.0, ap (λ r. r % grid.trees_y) w.0, w.1)
    ]

spaced_roots : (grid : Grid) → IsDomain grid → Spaced (root_mesh grid)
spaced_roots grid g i j a c h s t =
    let p = root_mesh_at grid i a s in
    let q = root_mesh_at grid j c t in
    let w : stop (root_at grid i) ≤ start (root_at grid j) = spot_before (root_at grid i) (root_at grid j) refl (root_rises grid i j g h) in
    subst (λ r. r ≤ start c) (ap stop (sym p.1)) (subst (λ r. stop (root_at grid i) ≤ r) (ap start (sym q.1)) w)

-- the number of the root with given coordinates
root_number : (grid : Grid) (x y z : ℕ) → IsDomain grid → x < grid.trees_x → y < grid.trees_y → z < grid.trees_z → (n : ℕ) × (n < tree_count grid) × (n % grid.trees_x ≡ x) × (n / grid.trees_x % grid.trees_y ≡ y) × (n / grid.trees_x / grid.trees_y ≡ z)
root_number grid x y z g hx hy hz =
    let row = z * grid.trees_y + y in
    let n = row * grid.trees_x + x in
    let r : row < grid.trees_y * grid.trees_z = mul-add-lt z grid.trees_y y grid.trees_z hz hy in
    let b : n < grid.trees_x * (grid.trees_y * grid.trees_z) = mul-add-lt row grid.trees_x x (grid.trees_y * grid.trees_z) r hx in
    let d : n / grid.trees_x ≡ row = div-mul-add row grid.trees_x x hx in
    (n, omega arith, mod-mul-add row grid.trees_x x hx, ap (λ k. k % grid.trees_y) d ∙ mod-mul-add z grid.trees_y y hy, ap (λ k. k / grid.trees_y) d ∙ div-mul-add z grid.trees_y y hy)

reaches_roots : (grid : Grid) → IsDomain grid → ReachesAll grid (root_mesh grid)
reaches_roots grid g q h l =
    let k : Contains q.level (above q.level q) q = Contains-above q.level q (omega arith) in
    let r = above q.level q in
    let e : r.level ≡ 0 = omega (arith, k.level) in
    let i = IsInside-Contains grid q.level r q k h in
    let ix : r.x < grid.trees_x = let w = subst (λ l. r.x < grid.trees_x * 2 ^ l) e i.x in omega arith in
    let iy : r.y < grid.trees_y = let w = subst (λ l. r.y < grid.trees_y * 2 ^ l) e i.y in omega arith in
    let iz : r.z < grid.trees_z = let w = subst (λ l. r.z < grid.trees_z * 2 ^ l) e i.z in omega arith in
    let n = root_number grid r.x r.y r.z g ix iy iz in
    let same : root_at grid n.0 ≡ r = same_cube (root_at grid n.0) r (sym e) n.2 n.3 n.4 in
    (n.0, root_at grid n.0, q.level, slice_get-root_mesh grid n.0 n.1, subst (λ c. Contains q.level c q) (sym same) k)

pub root_mesh-IsMesh : (grid : Grid) → IsDomain grid → IsMesh grid (root_mesh grid)
root_mesh-IsMesh grid g =
    IsMesh-Spaced grid (root_mesh grid) g
    (λ i c s. let p = root_mesh_at grid i c s in subst (IsInside grid) (sym p.1) (root_inside grid i g p.0))
    (spaced_roots grid g)
    (reaches_roots grid g)

pub root_mesh-level : (grid : Grid) (i : ℕ) (c : Cube) → slice_get (root_mesh grid) i ≡ Some c → c.level ≡ 0
root_mesh-level grid i c s = ap (λ (q : Cube). q.level) (root_mesh_at grid i c s).1

pub root_mesh-IsBalanced : (grid : Grid) → IsBalanced grid (root_mesh grid)
root_mesh-IsBalanced grid i j a c s t h = omega (arith, root_mesh-level grid i a s)
