-- A mesh has no more leaves than the domain has finest places.
use Rattle.std.proofs.Common.{◌≡◌, ℕ, zero, suc, ◌+◌, ◌-◌, ◌*◌, ◌/◌, ◌^◌, ◌<◌, ◌≤◌, List, Some, length, slice_get, get_or, sym, ap, ◌∙◌, subst, arith, ◌⊎◌, inl, inr, mul-le-mul_right, pow-suc, zero-le}
use Rattle.std.proofs.Math.Nat.{pow-le-pow_right}
use Rattle.std.proofs.lemmas.Bool.{cases_lt, cases_order}
use Rattle.std.proofs.lemmas.Nat.{mul-le, mul-add-lt, div_below, pow_pos}
use Rattle.std.proofs.lemmas.Option.{slice_get_within, slice_get-get_or}
use Rattle.block_index.specs.Places.{Cube, Grid, IsInside, IsDomain}
use Rattle.block_index.specs.Order.{path_digits}
use Rattle.leaf_set.specs.Meshes.{IsMesh}
use Rattle.leaf_set.specs.RootMesh.{tree_count}
use Rattle.leaf_set.proofs.Containment.{Contains, finest_within}
use Rattle.leaf_set.proofs.Spots.{start, stop, spot, spot-path_digits, spot_from_start, start-stop, finest_limit, Contains-stretch}
use Rattle.leaf_set.proofs.MeshFacts.{leaves_spaced}

-- the number of a place of level l among those of its level that lie in the domain
numbered : Grid → ℕ → ℕ → ℕ → ℕ → ℕ
numbered grid l x y z = ((z / 2 ^ l * grid.trees_y + y / 2 ^ l) * grid.trees_x + x / 2 ^ l) * 8 ^ l + path_digits l x y z

path_digits-below : (l x y z : ℕ) → path_digits l x y z < 8 ^ l
path_digits-below zero x y z = omega arith
path_digits-below (suc l) x y z = omega (arith, path_digits-below l (x / 2) (y / 2) (z / 2), pow-suc 8 l)

-- of two numbers of a row and a column the one in the later row is larger
row_before : (r s t x u : ℕ) → r < s → x < t → r * t + x < s * t + u
row_before r s t x u h k = let w = mul-le-mul_right t (let e : r + 1 ≤ s = omega arith in e) in omega arith

-- the order by rows of 16 is the order by rows of any length
tree_rises : (a b x y z u v w : ℕ) → a ≤ 16 → b ≤ 16 → x < a → u < a → y < b → v < b → (z * 16 + y) * 16 + x < (w * 16 + v) * 16 + u → (z * b + y) * a + x < (w * b + v) * a + u
tree_rises a b x y z u v w ha hb hx hu hy hv h =
    elim (cases_order z w) [
      | inl e ↦
          elim (cases_order y v) [
            | inl f ↦ let p : (z * b + y) * a ≡ (w * b + v) * a = ap (λ n. n * a) (ap (λ n. n * b + y) e ∙ ap (λ n. w * b + n) f) in omega arith
            | inr r ↦
                elim r [
                  | inl less ↦ row_before (z * b + y) (w * b + v) a x u (let p = ap (λ n. n * b) e in omega arith) hx
                  | inr more ↦ absurd (omega arith)
                ]
          ]
      | inr r ↦
          elim r [
            | inl less ↦ row_before (z * b + y) (w * b + v) a x u (row_before z w b y v less hy) hx
            | inr more ↦ absurd (omega arith)
          ]
    ]

digit_cases : (t s w p q : ℕ) → p < w → q < w → t * w + p < s * w + q → (t < s) ⊎ ((t ≡ s) × (p < q))
digit_cases t s w p q hp hq h =
    elim (cases_order t s) [
      | inl e ↦ inr (e, let f = ap (λ n. n * w) e in omega arith)
      | inr r ↦
          elim r [
            | inl less ↦ inl less
            | inr more ↦ absurd (let k = row_before s t w q p more hq in omega arith)
          ]
    ]

number_of : Grid → Cube → ℕ
number_of grid c = numbered grid c.level c.x c.y c.z

tree_inside : (t l n : ℕ) → n < t * 2 ^ l → n / 2 ^ l < t
tree_inside t l n h = div_below n (2 ^ l) t (pow_pos l) h

number_of-below : (grid : Grid) (c : Cube) → IsInside grid c → number_of grid c < tree_count grid * 8 ^ c.level
unfolding number_of numbered
number_of-below grid c i =
    let x = c.x / 2 ^ c.level in
    let y = c.y / 2 ^ c.level in
    let z = c.z / 2 ^ c.level in
    let row : z * grid.trees_y + y < grid.trees_y * grid.trees_z = mul-add-lt z grid.trees_y y grid.trees_z (tree_inside grid.trees_z c.level c.z i.z) (tree_inside grid.trees_y c.level c.y i.y) in
    let tree : (z * grid.trees_y + y) * grid.trees_x + x < grid.trees_x * (grid.trees_y * grid.trees_z) = mul-add-lt (z * grid.trees_y + y) grid.trees_x x (grid.trees_y * grid.trees_z) row (tree_inside grid.trees_x c.level c.x i.x) in
    let t : (z * grid.trees_y + y) * grid.trees_x + x < tree_count grid = omega arith in
    let all : ((z * grid.trees_y + y) * grid.trees_x + x) * 8 ^ c.level + path_digits c.level c.x c.y c.z < 8 ^ c.level * tree_count grid = mul-add-lt ((z * grid.trees_y + y) * grid.trees_x + x) (8 ^ c.level) (path_digits c.level c.x c.y c.z) (tree_count grid) t (path_digits-below c.level c.x c.y c.z) in
    omega arith

number_of-rises : (grid : Grid) (a c : Cube) → IsDomain grid → IsInside grid a → IsInside grid c → a.level ≡ c.level → spot a < spot c → number_of grid a < number_of grid c
unfolding number_of numbered
number_of-rises grid a c g i j l h =
    rises (a.x / 2 ^ a.level) (a.y / 2 ^ a.level) (a.z / 2 ^ a.level) (c.x / 2 ^ c.level) (c.y / 2 ^ c.level) (c.z / 2 ^ c.level) (8 ^ a.level) (8 ^ c.level)
    (path_digits a.level a.x a.y a.z)
    (path_digits c.level c.x c.y c.z)
    (ap (λ n. 8 ^ n) l)
    (path_digits-below a.level a.x a.y a.z)
    (path_digits-below c.level c.x c.y c.z)
    (tree_inside grid.trees_x a.level a.x i.x)
    (tree_inside grid.trees_x c.level c.x j.x)
    (tree_inside grid.trees_y a.level a.y i.y)
    (tree_inside grid.trees_y c.level c.y j.y)
    (subst (λ n. n < ((c.z / 2 ^ c.level * 16 + c.y / 2 ^ c.level) * 16 + c.x / 2 ^ c.level) * 8 ^ c.level + path_digits c.level c.x c.y c.z) (spot-path_digits a) (subst (λ n. spot a < n) (spot-path_digits c) h))
  where
    rises : (x y z u v w s t p q : ℕ) → s ≡ t → p < s → q < t → x < grid.trees_x → u < grid.trees_x → y < grid.trees_y → v < grid.trees_y → ((z * 16 + y) * 16 + x) * s + p < ((w * 16 + v) * 16 + u) * t + q → ((z * grid.trees_y + y) * grid.trees_x + x) * s + p < ((w * grid.trees_y + v) * grid.trees_x + u) * t + q
    rises x y z u v w s t p q e hp hq hx hu hy hv less =
        let m = g.most_x in
        let n = g.most_y in
        let e_u : ((w * 16 + v) * 16 + u) * t ≡ ((w * 16 + v) * 16 + u) * s = ap (λ n. ((w * 16 + v) * 16 + u) * n) (sym e) in
        let e_v : ((w * grid.trees_y + v) * grid.trees_x + u) * t ≡ ((w * grid.trees_y + v) * grid.trees_x + u) * s = ap (λ n. ((w * grid.trees_y + v) * grid.trees_x + u) * n) (sym e) in
        let q_s : q < s = omega arith in
        elim (digit_cases ((z * 16 + y) * 16 + x) ((w * 16 + v) * 16 + u) s p q hp q_s (omega arith)) [
          | inl tree ↦
              let k = row_before ((z * grid.trees_y + y) * grid.trees_x + x) ((w * grid.trees_y + v) * grid.trees_x + u) s p q (tree_rises grid.trees_x grid.trees_y x y z u v w m n hx hu hy hv tree) hp in
              omega arith
          | inr path ↦
              let f = path.0 in
              let fx : x ≡ u = omega arith in
              let fy : y ≡ v = omega arith in
              let fz : z ≡ w = omega arith in
              let same : ((z * grid.trees_y + y) * grid.trees_x + x) * s ≡ ((w * grid.trees_y + v) * grid.trees_x + u) * s = ap (λ n. n * s) (ap (λ n. (n * grid.trees_y + y) * grid.trees_x + x) fz ∙ ap (λ n. (w * grid.trees_y + n) * grid.trees_x + x) fy ∙ ap (λ n. (w * grid.trees_y + v) * grid.trees_x + n) fx) in
              let r = path.1 in
              omega arith
        ]

module _ (grid : Grid) (mesh : List Cube) (g : IsDomain grid) (m : IsMesh grid mesh) where
  -- the i-th leaf has at least i finest places before it
  index_below : (i d : ℕ) (a q : Cube) → slice_get mesh i ≡ Some a → Contains d a q → IsInside grid q → q.level ≡ grid.finest → i ≤ number_of grid q
  index_below zero d a q s k h l = zero-le
  index_below (suc i) d a q s k h l =
      let b = get_or mesh i a in
      let w = slice_get_within mesh (suc i) a s in
      let at : slice_get mesh i ≡ Some b = slice_get-get_or mesh i a (omega arith) in
      let f = finest_within grid b (m.inside i b at) in
      let apart : stop b ≤ start a = leaves_spaced grid mesh g m i (suc i) b a (omega arith) at s in
      let x = Contains-stretch (grid.finest - b.level) b f.0 f.3 (finest_limit grid f.0 g f.1) in
      let y = Contains-stretch d a q k (finest_limit grid q g h) in
      let e : f.0.level ≡ q.level = f.2 ∙ sym l in
      let less : start f.0 < start q = omega (arith, start-stop f.0, x.1, y.0) in
      let more = number_of-rises grid f.0 q g f.1 h e (spot_from_start f.0 q e less) in
      let ih : i ≤ number_of grid f.0 = index_below i (grid.finest - b.level) b f.0 at f.3 f.1 f.2 in
      omega arith

  pub length-IsMesh : length mesh ≤ tree_count grid * 8 ^ grid.finest
  length-IsMesh =
      elim (cases_lt 0 (length mesh)) [
        | inr none ↦ omega arith
        | inl some ↦
            let c : Cube = record { level = 0; x = 0; y = 0; z = 0 } in
            let i = length mesh - 1 in
            let a = get_or mesh i c in
            let at : slice_get mesh i ≡ Some a = slice_get-get_or mesh i c (omega arith) in
            let f = finest_within grid a (m.inside i a at) in
            let b : i ≤ number_of grid f.0 = index_below i (grid.finest - a.level) a f.0 at f.3 f.1 f.2 in
            let t = number_of-below grid f.0 f.1 in
            let e : tree_count grid * 8 ^ f.0.level ≡ tree_count grid * 8 ^ grid.finest = ap (λ n. tree_count grid * 8 ^ n) f.2 in
            omega arith
      ]

  -- at most 16 * 16 * 16 trees of 8 ^ 6 finest places
  pub length-IsMesh_limit : length mesh ≤ 2 ^ 30
  length-IsMesh_limit =
      let few = length-IsMesh in
      let plane : grid.trees_x * grid.trees_y ≤ 16 * 16 = mul-le grid.trees_x grid.trees_y 16 16 g.most_x g.most_y in
      let trees : tree_count grid ≤ 256 * 16 = mul-le (grid.trees_x * grid.trees_y) grid.trees_z 256 16 plane g.most_z in
      let deep : 8 ^ grid.finest ≤ 8 ^ 6 = pow-le-pow_right (let e : 0 < 8 = omega arith in e) g.finest in
      let all : tree_count grid * 8 ^ grid.finest ≤ 4096 * 262144 = mul-le (tree_count grid) (8 ^ grid.finest) 4096 262144 trees deep in
      omega arith
