-- The next mesh of a mesh is a mesh.
use Rattle.std.proofs.Common.{◌≡◌, ℕ, zero, suc, ◌+◌, ◌-◌, ◌*◌, ◌<◌, ◌≤◌, cond, nat_lt, ◌==◌, List, [], ◌∷◌, ◌++◌, Some, length, slice_get, slice_index, refl, sym, ap, ◌∙◌, subst, arith, inl, inr, mul-le-mul_right}
use Rattle.std.proofs.lemmas.Bool.{cond_both, ltb-true, cases_order}
use Rattle.std.proofs.lemmas.Option.{same_Some, none-some}
use Rattle.block_index.specs.Places.{Cube, Grid, IsInside, IsDomain, child_of, parent_of, child_number}
use Rattle.leaf_set.specs.Meshes.{IsLeaf, IsMesh}
use Rattle.leaf_set.specs.LevelRules.{KeepsRange, KeepsLone, KeepsSiblings}
use Rattle.leaf_set.specs.NextMesh.{children_of, leaves_after, next_mesh}
use Rattle.leaf_set.proofs.Containment.{Contains, Contains-self, Contains-same, Contains-trans, Contains-child, Contains-child_of, Contains-parent_of, IsInside-Contains, IsInside-child_of, child_number-child_of, parent_of-child_of, child_of-child_number}
use Rattle.leaf_set.proofs.Spots.{higher, lower, before, after, sides, start, stop, start-stop, start-child_of, stop-child_of, child_width, Contains-stretch, finest_limit}
use Rattle.leaf_set.proofs.NextLeaves.{LeftBy, LeftBy-leaves_after, split, kept, joined, child_at, IsLeaf-append, leaf_before, leaf_after}
use Rattle.leaf_set.proofs.MeshFacts.{Spaced, ReachesAll, IsMesh-Spaced, leaf_over, leaves_apart, leaves_spaced}
use Rattle.leaf_set.proofs.Origins.{siblings_fall}

-- ---- lists joined end to end

Spaced-append : (xs ys : List Cube) → Spaced xs → Spaced ys → ((x y : Cube) → IsLeaf xs x → IsLeaf ys y → stop x ≤ start y) → Spaced (xs ++ ys)
Spaced-append [] ys f h cross i j a c l s t = h i j a c l s t
Spaced-append (z ∷ xs) ys f h cross i zero a c l s t = absurd (omega arith)
Spaced-append (z ∷ xs) ys f h cross zero (suc j) a c l s t =
    elim (IsLeaf-append xs ys c j t) [
      | inl w ↦ f zero (suc w.0) a c (omega arith) s w.1
      | inr w ↦ cross a c (zero, s) w
    ]
Spaced-append (z ∷ xs) ys f h cross (suc i) (suc j) a c l s t =
    Spaced-append xs ys (λ i j a c l s t. f (suc i) (suc j) a c (omega arith) s t) h (λ x y w v. cross x y (suc w.0, w.1) v) i j a c (omega arith) s t

Spaced-next_mesh : (mesh : List Cube) (levels : List ℕ) → ((i : ℕ) (a : Cube) → slice_get mesh i ≡ Some a → Spaced (leaves_after a (slice_index levels i))) → ((i j : ℕ) (a c x y : Cube) → i < j → slice_get mesh i ≡ Some a → slice_get mesh j ≡ Some c → LeftBy a (slice_index levels i) x → LeftBy c (slice_index levels j) y → stop x ≤ start y) → Spaced (next_mesh mesh levels)
Spaced-next_mesh [] levels own cross i j a c l s t = absurd (none-some a s)
Spaced-next_mesh (b ∷ bs) [] own cross i j a c l s t = absurd (none-some a s)
Spaced-next_mesh (b ∷ bs) (d ∷ ds) own cross i j a c l s t =
    Spaced-append (leaves_after b d) (next_mesh bs ds) (own zero b refl) (Spaced-next_mesh bs ds (λ i a s. own (suc i) a s) (λ i j a c x y l s t. cross (suc i) (suc j) a c x y (omega arith) s t)) (λ x y w v.
    let u = leaf_before bs ds y v.0 v.1 in
    cross zero (suc u.0) b u.1 x y (omega arith) refl u.2 (LeftBy-leaves_after b d x w) u.3)
    i j a c l s t

-- ---- what one leaf leaves

one_spaced : (c : Cube) → Spaced (c ∷ [])
one_spaced c i zero x y l s t = absurd (omega arith)
one_spaced c i (suc j) x y l s t = absurd (none-some y t)

children_spaced : (a : Cube) → a.level + 1 ≤ 6 → Spaced (children_of a)
children_spaced a h i j x y l s t =
    let p = child_at a x i s in
    let q = child_at a y j t in
    let w : (i + 1) * child_width a.level ≤ j * child_width a.level = mul-le-mul_right (child_width a.level) (let e : i + 1 ≤ j = omega arith in e) in
    let e = stop-child_of a i p.0 h in
    let f = start-child_of a j q.0 h in
    let u : stop (child_of a i) ≤ start (child_of a j) = omega arith in
    subst (λ r. r ≤ start y) (ap stop (sym p.1)) (subst (λ r. stop (child_of a i) ≤ r) (ap start (sym q.1)) u)

leaves_after_spaced : (a : Cube) (d : ℕ) → (a.level < d → a.level + 1 ≤ 6) → Spaced (leaves_after a d)
leaves_after_spaced a d h =
    cond_both (nat_lt a.level d) (children_of a) (cond (a.level == d) (a ∷ []) (cond (child_number a == 0) (parent_of a ∷ []) [])) Spaced
    (λ t. children_spaced a (h (ltb-true a.level d t)))
    (λ _.
    cond_both (a.level == d) (a ∷ []) (cond (child_number a == 0) (parent_of a ∷ []) []) Spaced (λ _. one_spaced a)
    (λ _.
    cond_both (child_number a == 0) (parent_of a ∷ []) [] Spaced (λ _. one_spaced (parent_of a))
    (λ _ i j x y l s t. absurd (none-some x s))))

-- the parent of a first child starts where that starts
first_child_start : (a : Cube) → 1 ≤ a.level → a.level ≤ 6 → child_number a ≡ 0 → start (parent_of a) ≡ start a
first_child_start a h l n =
    let e : child_of (parent_of a) (child_number a) ≡ a = child_of-child_number (parent_of a) a (Contains-parent_of a h) in
    let f : child_of (parent_of a) 0 ≡ a = subst (λ k. child_of (parent_of a) k ≡ a) n e in
    let s = start-child_of (parent_of a) 0 (omega arith) (omega arith) in
    omega (arith, ap start f)

-- what a leaf leaves starts nowhere before the leaf
start-LeftBy : (a : Cube) (d : ℕ) (x : Cube) → a.level ≤ 6 → (a.level < d → a.level + 1 ≤ 6) → LeftBy a d x → start a ≤ start x
start-LeftBy a d x l h (split k m lt e) =
    let s = Contains-stretch 1 a (child_of a k) (Contains-child_of a k m) (h lt) in
    omega (arith, s.0, ap start e)
start-LeftBy a d x l h (kept q e) = omega (arith, ap start e)
start-LeftBy a d x l h (joined lt n e) = omega (arith, ap start e, first_child_start a (omega arith) l n)

module _ (grid : Grid) (mesh : List Cube) (levels : List ℕ) (g : IsDomain grid) (m : IsMesh grid mesh) (one_each : length levels ≡ length mesh) (range : KeepsRange grid mesh levels) (lone : KeepsLone mesh levels) (siblings : KeepsSiblings mesh levels) where
  limit : (i : ℕ) (a : Cube) → slice_get mesh i ≡ Some a → a.level ≤ 6
  limit i a s = finest_limit grid a g (m.inside i a s)

  room : (i : ℕ) (a : Cube) → slice_get mesh i ≡ Some a → a.level < slice_index levels i → a.level + 1 ≤ grid.finest
  room i a s h = let r = range i a s in omega (arith, r.1)

  room_6 : (i : ℕ) (a : Cube) → slice_get mesh i ≡ Some a → a.level < slice_index levels i → a.level + 1 ≤ 6
  room_6 i a s h = let r = room i a s h in omega (arith, g.finest)

  LeftBy_inside : (i : ℕ) (a x : Cube) → slice_get mesh i ≡ Some a → LeftBy a (slice_index levels i) x → IsInside grid x
  LeftBy_inside i a x s (split k l h e) = subst (IsInside grid) (sym e) (IsInside-child_of grid a k l (room i a s h) (m.inside i a s))
  LeftBy_inside i a x s (kept h e) = subst (IsInside grid) (sym e) (m.inside i a s)
  LeftBy_inside i a x s (joined h n e) =
      subst (IsInside grid) (sym e) (IsInside-Contains grid 1 (parent_of a) a (Contains-parent_of a (omega arith)) (m.inside i a s))

  inside_next : (n : ℕ) (x : Cube) → slice_get (next_mesh mesh levels) n ≡ Some x → IsInside grid x
  inside_next n x s = let b = leaf_before mesh levels x n s in LeftBy_inside b.0 b.1 x b.2 b.3

  -- a leaf of a joined family leaves nothing unless it is the first child
  family_leaves_once : (i j k : ℕ) (a c y : Cube) → i < j → slice_get mesh i ≡ Some a → slice_get mesh j ≡ Some c → slice_index levels i < a.level → child_number a ≡ 0 → k < 8 → c ≡ child_of (parent_of a) k → slice_index levels j ≡ a.level - 1 → LeftBy c (slice_index levels j) y → ⊥
  family_leaves_once i j k a c y l s t h n w e f (split k' l' lt e') = omega (arith, ap (λ (q : Cube). q.level) e)
  family_leaves_once i j k a c y l s t h n w e f (kept q e') = omega (arith, ap (λ (q : Cube). q.level) e)
  family_leaves_once i j k a c y l s t h n w e f (joined lt n' e') =
      let zero_k : k ≡ 0 = sym (child_number-child_of (parent_of a) k w) ∙ ap child_number (sym e) ∙ n' in
      let first : child_of (parent_of a) (child_number a) ≡ a = child_of-child_number (parent_of a) a (Contains-parent_of a (omega arith)) in
      let same : c ≡ a = e ∙ ap (child_of (parent_of a)) (zero_k ∙ sym n) ∙ first in
      let r : i ≡ j = leaves_apart grid mesh g m i j 0 a c s t (subst (λ q. Contains 0 q c) same (Contains-self c)) in
      omega arith

  -- the parent that a family leaves ends before the next leaf that leaves something
  stop-parent_of : (i j : ℕ) (a c y : Cube) → i < j → slice_get mesh i ≡ Some a → slice_get mesh j ≡ Some c → slice_index levels i < a.level → child_number a ≡ 0 → LeftBy c (slice_index levels j) y → stop (parent_of a) ≤ start c
  stop-parent_of i j a c y l s t h n v =
      let p = parent_of a in
      let up : Contains 1 p a = Contains-parent_of a (omega arith) in
      let inside = IsInside-Contains grid 1 p a up (m.inside i a s) in
      elim (sides grid p c g inside (m.inside j c t)) [
        | higher d k ↦ absurd (over d k)
        | lower d k ↦ absurd (let e : j ≡ i = leaves_apart grid mesh g m j i (1 + d) c a t s (Contains-trans d 1 c p a k up) in omega arith)
        | before k ↦ k
        | after k ↦
            absurd
            (let e = leaves_spaced grid mesh g m i j a c l s t in
            let u = Contains-stretch 1 p a up (limit i a s) in
            omega (arith, u.0, start-stop a, start-stop c))
      ]
    where
      over : (d : ℕ) → Contains d (parent_of a) c → ⊥
      over zero k =
          let up : Contains 1 (parent_of a) a = Contains-parent_of a (omega arith) in
          let up_c : Contains 1 c a = subst (λ q. Contains 1 q a) (Contains-same (parent_of a) c k) up in
          let e : j ≡ i = leaves_apart grid mesh g m j i 1 c a t s up_c in
          omega arith
      over (suc d) k =
          let o = Contains-child d (parent_of a) c (subst (λ n. Contains n (parent_of a) c) (let e : suc d ≡ d + 1 = omega arith in e) k) in
          let f = siblings_fall grid mesh levels range lone siblings i a s h o.0 o.1 in
          let e : f.0 ≡ j = leaves_apart grid mesh g m f.0 j d (child_of (parent_of a) o.0) c f.1 t o.2 in
          let same : c ≡ child_of (parent_of a) o.0 = same_Some c (child_of (parent_of a) o.0) (sym t ∙ ap (slice_get mesh) (sym e) ∙ f.1) in
          family_leaves_once i j o.0 a c y l s t h n o.1 same (ap (slice_index levels) (sym e) ∙ f.2) v

  cross_next : (i j : ℕ) (a c x y : Cube) → i < j → slice_get mesh i ≡ Some a → slice_get mesh j ≡ Some c → LeftBy a (slice_index levels i) x → LeftBy c (slice_index levels j) y → stop x ≤ start y
  cross_next i j a c x y l s t u v = ends u
    where
      far : stop a ≤ start c
      far = leaves_spaced grid mesh g m i j a c l s t

      begins : start c ≤ start y
      begins = start-LeftBy c (slice_index levels j) y (limit j c t) (room_6 j c t) v

      ends : LeftBy a (slice_index levels i) x → stop x ≤ start y
      ends (split k w lt e) =
          let q = Contains-stretch 1 a (child_of a k) (Contains-child_of a k w) (room_6 i a s lt) in
          omega (arith, q.1, ap stop e, far, begins)
      ends (kept q e) = omega (arith, ap stop e, far, begins)
      ends (joined lt n e) = omega (arith, ap stop e, stop-parent_of i j a c y l s t lt n v, begins)

  spaced_next : Spaced (next_mesh mesh levels)
  spaced_next = Spaced-next_mesh mesh levels (λ i a s. leaves_after_spaced a (slice_index levels i) (room_6 i a s)) cross_next

  reaches_next : ReachesAll grid (next_mesh mesh levels)
  reaches_next q h f =
      let o = leaf_over grid mesh g m q h f in
      from o.0 o.1 o.2 o.3 o.4
    where
      put : (i : ℕ) (a x : Cube) (d : ℕ) → slice_get mesh i ≡ Some a → LeftBy a (slice_index levels i) x → Contains d x q → (n : ℕ) × (b : Cube) × (d : ℕ) × (slice_get (next_mesh mesh levels) n ≡ Some b) × Contains d b q
      put i a x d s u k = let n = leaf_after mesh levels i a x one_each s u in (n.0, x, d, n.1, k)

      from : (i : ℕ) (a : Cube) (d : ℕ) → slice_get mesh i ≡ Some a → Contains d a q → (n : ℕ) × (b : Cube) × (d : ℕ) × (slice_get (next_mesh mesh levels) n ≡ Some b) × Contains d b q
      from i a d s k =
          elim (cases_order a.level (slice_index levels i)) [
            | inl same ↦ put i a a d s (kept same refl) k
            | inr r ↦
                elim r [
                  | inl less ↦
                      let e : d ≡ d - 1 + 1 = omega (arith, room i a s less, k.level) in
                      let c = Contains-child (d - 1) a q (subst (λ n. Contains n a q) e k) in
                      put i a (child_of a c.0) (d - 1) s (split c.0 c.1 less refl) c.2
                  | inr more ↦
                      let b = siblings_fall grid mesh levels range lone siblings i a s more 0 (omega arith) in
                      let c = child_of (parent_of a) 0 in
                      let u : LeftBy c (slice_index levels b.0) (parent_of a) = joined (let e = b.2 in omega arith) (child_number-child_of (parent_of a) 0 (omega arith)) (sym (parent_of-child_of (parent_of a) 0 (omega arith))) in
                      put b.0 c (parent_of a) (d + 1) b.1 u (Contains-trans 1 d (parent_of a) a q (Contains-parent_of a (omega arith)) k)
                ]
          ]

  pub next_mesh-IsMesh : IsMesh grid (next_mesh mesh levels)
  next_mesh-IsMesh = IsMesh-Spaced grid (next_mesh mesh levels) g inside_next spaced_next reaches_next
