-- A leaf has one cover in a direction, and the leaves that it names touch the leaf.
use Rattle.std.proofs.Common.{◌≡◌, ℕ, zero, suc, ◌+◌, ◌-◌, ◌<◌, ◌≤◌, inl, inr, List, [], ◌∷◌, Some, length, get_or, slice_get, refl, sym, ap, ◌∙◌, subst, arith}
use Rattle.std.specs.List.{Contains}
use Rattle.std.proofs.lemmas.Bool.{cases_lt}
use Rattle.std.proofs.lemmas.List.Elements.{Contains-get_or}
use Rattle.std.proofs.lemmas.Option.{same_Some}
use Rattle.block_index.specs.Places.{Cube, Grid, IsDomain}
use Rattle.block_index.specs.Touching.{Touches}
use Rattle.leaf_set.specs.Meshes.{IsMesh}
use Rattle.leaf_set.proofs.Boxes.{BoxesMeet, BoxesMeet-sym, BoxesMeet-Contains, Touches-BoxesMeet}
use Rattle.leaf_set.proofs.Containment.{Contains as Holds, Contains-covers, Contains-self, Contains-trans, Contains-between}
use Rattle.leaf_set.proofs.MeshFacts.{leaves_apart, leaves_distinct}
use Rattle.leaf_set.proofs.Spots.{finest_limit}
use Rattle.block_index.specs.Beyond.{Offset, IsBeyond}
use Rattle.cello_neighbours.specs.Directions.{IsDirection}
use Rattle.cello_neighbours.specs.Covers.{LiesAgainst, AreAgainst, IsCoarserOver, IsCoverFrom, IsCover, leaves_of}
use Rattle.cello_neighbours.specs.declared.covers.Cover.{Cover}
use Rattle.cello_neighbours.specs.declared.covers.Cover.TheVariants.{Same, Coarser, Finer, Outside}
use Rattle.block_index.proofs.Beyond.{IsBeyond-one, IsInside-IsBeyond}
use Rattle.cello_neighbours.proofs.NearSides.{Contains-LiesAgainst, BoxesMeet-IsBeyond, BoxesMeet-LiesAgainst}
use Rattle.cello_neighbours.proofs.NearChildren.{near_children-some}
use Rattle.cello_neighbours.proofs.AscendingLists.{same_ascending}

-- of a list of finer leaves there is one at least
some_against : (mesh : List Cube) (d : Offset) (q : Cube) (js : List ℕ) → AreAgainst mesh d q js → (j : ℕ) × (c : Cube) × (slice_get mesh j ≡ Some c) × LiesAgainst d q c
some_against mesh d q js h =
    let l : 0 < length js = omega (arith, h.count, near_children-some d) in
    let o = h.against (get_or js 0 0) (Contains-get_or js 0 0 l) in
    (get_or js 0 0, o.0, o.1, o.2)

same_against : (mesh : List Cube) (d : Offset) (q : Cube) (js ks : List ℕ) → AreAgainst mesh d q js → AreAgainst mesh d q ks → js ≡ ks
same_against mesh d q js ks h k =
    same_ascending js ks h.ascending k.ascending (λ j c. let o = h.against j c in k.all j o.0 o.1 o.2) (λ j c. let o = k.against j c in h.all j o.0 o.1 o.2)

module _ (grid : Grid) (mesh : List Cube) (g : IsDomain grid) (m : IsMesh grid mesh) where
  -- ---- at one place: two of a leaf, a coarser leaf and finer leaves can't be

  same_coarser : (q c : Cube) (i j : ℕ) → slice_get mesh i ≡ Some q → IsCoarserOver mesh q j c → ⊥
  same_coarser q c i j s k =
      let one = leaves_apart grid mesh g m j i (q.level - c.level) c q k.leaf s (Contains-covers c q k.covers) in
      let e : c ≡ q = same_Some c q (sym k.leaf ∙ subst (λ n. slice_get mesh n ≡ Some q) (sym one) s) in
      let l = k.coarser in
      omega (arith, ap (λ (p : Cube). p.level) e)

  -- a leaf that contains q holds no other leaf in q
  over_against : (d : Offset) (q c : Cube) (n j : ℕ) (js : List ℕ) → slice_get mesh j ≡ Some c → Holds n c q → AreAgainst mesh d q js → ⊥
  over_against d q c n j js s k h =
      let o = some_against mesh d q js h in
      let down = Contains-trans n 1 c q o.1 k (Contains-LiesAgainst d q o.1 o.3) in
      let one = leaves_apart grid mesh g m j o.0 (1 + n) c o.1 s o.2 down in
      let e : c ≡ o.1 = same_Some c o.1 (sym s ∙ subst (λ i. slice_get mesh i ≡ Some o.1) (sym one) o.2) in
      let l = down.level in
      omega (arith, ap (λ (p : Cube). p.level) e)

  coarser_once : (q a c : Cube) (i j : ℕ) → IsCoarserOver mesh q i a → IsCoarserOver mesh q j c → i ≡ j
  coarser_once q a c i j h k =
      let u = Contains-covers a q h.covers in
      let v = Contains-covers c q k.covers in
      let x = h.coarser in
      let y = k.coarser in
      elim (cases_lt c.level a.level) [
        | inl less ↦
            let e : q.level - c.level ≡ q.level - a.level + (a.level - c.level) = omega arith in
            sym
            (leaves_apart grid mesh g m j i (a.level - c.level) c a k.leaf h.leaf
            (Contains-between (a.level - c.level) (q.level - a.level) c a q (subst (λ n. Holds n c q) e v) u))
        | inr more ↦
            let e : q.level - a.level ≡ q.level - c.level + (c.level - a.level) = omega arith in
            leaves_apart grid mesh g m i j (c.level - a.level) a c h.leaf k.leaf
            (Contains-between (c.level - a.level) (q.level - c.level) a c q (subst (λ n. Holds n a q) e u) v)
      ]

  -- ---- covers

  module _ (a : Cube) (d : Offset) where
    -- the second place is the first
    at : (P : Cube → Type 0) (p q : Cube) → IsBeyond grid a d p → IsBeyond grid a d q → P p → P q
    at P p q h k = subst P (IsBeyond-one grid a p q d h k)

    one_from : (cover other : Cover) → IsCoverFrom grid mesh a d cover → IsCoverFrom grid mesh a d other → cover ≡ other
    one_from (Same i) (Same j) (p, h, s) (q, k, t) =
        ap Same (leaves_distinct grid mesh g m i j q (at (λ c. slice_get mesh i ≡ Some c) p q h k s) t)
    one_from (Same i) (Coarser j) (p, h, s) (q, k, t) =
        absurd (same_coarser q t.0 i j (at (λ c. slice_get mesh i ≡ Some c) p q h k s) t.1)
    one_from (Same i) (Finer js) (p, h, s) (q, k, t) =
        absurd (over_against d q q 0 i js (at (λ c. slice_get mesh i ≡ Some c) p q h k s) (Contains-self q) t)
    one_from (Same i) Outside (p, h, s) none = absurd (none p h)
    one_from (Coarser i) (Same j) (p, h, s) (q, k, t) =
        absurd (same_coarser q s.0 j i t (at (λ c. IsCoarserOver mesh c i s.0) p q h k s.1))
    one_from (Coarser i) (Coarser j) (p, h, s) (q, k, t) =
        ap Coarser (coarser_once q s.0 t.0 i j (at (λ c. IsCoarserOver mesh c i s.0) p q h k s.1) t.1)
    one_from (Coarser i) (Finer js) (p, h, s) (q, k, t) =
        let u = at (λ c. IsCoarserOver mesh c i s.0) p q h k s.1 in
        absurd (over_against d q s.0 (q.level - s.0.level) i js u.leaf (Contains-covers s.0 q u.covers) t)
    one_from (Coarser i) Outside (p, h, s) none = absurd (none p h)
    one_from (Finer is) (Same j) (p, h, s) (q, k, t) =
        absurd (over_against d q q 0 j is t (Contains-self q) (at (λ c. AreAgainst mesh d c is) p q h k s))
    one_from (Finer is) (Coarser j) (p, h, s) (q, k, t) =
        absurd (over_against d q t.0 (q.level - t.0.level) j is t.1.leaf (Contains-covers t.0 q t.1.covers) (at (λ c. AreAgainst mesh d c is) p q h k s))
    one_from (Finer is) (Finer js) (p, h, s) (q, k, t) =
        ap Finer (same_against mesh d q is js (at (λ c. AreAgainst mesh d c is) p q h k s) t)
    one_from (Finer is) Outside (p, h, s) none = absurd (none p h)
    one_from Outside (Same j) none (q, k, t) = absurd (none q k)
    one_from Outside (Coarser j) none (q, k, t) = absurd (none q k)
    one_from Outside (Finer js) none (q, k, t) = absurd (none q k)
    one_from Outside Outside none nor = refl

  pub IsCover-one : (b : ℕ) (d : Offset) (cover other : Cover) → IsCover grid mesh b d cover → IsCover grid mesh b d other → cover ≡ other
  IsCover-one b d cover other h k =
      let e : h.0 ≡ k.0 = same_Some h.0 k.0 (sym h.1 ∙ k.1) in
      one_from k.0 d cover other (subst (λ a. IsCoverFrom grid mesh a d cover) e h.2) k.2

  -- ---- touching

  module _ (b : ℕ) (a : Cube) (d : Offset) (s : slice_get mesh b ≡ Some a) (w : IsDirection d) where
    low : a.level ≤ 6
    low = finest_limit grid a g (m.inside b a s)

    meets : (q : Cube) → IsBeyond grid a d q → BoxesMeet grid a q
    meets q h = BoxesMeet-IsBeyond grid a q d (m.inside b a s) w h low

    one_meets : (j i : ℕ) (P : ℕ → Type 0) → Contains (i ∷ []) j → P i → P j
    one_meets j i P (zero, l, e) h = subst P e h
    one_meets j i P (suc n, l, e) h = absurd (omega arith)

    names_meet : (j : ℕ) (cover : Cover) → IsCoverFrom grid mesh a d cover → Contains (leaves_of cover) j → (c : Cube) × (slice_get mesh j ≡ Some c) × BoxesMeet grid a c
    names_meet j (Same i) (q, h, t) n = one_meets j i (λ k. (c : Cube) × (slice_get mesh k ≡ Some c) × BoxesMeet grid a c) n (q, t, meets q h)
    names_meet j (Coarser i) (q, h, t) n =
        let inside = IsInside-IsBeyond grid a q d (m.inside b a s) h in
        let over : BoxesMeet grid t.0 a =
        BoxesMeet-Contains grid (q.level - t.0.level) t.0 q a (Contains-covers t.0 q t.1.covers) (finest_limit grid q g inside) (BoxesMeet-sym grid a q (meets q h)) in
        one_meets j i (λ k. (c : Cube) × (slice_get mesh k ≡ Some c) × BoxesMeet grid a c) n (t.0, t.1.leaf, BoxesMeet-sym grid t.0 a over)
    names_meet j (Finer is) (q, h, t) n =
        let o = t.against j n in
        (o.0, o.1, BoxesMeet-LiesAgainst grid a q d (m.inside b a s) w h o.0 (finest_limit grid o.0 g (m.inside j o.0 o.1)) o.2)
    names_meet j Outside none n = absurd (let l = n.1 in omega arith)

  pub Touches-IsCover : (b j : ℕ) (a c : Cube) (d : Offset) (cover : Cover) → IsDirection d → IsCover grid mesh b d cover → Contains (leaves_of cover) j → (j ≡ b → ⊥)
      → slice_get mesh b ≡ Some a → slice_get mesh j ≡ Some c → Touches grid a c
  Touches-IsCover b j a c d cover w h n apart s t =
      let e : h.0 ≡ a = same_Some h.0 a (sym h.1 ∙ s) in
      let o = names_meet b a d s w j cover (subst (λ p. IsCoverFrom grid mesh p d cover) e h.2) n in
      let f : o.0 ≡ c = same_Some o.0 c (sym o.1 ∙ t) in
      Touches-BoxesMeet grid a c (λ same. apart (leaves_distinct grid mesh g m j b c t (subst (λ p. slice_get mesh b ≡ Some p) same s))) (subst (BoxesMeet grid a) f o.2)
