-- What holds of every mesh, and what makes a list of places a mesh.
use Rattle.std.proofs.Common.{◌≡◌, ℕ, zero, suc, ◌+◌, ◌-◌, ◌<◌, ◌≤◌, List, Some, slice_get, get_or, subst, arith, ◌⊎◌, inl, inr}
use Rattle.std.proofs.lemmas.Bool.{cases_lt, cases_order}
use Rattle.std.proofs.lemmas.Option.{slice_get_within, slice_get-get_or}
use Rattle.block_index.specs.Places.{Cube, Grid, IsInside, IsDomain, covers}
use Rattle.block_index.specs.Order.{rank, IsBefore}
use Rattle.leaf_set.specs.Meshes.{IsMesh, cover_count}
use Rattle.leaf_set.proofs.Containment.{Contains, Contains-trans, Contains-between, Contains-self, Contains-covers, covers-Contains, finest_within}
use Rattle.leaf_set.proofs.Spots.{start, stop, start-stop, stop-IsBefore, IsBefore-start, finest_limit, Contains-stretch}
use Rattle.leaf_set.proofs.Counts.{count-found, count-same, count-one}

-- each ends where or before the next starts
abbrev pub Spaced : List Cube → Type 0
Spaced xs = (i j : ℕ) (a c : Cube) → i < j → slice_get xs i ≡ Some a → slice_get xs j ≡ Some c → stop a ≤ start c

-- every finest place of the domain lies in one of them
abbrev pub ReachesAll : Grid → List Cube → Type 0
ReachesAll grid xs =
    (q : Cube) → IsInside grid q → q.level ≡ grid.finest → (i : ℕ) × (a : Cube) × (d : ℕ) × (slice_get xs i ≡ Some a) × Contains d a q

module _ (grid : Grid) (mesh : List Cube) (g : IsDomain grid) (m : IsMesh grid mesh) where
  -- two leaves over one finest place are one
  pub leaf_over_once : (q : Cube) → IsInside grid q → q.level ≡ grid.finest → (i j d e : ℕ) (a c : Cube) → slice_get mesh i ≡ Some a → slice_get mesh j ≡ Some c → Contains d a q → Contains e c q → i ≡ j
  leaf_over_once q h l i j d e a c s t k n =
      count-same (λ b. covers b q) mesh (let o = m.covered q h l in omega arith) i j a c s t (covers-Contains d a q k) (covers-Contains e c q n)

  pub leaf_over : ReachesAll grid mesh
  leaf_over q h l =
      let f = count-found (λ b. covers b q) mesh (let o = m.covered q h l in omega arith) in
      (f.0, f.1, q.level - f.1.level, f.2, Contains-covers f.1 q f.3)

  -- no leaf lies in another
  pub leaves_apart : (i j d : ℕ) (a c : Cube) → slice_get mesh i ≡ Some a → slice_get mesh j ≡ Some c → Contains d a c → i ≡ j
  leaves_apart i j d a c s t k =
      let q = finest_within grid c (m.inside j c t) in
      leaf_over_once q.0 q.1 q.2 i j (grid.finest - c.level + d) (grid.finest - c.level) a c s t (Contains-trans d (grid.finest - c.level) a c q.0 k q.3) q.3

  pub leaves_distinct : (i j : ℕ) (c : Cube) → slice_get mesh i ≡ Some c → slice_get mesh j ≡ Some c → i ≡ j
  leaves_distinct i j c s t = leaves_apart i j 0 c c s t (Contains-self c)

  rising : (n i : ℕ) (a c : Cube) → slice_get mesh i ≡ Some a → slice_get mesh (i + 1 + n) ≡ Some c → rank a < rank c
  rising zero i a c s t = m.ordered i a c s (subst (λ k. slice_get mesh k ≡ Some c) (let e : i + 1 + 0 ≡ i + 1 = omega arith in e) t)
  rising (suc n) i a c s t =
      let b = get_or mesh (i + 1 + n) c in
      let w = slice_get_within mesh (i + 1 + suc n) c t in
      let at : slice_get mesh (i + 1 + n) ≡ Some b = slice_get-get_or mesh (i + 1 + n) c (omega arith) in
      let low : rank a < rank b = rising n i a b s at in
      let high : rank b < rank c = m.ordered (i + 1 + n) b c at (subst (λ k. slice_get mesh k ≡ Some c) (let e : i + 1 + suc n ≡ i + 1 + n + 1 = omega arith in e) t) in
      omega arith

  pub leaves_ordered : (i j : ℕ) (a c : Cube) → i < j → slice_get mesh i ≡ Some a → slice_get mesh j ≡ Some c → IsBefore a c
  leaves_ordered i j a c h s t =
      rising (j - (i + 1)) i a c s (subst (λ k. slice_get mesh k ≡ Some c) (let e : j ≡ i + 1 + (j - (i + 1)) = omega arith in e) t)

  pub leaves_spaced : Spaced mesh
  leaves_spaced i j a c h s t =
      stop-IsBefore grid a c g (m.inside i a s) (m.inside j c t) (leaves_ordered i j a c h s t) (λ d k. let e = leaves_apart i j d a c s t k in omega arith)
      (λ d k. let e = leaves_apart j i d c a t s k in omega arith)

  -- what lies in a leaf stands before every later leaf
  pub IsBefore-later : (i j d : ℕ) (a c q : Cube) → i < j → slice_get mesh i ≡ Some a → slice_get mesh j ≡ Some c → IsInside grid q → Contains d a q → IsBefore q c
  IsBefore-later i j d a c q h s t n k =
      let b = finest_limit grid q g n in
      let w = Contains-stretch d a q k b in
      let v = leaves_spaced i j a c h s t in
      IsBefore-start q c b (finest_limit grid c g (m.inside j c t)) (omega (arith, start-stop q, w.1))

  -- a place of the domain lies in a leaf, or a finer leaf lies in it
  pub leaf_near : (q : Cube) → IsInside grid q → (i : ℕ) × (a : Cube) × (d : ℕ) × (slice_get mesh i ≡ Some a) × (Contains d a q ⊎ ((1 ≤ d) × Contains d q a))
  leaf_near q h =
      let f = finest_within grid q h in
      let e = grid.finest - q.level in
      let o = leaf_over f.0 f.1 f.2 in
      elim (cases_lt o.2 e) [
        | inl less ↦
            (o.0, o.1, e - o.2, o.3, inr (omega arith, Contains-between (e - o.2) o.2 q o.1 f.0 (subst (λ n. Contains n q f.0) (let s : e ≡ o.2 + (e - o.2) = omega arith in s) f.3) o.4))
        | inr more ↦
            (o.0, o.1, o.2 - e, o.3, inl (Contains-between (o.2 - e) e o.1 q f.0 (subst (λ n. Contains n o.1 f.0) (let s : o.2 ≡ e + (o.2 - e) = omega arith in s) o.4) f.3))
      ]

-- places of a domain, each after the one before, that reach all of it
pub IsMesh-Spaced : (grid : Grid) (mesh : List Cube) → IsDomain grid → ((i : ℕ) (c : Cube) → slice_get mesh i ≡ Some c → IsInside grid c) → Spaced mesh → ReachesAll grid mesh → IsMesh grid mesh
IsMesh-Spaced grid mesh g inside spaced reaches = record { inside = inside; ordered = ordered; covered = covered }
  where
    ordered : (i : ℕ) (a c : Cube) → slice_get mesh i ≡ Some a → slice_get mesh (i + 1) ≡ Some c → IsBefore a c
    ordered i a c s t =
        let h = spaced i (i + 1) a c (omega arith) s t in
        let w = start-stop a in
        IsBefore-start a c (finest_limit grid a g (inside i a s)) (finest_limit grid c g (inside (i + 1) c t)) (omega arith)

    clash : (q : Cube) → IsInside grid q → (i j d e : ℕ) (a c : Cube) → i < j → slice_get mesh i ≡ Some a → slice_get mesh j ≡ Some c → Contains d a q → Contains e c q → ⊥
    clash q h i j d e a c l s t k n =
        let x = spaced i j a c l s t in
        let b = finest_limit grid q g h in
        let y = Contains-stretch d a q k b in
        let z = Contains-stretch e c q n b in
        let w = start-stop q in
        omega (arith, y.1, z.0)

    covered : (q : Cube) → IsInside grid q → q.level ≡ grid.finest → cover_count mesh q ≡ 1
    covered q h l =
        let o = reaches q h l in
        count-one (λ b. covers b q) mesh o.0 o.1 o.3 (covers-Contains o.2 o.1 q o.4) (λ j c t u.
        let n = Contains-covers c q u in
        elim (cases_order j o.0) [
          | inl same ↦ same
          | inr r ↦
              elim r [
                | inl less ↦ absurd (clash q h j o.0 (q.level - c.level) o.2 c o.1 less t o.3 n o.4)
                | inr more ↦ absurd (clash q h o.0 j o.2 (q.level - c.level) o.1 c more o.3 t o.4 n)
              ]
        ])
