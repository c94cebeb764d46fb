-- Opening levels that lie close together solve the rules about two leaves too.
use Rattle.std.proofs.Common.{◌≡◌, ℕ, ◌+◌, ◌-◌, ◌<◌, ◌≤◌, ◌⊎◌, inl, inr, min, List, Some, slice_get, slice_index, length, subst, arith}
use Rattle.std.proofs.lemmas.Option.{slice_get_within}
use Rattle.block_index.specs.Places.{Cube, Grid}
use Rattle.block_index.specs.declared.wish.Wish.{Wish}
use Rattle.leaf_set.specs.LevelRules.{IsSolution}
use Rattle.leaf_set.specs.Opening.{IsOpening}

-- each level is base, or one more at a leaf no finer than base
abbrev pub AreEven : List Cube → List ℕ → ℕ → ℕ → Type 0
AreEven mesh levels base n =
    (i : ℕ) (a : Cube) → i < n → slice_get mesh i ≡ Some a
    → (slice_index levels i ≡ base) ⊎ ((slice_index levels i ≡ base + 1) × (a.level ≤ base))

near : (base d e l : ℕ) → (d ≡ base) ⊎ ((d ≡ base + 1) × (l ≤ base)) → (e ≡ base) ⊎ ((e ≡ base + 1) × (l ≤ base)) → min e l ≤ d
near base d e l (inl p) (inl q) = omega arith
near base d e l (inl p) (inr q) = omega (arith, q.0, q.1)
near base d e l (inr p) q = omega (arith, p.0, p.1)

jumps : (base d e l k : ℕ) → (d ≡ base) ⊎ ((d ≡ base + 1) × (l ≤ base)) → (e ≡ base) ⊎ ((e ≡ base + 1) × (k ≤ base)) → e - 1 ≤ d
jumps base d e l k (inl p) (inl q) = omega arith
jumps base d e l k (inl p) (inr q) = omega (arith, q.0)
jumps base d e l k (inr p) (inl q) = omega (arith, p.0)
jumps base d e l k (inr p) (inr q) = omega (arith, p.0, q.0)

pub IsSolution-AreEven : (grid : Grid) (mesh : List Cube) (wishes : List Wish) (levels : List ℕ) (base n : ℕ)
    → length mesh ≤ n → IsOpening grid mesh wishes levels → AreEven mesh levels base n → IsSolution grid mesh wishes levels
IsSolution-AreEven grid mesh wishes levels base n m o e =
    let at = λ (i : ℕ) (a : Cube) (s : slice_get mesh i ≡ Some a). let within = slice_get_within mesh i a s in e i a (omega (arith, within, m)) s in
    record {
      one_each = o.one_each;
      range = o.own.range;
      wish = o.own.wish;
      jump = λ i j a c s t touch. jumps base (slice_index levels i) (slice_index levels j) a.level c.level (at i a s) (at j c t);
      lone = o.own.lone;
      siblings = λ i j a c s t siblings.
          near base (slice_index levels i) (slice_index levels j) a.level (at i a s)
          (subst (λ l. (slice_index levels j ≡ base) ⊎ ((slice_index levels j ≡ base + 1) × (l ≤ base))) siblings.same_level (at j c t));
    }
