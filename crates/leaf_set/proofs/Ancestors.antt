-- The search for the leaf over a place, from the place up to its root.
use Rattle.std.proofs.Common.{◌≡◌, ℕ, ◌+◌, ◌-◌, ◌<◌, ◌≤◌, true, List, Option, None, Some, IfSome, IsNone, MatchOption, refl, sym, subst, arith, inl, inr}
use Rattle.std.proofs.lemmas.Bool.{cases_lt}
use Rattle.block_index.specs.Places.{Cube, covers, parent_of}
use Rattle.leaf_set.specs.Meshes.{IsLeaf}
use Rattle.leaf_set.proofs.Containment.{Contains, Contains-self, Contains-trans, Contains-one, Contains-parent_of, Contains-covers, covers-Contains}
use Rattle.leaf_set.proofs.Values.{positive}

-- no leaf covers the place
pub IsBareOf : List Cube → Cube → Type 0
IsBareOf places at = (c : Cube) → IsLeaf places c → covers c at ≡ true → ⊥

-- the place p covers at, and no leaf below p does
record HasCome (places : List Cube) (at p : Cube) : Type 0 where
  pub up : ℕ
  pub over : Contains up p at
  pub none_below : (d : ℕ) (c : Cube) → d < up → IsLeaf places c → Contains d c at → ⊥

-- how far the search has come: to a place, or past the root
pub HasSearched : List Cube → Cube → Option Cube → Type 0
HasSearched places at next = MatchOption next (IsBareOf places at) (HasCome places at)

pub HasSearched-none : (places : List Cube) (at : Cube) → HasSearched places at (Some at)
unfolding HasSearched
HasSearched-none places at = record { up = 0; over = Contains-self at; none_below = λ d c l leaf k. absurd (omega arith) }

pub HasSearched-covers : (places : List Cube) (at p : Cube) → HasSearched places at (Some p) → covers p at ≡ true
unfolding HasSearched
HasSearched-covers places at p h = covers-Contains h.up p at h.over

-- where p is no leaf, none as high as p is over the place
none_as_high : (places : List Cube) (at p : Cube) (h : HasCome places at p) → (IsLeaf places p → ⊥) → (d : ℕ) (c : Cube) → d ≤ h.up → IsLeaf places c → Contains d c at → ⊥
none_as_high places at p h no_leaf d c l leaf k =
    elim (cases_lt d h.up) [
      | inl less ↦ h.none_below d c less leaf k
      | inr more ↦
          let level : d ≡ h.up = omega arith in
          let same : c ≡ p = Contains-one h.up c p at (subst (λ n. Contains n c at) level k) h.over in
          no_leaf (subst (IsLeaf places) same leaf)
    ]

-- past the root there is no leaf over the place
pub HasSearched-root : (places : List Cube) (at p : Cube) → HasSearched places at (Some p) → (IsLeaf places p → ⊥) → p.level ≡ 0 → IsBareOf places at
unfolding HasSearched IsBareOf
HasSearched-root places at p h no_leaf root c leaf over =
    let k = Contains-covers c at over in
    let own = h.over.level in
    none_as_high places at p h no_leaf (at.level - c.level) c (omega arith) leaf k

-- one level up
pub HasSearched-parent : (places : List Cube) (at p : Cube) (next : Option Cube) → HasSearched places at (Some p) → (IsLeaf places p → ⊥) → (IsNone next → p.level ≡ 0) → (p.level ≡ 0 → IsNone next) → IfSome next (λ q. q ≡ parent_of p) → HasSearched places at next
unfolding HasSearched
HasSearched-parent places at p None h no_leaf root level is = HasSearched-root places at p h no_leaf (root refl)
HasSearched-parent places at p (Some q) h no_leaf root level is =
    subst (HasCome places at) (sym is)
    (record {
      up = h.up + 1;
      over = Contains-trans 1 h.up (parent_of p) p at (Contains-parent_of p (positive p.level level)) h.over;
      none_below = λ d c l leaf k. none_as_high places at p h no_leaf d c (omega arith) leaf k;
    })

pub HasSearched-ended : (places : List Cube) (at : Cube) (next : Option Cube) → HasSearched places at next → next ≡ None → (c : Cube) → IsLeaf places c → covers c at ≡ true → ⊥
unfolding HasSearched IsBareOf
HasSearched-ended places at next h none = let ended = subst (HasSearched places at) none h in ended

-- how many places the search has still to look at
abbrev pub levels_left : Option Cube → ℕ
levels_left None = 0
levels_left (Some p) = p.level + 1
