-- The fault of a list of places is one, and a list that has one is no mesh.
use Rattle.std.proofs.Common.{◌≡◌, ℕ, ◌+◌, ◌-◌, List, Some, slice_get, refl, sym, ap, subst, arith, inl, inr}
use Rattle.std.proofs.lemmas.Bool.{cases_order}
use Rattle.block_index.specs.Places.{Cube, Grid, IsDomain}
use Rattle.block_index.specs.Order.{rank}
use Rattle.block_index.proofs.Ranks.{same_from_rank}
use Rattle.leaf_set.specs.LeafFaults.{BreaksOrder, LiesOutside, Overlaps, Jumps, IsFirst, IsFirstPair, IsFirstBare, IsLeafFault, StandInOrder, LieInside, LieApart, CoverAll}
use Rattle.leaf_set.specs.Meshes.{IsMesh, IsBalanced}
use Rattle.leaf_set.specs.Tiling.{IsTiling}
use Rattle.leaf_set.specs.declared.leaf_fault.LeafFault.{LeafFault}
use Rattle.leaf_set.specs.declared.leaf_fault.LeafFault.TheVariants.{Order, Outside, Overlap, Hole, Jump, Memory}
use Rattle.leaf_set.proofs.Boxes.{Touches-sym}
use Rattle.leaf_set.proofs.Containment.{Contains-covers}
use Rattle.leaf_set.proofs.MeshFacts.{leaves_apart}
use Rattle.leaf_set.proofs.Stretches.{IsPlace-IsInside}

-- ---- a mesh has no fault

module _ (grid : Grid) (places : List Cube) (g : IsDomain grid) (m : IsMesh grid places) where
  pub mesh_in_order : StandInOrder places
  mesh_in_order at h =
      let next : slice_get places (at - 1 + 1) ≡ Some h.place = subst (λ k. slice_get places k ≡ Some h.place) (let l = h.later in let e : at ≡ at - 1 + 1 = omega arith in e) h.is_place in
      h.unordered (m.ordered (at - 1) h.before h.place h.is_before next)

  pub mesh_inside : LieInside grid places
  mesh_inside at h = h.outside (m.inside at h.place h.is_place)

  pub mesh_apart : LieApart places
  mesh_apart a b h =
      let later = h.later in
      elim h.contains [
        | inl over ↦
            let same = leaves_apart grid places g m a b (h.second.level - h.first.level) h.first h.second h.is_first h.is_second (Contains-covers h.first h.second over) in
            omega arith
        | inr under ↦
            let same = leaves_apart grid places g m b a (h.first.level - h.second.level) h.second h.first h.is_second h.is_first (Contains-covers h.second h.first under) in
            omega arith
      ]

  pub mesh_covers : CoverAll grid places
  mesh_covers c h = let one = m.covered c h.inside h.finest in let none = h.bare in omega arith

no_jumps : (grid : Grid) (places : List Cube) → IsBalanced grid places → (a b : ℕ) → Jumps grid places a b → ⊥
no_jumps grid places balanced a b h =
    let low = balanced a b h.first h.second h.is_first h.is_second h.touch in
    let high = balanced b a h.second h.first h.is_second h.is_first (Touches-sym grid h.first h.second h.touch) in
    elim h.apart [ inl finer ↦ omega arith | inr coarser ↦ omega arith ]

pub no_fault : (grid : Grid) (places : List Cube) (f : LeafFault) → IsLeafFault grid places f → (f ≡ Memory → ⊥) → IsTiling (record { grid = grid; places = places }) → ⊥
no_fault grid places (Order at) h other t = mesh_in_order grid places t.domain t.mesh at h.here
no_fault grid places (Outside at) h other t = mesh_inside grid places t.domain t.mesh at h.1.here
no_fault grid places (Overlap a b) h other t = mesh_apart grid places t.domain t.mesh a b h.2.here
no_fault grid places (Hole at) h other t = mesh_covers grid places t.domain t.mesh at h.3.here
no_fault grid places (Jump a b) h other t = no_jumps grid places t.balanced a b h.4.here
no_fault grid places Memory h other t = other refl

-- ---- one fault

IsFirst-one : (P : ℕ → Type 0) (i j : ℕ) → IsFirst P i → IsFirst P j → i ≡ j
IsFirst-one P i j h k =
    elim (cases_order i j) [
      | inl same ↦ same
      | inr r ↦ elim r [ inl less ↦ absurd (k.none_before i less h.here) | inr more ↦ absurd (h.none_before j more k.here) ]
    ]

IsFirstPair-one : (P : ℕ → ℕ → Type 0) (a b i j : ℕ) → IsFirstPair P a b → IsFirstPair P i j → (a ≡ i) × (b ≡ j)
IsFirstPair-one P a b i j h k =
    elim (cases_order a i) [
      | inr r ↦ elim r [ inl less ↦ absurd (k.none_of_lesser a b less h.here) | inr more ↦ absurd (h.none_of_lesser i j more k.here) ]
      | inl same ↦
          elim (cases_order b j) [
            | inl both ↦ (same, both)
            | inr r ↦
                elim r [
                  | inl less ↦ absurd (k.none_before b less (subst (λ n. P n b) same h.here))
                  | inr more ↦ absurd (h.none_before j more (subst (λ n. P n j) (sym same) k.here))
                ]
          ]
    ]

IsFirstBare-one : (grid : Grid) (places : List Cube) (a c : Cube) → IsDomain grid → IsFirstBare grid places a → IsFirstBare grid places c → a ≡ c
IsFirstBare-one grid places a c g h k =
    elim (cases_order (rank a) (rank c)) [
      | inl same ↦ same_from_rank a c (IsPlace-IsInside grid a g h.here.inside) (IsPlace-IsInside grid c g k.here.inside) same
      | inr r ↦ elim r [ inl less ↦ absurd (k.none_before a less h.here) | inr more ↦ absurd (h.none_before c more k.here) ]
    ]

pub one_fault : (grid : Grid) (places : List Cube) (f h : LeafFault) → IsDomain grid → IsLeafFault grid places f → IsLeafFault grid places h → (f ≡ Memory → ⊥) → (h ≡ Memory → ⊥) → f ≡ h
one_fault grid places Memory h g p q m n = absurd (m refl)
one_fault grid places f Memory g p q m n = absurd (n refl)
one_fault grid places (Order at) (Order i) g p q m n = ap Order (IsFirst-one (BreaksOrder places) at i p q)
one_fault grid places (Order at) (Outside i) g p q m n = absurd (q.0 at p.here)
one_fault grid places (Order at) (Overlap i j) g p q m n = absurd (q.0 at p.here)
one_fault grid places (Order at) (Hole i) g p q m n = absurd (q.0 at p.here)
one_fault grid places (Order at) (Jump i j) g p q m n = absurd (q.0 at p.here)
one_fault grid places (Outside at) (Order i) g p q m n = absurd (p.0 i q.here)
one_fault grid places (Outside at) (Outside i) g p q m n = ap Outside (IsFirst-one (LiesOutside grid places) at i p.1 q.1)
one_fault grid places (Outside at) (Overlap i j) g p q m n = absurd (q.1 at p.1.here)
one_fault grid places (Outside at) (Hole i) g p q m n = absurd (q.1 at p.1.here)
one_fault grid places (Outside at) (Jump i j) g p q m n = absurd (q.1 at p.1.here)
one_fault grid places (Overlap a b) (Order i) g p q m n = absurd (p.0 i q.here)
one_fault grid places (Overlap a b) (Outside i) g p q m n = absurd (p.1 i q.1.here)
one_fault grid places (Overlap a b) (Overlap i j) g p q m n =
    let same = IsFirstPair-one (Overlaps places) a b i j p.2 q.2 in
    λ t. Overlap (same.0 t) (same.1 t)
one_fault grid places (Overlap a b) (Hole i) g p q m n = absurd (q.2 a b p.2.here)
one_fault grid places (Overlap a b) (Jump i j) g p q m n = absurd (q.2 a b p.2.here)
one_fault grid places (Hole at) (Order i) g p q m n = absurd (p.0 i q.here)
one_fault grid places (Hole at) (Outside i) g p q m n = absurd (p.1 i q.1.here)
one_fault grid places (Hole at) (Overlap i j) g p q m n = absurd (p.2 i j q.2.here)
one_fault grid places (Hole at) (Hole i) g p q m n = ap Hole (IsFirstBare-one grid places at i g p.3 q.3)
one_fault grid places (Hole at) (Jump i j) g p q m n = absurd (q.3 at p.3.here)
one_fault grid places (Jump a b) (Order i) g p q m n = absurd (p.0 i q.here)
one_fault grid places (Jump a b) (Outside i) g p q m n = absurd (p.1 i q.1.here)
one_fault grid places (Jump a b) (Overlap i j) g p q m n = absurd (p.2 i j q.2.here)
one_fault grid places (Jump a b) (Hole i) g p q m n = absurd (p.3 i q.3.here)
one_fault grid places (Jump a b) (Jump i j) g p q m n =
    let same = IsFirstPair-one (Jumps grid places) a b i j p.4 q.4 in
    λ t. Jump (same.0 t) (same.1 t)
