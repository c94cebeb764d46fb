-- The first jump of a mesh: the earliest pair of a leaf and one that touches it from more than one level up.
use Rattle.std.proofs.Common.{◌≡◌, ℕ, ◌+◌, ◌<◌, ◌≤◌, ◌⊎◌, min, max, List, Option, None, Some, IsNone, IfSome, IsSomeAnd, length, slice_get, true≢false, refl, sym, ap, ◌∙◌, subst, arith, inl, inr}
use Rattle.std.proofs.lemmas.Bool.{cases_lt, cases_order}
use Rattle.std.proofs.lemmas.Option.{same_Some, slice_get_within}
use Rattle.block_index.specs.Places.{Cube, Grid}
use Rattle.leaf_set.specs.Meshes.{IsBalanced}
use Rattle.leaf_set.specs.LeafFaults.{IsFirstPair, Jumps}
use Rattle.leaf_set.specs.Lemmas.JumpSearch.{IsFarAbove, IsUpTo}
use Rattle.leaf_set.proofs.Boxes.{Touches-sym}

-- ---- jumps and their finer leaves

-- a leaf and one that touches it from far above are a jump, whichever stands first
pub Jumps-IsFarAbove : (grid : Grid) (mesh : List Cube) (i j : ℕ) → IsFarAbove grid mesh i j → Jumps grid mesh (min i j) (max i j)
Jumps-IsFarAbove grid mesh i j h =
    elim (cases_order i j) [
      | inl e ↦
          let same : h.finer ≡ h.coarser = same_Some h.finer h.coarser (sym h.is_finer ∙ ap (slice_get mesh) e ∙ h.is_coarser) in
          let l : h.finer.level ≡ h.coarser.level = ap (λ (q : Cube). q.level) same in
          absurd (omega (arith, h.far))
      | inr r ↦
          elim r [
            | inl less ↦
                let first : i ≡ min i j = omega arith in
                let second : j ≡ max i j = omega arith in
                record {
                  first = h.finer;
                  second = h.coarser;
                  later = omega arith;
                  is_first = subst (λ k. slice_get mesh k ≡ Some h.finer) first h.is_finer;
                  is_second = subst (λ k. slice_get mesh k ≡ Some h.coarser) second h.is_coarser;
                  touch = h.touch;
                  apart = inr h.far;
                }
            | inr more ↦
                let first : j ≡ min i j = omega arith in
                let second : i ≡ max i j = omega arith in
                record {
                  first = h.coarser;
                  second = h.finer;
                  later = omega arith;
                  is_first = subst (λ k. slice_get mesh k ≡ Some h.coarser) first h.is_coarser;
                  is_second = subst (λ k. slice_get mesh k ≡ Some h.finer) second h.is_finer;
                  touch = Touches-sym grid h.finer h.coarser h.touch;
                  apart = inl h.far;
                }
          ]
    ]

-- of a jump one leaf touches the other from far above
IsFarAbove-Jumps : (grid : Grid) (mesh : List Cube) (a b : ℕ) → Jumps grid mesh a b → IsFarAbove grid mesh a b ⊎ IsFarAbove grid mesh b a
IsFarAbove-Jumps grid mesh a b h =
    elim h.apart [
      | inl rises ↦
          inr
          (record {
            finer = h.second;
            coarser = h.first;
            is_finer = h.is_second;
            is_coarser = h.is_first;
            touch = Touches-sym grid h.first h.second h.touch;
            far = rises;
          })
      | inr falls ↦
          inl (record { finer = h.first; coarser = h.second; is_finer = h.is_first; is_coarser = h.is_second; touch = h.touch; far = falls })
    ]

-- ---- the earliest so far

-- r is the earliest jump of which the finer leaf is one of the first n
pub record IsFirstJump (grid : Grid) (mesh : List Cube) (n : ℕ) (r : Option (ℕ × ℕ)) : Type 0 where
  pub found : IfSome r (λ p. Jumps grid mesh p.0 p.1)
  pub first : (i j : ℕ) → i < n → IsFarAbove grid mesh i j → IsSomeAnd r (λ p. IsUpTo p.0 p.1 (min i j) (max i j))

pub IsFirstJump-none : (grid : Grid) (mesh : List Cube) → IsFirstJump grid mesh 0 None
IsFirstJump-none grid mesh = record { found = tt; first = λ i j h. absurd (omega arith) }

pub IsFirstJump-skip : (grid : Grid) (mesh : List Cube) (n : ℕ) (r : Option (ℕ × ℕ)) → IsFirstJump grid mesh n r
    → ((j : ℕ) → IsFarAbove grid mesh n j → ⊥) → IsFirstJump grid mesh (n + 1) r
IsFirstJump-skip grid mesh n r f none = record {
  found = f.found;
  first = λ i j h v.
      elim (cases_lt i n) [
        | inl less ↦ f.first i j less v
        | inr more ↦ absurd (none j (subst (λ k. IsFarAbove grid mesh k j) (let e : i ≡ n = omega arith in e) v))
      ];
}

IsUpTo-trans : (a b c d e f : ℕ) → IsUpTo a b c d → IsUpTo c d e f → IsUpTo a b e f
IsUpTo-trans a b c d e f (inl h) (inl k) = inl (omega arith)
IsUpTo-trans a b c d e f (inl h) (inr k) = inl (omega (arith, k.0))
IsUpTo-trans a b c d e f (inr h) (inl k) = inl (omega (arith, h.0))
IsUpTo-trans a b c d e f (inr h) (inr k) = inr (omega (arith, h.0, k.0), omega (arith, h.1, k.1))

-- pairs with one number in common stand in the order of the other
IsUpTo-pair : (n j k : ℕ) → j ≤ k → IsUpTo (min n j) (max n j) (min n k) (max n k)
IsUpTo-pair n j k h =
    elim (cases_lt (min n j) (min n k)) [
      | inl less ↦ inl less
      | inr more ↦ inr (omega arith, omega arith)
    ]

up_to_old : (r : Option (ℕ × ℕ)) (a b c d : ℕ) → IfSome r (λ p. IsUpTo a b p.0 p.1) → IsSomeAnd r (λ p. IsUpTo p.0 p.1 c d) → IsUpTo a b c d
up_to_old None a b c d h k = absurd k
up_to_old (Some p) a b c d h k = IsUpTo-trans a b p.0 p.1 c d h k

found_one : (P : ℕ → ℕ → Type 0) (r : Option (ℕ × ℕ)) (b q : ℕ × ℕ) → IfSome r (λ p. P p.0 p.1) → P b.0 b.1 → (r ≡ Some q) ⊎ (q ≡ b) → P q.0 q.1
found_one P r b q f h (inl e) = subst (λ o. IfSome o (λ p. P p.0 p.1)) e f
found_one P r b q f h (inr e) = subst (λ (p : ℕ × ℕ). P p.0 p.1) (sym e) h

pub IsFirstJump-take : (grid : Grid) (mesh : List Cube) (n : ℕ) (r : Option (ℕ × ℕ)) (j : ℕ) (b q : ℕ × ℕ) → IsFirstJump grid mesh n r
    → IsFarAbove grid mesh n j → ((o : ℕ) → IsFarAbove grid mesh n o → j ≤ o) → b.0 ≡ min n j → b.1 ≡ max n j
    → (r ≡ Some q) ⊎ (q ≡ b) → IfSome r (λ p. IsUpTo q.0 q.1 p.0 p.1) → IsUpTo q.0 q.1 b.0 b.1 → IsFirstJump grid mesh (n + 1) (Some q)
IsFirstJump-take grid mesh n r j b q f h least lesser greater either old new = record {
  found = found_one (Jumps grid mesh) r b q f.found here either;
  first = λ i o l v.
      elim (cases_lt i n) [
        | inl less ↦ up_to_old r q.0 q.1 (min i o) (max i o) old (f.first i o less v)
        | inr more ↦
            let e : n ≡ i = omega arith in
            let w : IsFarAbove grid mesh n o = subst (λ k. IsFarAbove grid mesh k o) (sym e) v in
            subst (λ k. IsUpTo q.0 q.1 (min k o) (max k o)) e (IsUpTo-trans q.0 q.1 (min n j) (max n j) (min n o) (max n o) new_is (IsUpTo-pair n j o (least o w)))
      ];
}
  where
    here : Jumps grid mesh b.0 b.1
    here =
        subst (λ k. Jumps grid mesh b.0 k) (sym greater) (subst (λ k. Jumps grid mesh k (max n j)) (sym lesser) (Jumps-IsFarAbove grid mesh n j h))

    new_is : IsUpTo q.0 q.1 (min n j) (max n j)
    new_is = subst (λ k. IsUpTo q.0 q.1 (min n j) k) greater (subst (λ k. IsUpTo q.0 q.1 k b.1) lesser new)

-- ---- the first of all

module _ (grid : Grid) (mesh : List Cube) (n : ℕ) (all : length mesh ≤ n) where
  -- no jump stands before the earliest
  up_to_jump : (r : Option (ℕ × ℕ)) → IsFirstJump grid mesh n r → (a b : ℕ) → Jumps grid mesh a b → IsSomeAnd r (λ p. IsUpTo p.0 p.1 a b)
  up_to_jump r f a b h =
      let la : a < n = omega (arith, slice_get_within mesh a h.first h.is_first) in
      let lb : b < n = omega (arith, slice_get_within mesh b h.second h.is_second) in
      let l = h.later in
      elim (IsFarAbove-Jumps grid mesh a b h) [
        | inl v ↦
            let lesser : min a b ≡ a = omega arith in
            let greater : max a b ≡ b = omega arith in
            subst (λ k. IsSomeAnd r (λ p. IsUpTo p.0 p.1 a k)) greater (subst (λ k. IsSomeAnd r (λ p. IsUpTo p.0 p.1 k (max a b))) lesser (f.first a b la v))
        | inr v ↦
            let lesser : min b a ≡ a = omega arith in
            let greater : max b a ≡ b = omega arith in
            subst (λ k. IsSomeAnd r (λ p. IsUpTo p.0 p.1 a k)) greater (subst (λ k. IsSomeAnd r (λ p. IsUpTo p.0 p.1 k (max b a))) lesser (f.first b a lb v))
      ]

  before_first : (a b c d : ℕ) → IsUpTo a b c d → (c < a) ⊎ ((c ≡ a) × (d < b)) → ⊥
  before_first a b c d (inl h) (inl k) = omega arith
  before_first a b c d (inl h) (inr k) = omega (arith, k.0)
  before_first a b c d (inr h) (inl k) = omega (arith, h.0)
  before_first a b c d (inr h) (inr k) = omega (arith, h.1, k.1)

  pub IsFirstPair-IsFirstJump : (r : Option (ℕ × ℕ)) → IsFirstJump grid mesh n r → IfSome r (λ p. IsFirstPair (Jumps grid mesh) p.0 p.1)
  IsFirstPair-IsFirstJump None f = tt
  IsFirstPair-IsFirstJump (Some p) f = record {
    here = f.found;
    none_of_lesser = λ i j h v. before_first p.0 p.1 i j (up_to_jump (Some p) f i j v) (inl h);
    none_before = λ j h v. before_first p.0 p.1 p.0 j (up_to_jump (Some p) f p.0 j v) (inr (refl, h));
  }

  pub IsBalanced-IsFirstJump : (r : Option (ℕ × ℕ)) → IsFirstJump grid mesh n r → IsNone r → IsBalanced grid mesh
  IsBalanced-IsFirstJump (Some p) f none i j a c s t touch = absurd (true≢false none)
  IsBalanced-IsFirstJump None f none i j a c s t touch =
      elim (cases_lt (c.level + 1) a.level) [
        | inl falls ↦
            let within : i < n = omega (arith, slice_get_within mesh i a s) in
            absurd (f.first i j within (record { finer = a; coarser = c; is_finer = s; is_coarser = t; touch = touch; far = falls }))
        | inr near ↦ near
      ]
