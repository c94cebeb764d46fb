-- Numbers of cells in runs of layers.
use Rattle.std.proofs.Common.{◌≡◌, ℕ, ◌+◌, ◌*◌, ◌/◌, ◌<◌, ◌≤◌, ◌⊎◌, inl, inr, Bool, true, false, cond, arith, ap, ◌∙◌, subst, refl}
use Rattle.std.proofs.lemmas.Bool.{cases_lt}
use Rattle.std.proofs.lemmas.Nat.{mul-le}
use Rattle.std.proofs.Math.Nat.{zero-div}
use Rattle.advect.specs.Lemmas.Passes.{cell, layer}

-- a layer lies in its run
pub layer-room : (n m r u : ℕ) → u < n → cell n m r u 0 + m ≤ cell n m (r + 1) 0 0
layer-room n m r u h = let a : (u + 1) * m ≤ n * m = mul-le (u + 1) m n m (omega arith) (omega arith) in omega arith

pub layer-after : (n m r u : ℕ) → cell n m r 0 0 ≤ cell n m r u 0
layer-after n m r u = omega arith

pub cell-in : (n m r u i : ℕ) → u < n → i < m → cell n m r u i < cell n m (r + 1) 0 0
cell-in n m r u i h k = let a = layer-room n m r u h in omega arith

-- a cell of another layer lies before or after a layer
pub other-layer : (n m r u w i : ℕ) → i < m → (w ≡ u → ⊥) → (cell n m r w i < cell n m r u 0) ⊎ (cell n m r u 0 + m ≤ cell n m r w i)
other-layer n m r u w i h d =
    elim (cases_lt w u) [
      | inl less ↦ inl (let a : (w + 1) * m ≤ u * m = mul-le (w + 1) m u m (omega arith) (omega arith) in omega arith)
      | inr more ↦ inr (let a : (u + 1) * m ≤ w * m = mul-le (u + 1) m w m (omega (arith, d)) (omega arith) in omega arith)
    ]

-- a pass comes to each layer once
pub layer-within : (up : Bool) (n v : ℕ) → v < n → layer up n v < n
layer-within true n v h = h
layer-within false n v h = omega arith

pub layer-once : (up : Bool) (n v w : ℕ) → v < n → w < n → (w ≡ v → ⊥) → layer up n w ≡ layer up n v → ⊥
layer-once true n v w h k d e = d e
layer-once false n v w h k d e = d (omega (arith, e))

-- the layer to which it comes after as many others as a layer's number in its order
pub layer-back : (up : Bool) (n u : ℕ) → u < n → layer up n (layer up n u) ≡ u
layer-back true n u h = refl
layer-back false n u h = omega arith

-- a share that is none where a test says so
pub share-unless : (b : Bool) (q parts den p d : ℕ) → p ≡ cond b 0 parts → d ≡ den → q * p / d ≡ cond b 0 (q * parts / den)
share-unless true q parts den p d e k = ap (λ u. q * u / d) e ∙ ap (λ u. u / d) (let z : q * 0 ≡ 0 = omega arith in z) ∙ zero-div d
share-unless false q parts den p d e k = ap (λ u. q * u / d) e ∙ ap (λ u. q * parts / u) k

pub unless_le : (b : Bool) (q t : ℕ) → q ≤ t → cond b 0 q ≤ t
unless_le true q t h = omega arith
unless_le false q t h = h

-- a run of single cells
pub one-cell : (p : ℕ → Type 0) (x : ℕ) → p x → (i : ℕ) → i < 1 → p (x * 1 + i)
one-cell p x h i k = subst p (let e : x ≡ x * 1 + i = omega arith in e) h

-- a cell of an earlier run lies before a run
pub earlier-run : (n m r s u i : ℕ) → r < s → u < n → i < m → cell n m r u i < cell n m s 0 0
earlier-run n m r s u i h k l =
    let a = cell-in n m r u i k l in
    let b : (r + 1) * n * m ≤ s * n * m = mul-le ((r + 1) * n) m (s * n) m (mul-le (r + 1) n s n (omega arith) (omega arith)) (omega arith) in
    omega arith
