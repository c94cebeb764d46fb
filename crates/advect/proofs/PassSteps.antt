-- One layer more of a pass over a run.
use Rattle.std.proofs.Common.{◌≡◌, ℕ, ◌+◌, ◌-◌, ◌*◌, ◌<◌, ◌≤◌, inl, inr, Bool, true, false, ◌&&◌, ◌==◌, cond, List, slice_index, arith, ap, sym, ◌∙◌, subst, refl}
use Rattle.std.proofs.lemmas.Bool.{cases_lt}
use Rattle.std.proofs.lemmas.Bool.Decides.{nat_tests}
use Rattle.advect.specs.declared.share.Share.{Share}
use Rattle.advect.specs.declared.pass.Pass.{Pass}
use Rattle.advect.specs.Lemmas.Passes.{base, cell, comes, gives, layer, passed}
use Rattle.advect.specs.Lemmas.Shares.{carried}
use Rattle.advect.proofs.Cells.{other-layer, layer-once, share-unless}

-- what a pass takes from, where earlier passes left the same
pub base-same : (first : Bool) (a n0 next : List ℕ) (k : ℕ) → slice_index next k ≡ slice_index n0 k → base first a next k ≡ base first a n0 k
base-same true a n0 next k e = refl
base-same false a n0 next k e = e

module _ (pass : Pass) (share : Share) (n m r v u : ℕ) (a n0 f0 next next' : List ℕ) (came went : ℕ → ℕ)
    (is : u ≡ layer pass.up n v) (within : v < n)
    (parts : share.parts ≡ cond (pass.closed && (v + 1 == n)) 0 pass.share.parts) (den : share.den ≡ pass.share.den)
    (row : (i : ℕ) → i < m → slice_index next' ((r * n + u) * m + i) ≡ base pass.first a next ((r * n + u) * m + i) - carried share (slice_index a ((r * n + u) * m + i)) + came i)
    (leaves : (i : ℕ) → i < m → went i ≡ carried share (slice_index a ((r * n + u) * m + i)))
    (before : (k : ℕ) → k < (r * n + u) * m → slice_index next' k ≡ slice_index next k)
    (after : (k : ℕ) → (r * n + u) * m + m ≤ k → slice_index next' k ≡ slice_index next k)
    (moved : (w i : ℕ) → w < v → i < m → slice_index next (cell n m r (layer pass.up n w) i) ≡ passed pass n m r a n0 f0 w i)
    (ahead : (w i : ℕ) → v ≤ w → w < n → i < m → slice_index next (cell n m r (layer pass.up n w) i) ≡ slice_index n0 (cell n m r (layer pass.up n w) i))
    (carry : (i : ℕ) → i < m → came i ≡ comes pass n m r a f0 v i) where
  -- other layers stay
  others : (w i : ℕ) → w < n → i < m → (w ≡ v → ⊥) → slice_index next' (cell n m r (layer pass.up n w) i) ≡ slice_index next (cell n m r (layer pass.up n w) i)
  others w i h k d =
      elim (other-layer n m r u (layer pass.up n w) i k (λ e. layer-once pass.up n v w within h d (e ∙ is))) [
        | inl less ↦ before (cell n m r (layer pass.up n w) i) (omega arith)
        | inr more ↦ after (cell n m r (layer pass.up n w) i) (omega arith)
      ]

  given : (q : ℕ) → carried share q ≡ gives pass n v q
  given q = share-unless (pass.closed && (v + 1 == n)) q pass.share.parts pass.share.den share.parts share.den parts den

  here : (i : ℕ) → i < m → slice_index next' (cell n m r u i) ≡ passed pass n m r a n0 f0 v i
  here i k =
      let c = cell n m r u i in
      let b : base pass.first a next c ≡ base pass.first a n0 c =
      base-same pass.first a n0 next c (subst (λ t. slice_index next (cell n m r t i) ≡ slice_index n0 (cell n m r t i)) (sym is) (ahead v i (omega arith) within k)) in
      row i k
      ∙ ap (λ t. t - carried share (slice_index a c) + came i) b
      ∙ ap (λ t. base pass.first a n0 c - t + came i) (given (slice_index a c))
      ∙ ap (λ t. base pass.first a n0 c - gives pass n v (slice_index a c) + t) (carry i k)
      ∙ ap (λ t. base pass.first a n0 (cell n m r t i) - gives pass n v (slice_index a (cell n m r t i)) + comes pass n m r a f0 v i) is

  pub moved-more : (w i : ℕ) → w < v + 1 → i < m → slice_index next' (cell n m r (layer pass.up n w) i) ≡ passed pass n m r a n0 f0 w i
  moved-more w i h k =
      elim (cases_lt w v) [
        | inl less ↦ others w i (omega arith) k (λ e. omega (arith, e)) ∙ moved w i less k
        | inr more ↦
            let e : v ≡ w = omega arith in
            subst (λ t. slice_index next' (cell n m r (layer pass.up n t) i) ≡ passed pass n m r a n0 f0 t i) e
            (subst (λ t. slice_index next' (cell n m r t i) ≡ passed pass n m r a n0 f0 v i) is (here i k))
      ]

  pub ahead-less : (w i : ℕ) → v + 1 ≤ w → w < n → i < m → slice_index next' (cell n m r (layer pass.up n w) i) ≡ slice_index n0 (cell n m r (layer pass.up n w) i)
  ahead-less w i h l k = others w i l k (λ e. omega (arith, e)) ∙ ahead w i (omega arith) l k

  pub carry-more : (i : ℕ) → i < m → went i ≡ gives pass n v (slice_index a (cell n m r (layer pass.up n v) i))
  carry-more i k = leaves i k ∙ given (slice_index a (cell n m r u i)) ∙ ap (λ t. gives pass n v (slice_index a (cell n m r t i))) is

-- what comes into a later layer, and into the first
pub cond-later : (v x y : ℕ) → cond (v + 1 == 0) x y ≡ y
cond-later v x y = grind (arith, nat_tests)

pub comes-later : (pass : Pass) (n m r : ℕ) (a f0 : List ℕ) (v i : ℕ) → comes pass n m r a f0 (v + 1) i ≡ gives pass n v (slice_index a (cell n m r (layer pass.up n v) i))
comes-later pass n m r a f0 v i =
    let e : v + 1 - 1 ≡ v = omega arith in
    cond-later v (slice_index f0 (r * m + i)) (gives pass n (v + 1 - 1) (slice_index a (cell n m r (layer pass.up n (v + 1 - 1)) i)))
    ∙ ap (λ t. gives pass n t (slice_index a (cell n m r (layer pass.up n t) i))) e

-- nothing changes for a run where its own cells and faces are as before
pub passed-same : (pass : Pass) (n m r : ℕ) (a n0 f0 next fs : List ℕ) (v i : ℕ) →
    slice_index next (cell n m r (layer pass.up n v) i) ≡ slice_index n0 (cell n m r (layer pass.up n v) i) → slice_index fs (r * m + i) ≡ slice_index f0 (r * m + i) →
    passed pass n m r a next fs v i ≡ passed pass n m r a n0 f0 v i
passed-same pass n m r a n0 f0 next fs v i e k =
    let c = cell n m r (layer pass.up n v) i in
    ap (λ t. cond pass.first (slice_index a c) t - gives pass n v (slice_index a c) + comes pass n m r a fs v i) e
    ∙ ap (λ t. base pass.first a n0 c - gives pass n v (slice_index a c) + cond (v == 0) t (gives pass n (v - 1) (slice_index a (cell n m r (layer pass.up n (v - 1)) i)))) k
