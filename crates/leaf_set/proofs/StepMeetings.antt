-- A coarser place that meets a leaf covers, along an axis, the leaf's own place or the one beyond the end that the
-- leaf shares with its parent.
use Rattle.std.proofs.Common.{◌≡◌, ℕ, zero, suc, ◌+◌, ◌-◌, ◌*◌, ◌/◌, ◌%◌, ◌^◌, ◌<◌, ◌≤◌, Bool, refl, sym, ap, ◌∙◌, arith, inl, inr, subst, pow_pos, ℤ, pos, negsuc}
use Rattle.std.proofs.lemmas.Bool.{cases_eq}
use Rattle.std.proofs.lemmas.Int.{ints}
use Rattle.std.proofs.lemmas.Nat.{div-add-mod', mod_below, pow-add}
use Rattle.block_index.specs.Axes.{IsUnitStep, IsNext}
use Rattle.block_index.specs.Touching.{width, MeetsOnAxis}
use Rattle.block_index.proofs.Beyond.{at_steps}
use Rattle.block_index.proofs.Reaching.{within, Reached, Reached-MeetsOnAxis, MeetsOnAxis-over, unit_down, unit_none, unit_up}
use Rattle.leaf_set.specs.Lemmas.JumpSearch.{outward, corner_step}

-- ---- the steps

pub corner_step-none : (x k : ℕ) → k ≡ 0 → corner_step x k ≡ pos 0
corner_step-none x zero e = refl
corner_step-none x (suc k) e = absurd (omega arith)

pub corner_step-out : (x k r : ℕ) → k ≡ 1 → x % 2 ≡ r → corner_step x k ≡ outward r
corner_step-out x zero r e f = absurd (omega arith)
corner_step-out x (suc k) r e f = ap outward f

outward-unit : (r : ℕ) → IsUnitStep (outward r)
outward-unit zero = unit_down
outward-unit (suc r) = unit_up

pub corner_step-unit : (x k : ℕ) → IsUnitStep (corner_step x k)
corner_step-unit x zero = unit_none
corner_step-unit x (suc k) = outward-unit (x % 2)

-- ---- in places of the leaf's level: the coarser place is d wide

-- the place at x, or the one beyond, lies in the place at y
pub record StepsInto (n : ℕ) (wraps : Bool) (x y d : ℕ) : Type 0 where
  pub k : ℕ
  pub u : ℕ
  pub two : k < 2
  pub step : IsNext n wraps (corner_step x k) x u
  pub over : u / d ≡ y

StepsInto-Reached : (n : ℕ) (wraps : Bool) (x y d e m : ℕ) → d ≡ 2 * e → n ≡ 2 * m → x < n → 0 < d → Reached n wraps x y d → StepsInto n wraps x y d
StepsInto-Reached n wraps x y d e m p r h o t =
    at_steps (λ s. IsNext n wraps s x t.q → StepsInto n wraps x y d) down stay up t.s t.unit t.next
  where
    even : y * d ≡ 2 * (y * e)
    even = omega (arith, ap (λ w. y * w) p)

    low : y * d ≤ t.q
    low = let f : y * d + t.q % d ≡ t.q = subst (λ w. w * d + t.q % d ≡ t.q) t.over (div-add-mod' t.q d) in omega arith

    high : t.q < y * d + d
    high =
        let f : y * d + t.q % d ≡ t.q = subst (λ w. w * d + t.q % d ≡ t.q) t.over (div-add-mod' t.q d) in
        let l : t.q % d < d = mod_below t.q d o in
        omega arith

    stay : IsNext n wraps (pos 0) x t.q → StepsInto n wraps x y d
    stay k = record { k = 0; u = t.q; two = omega arith; step = k; over = t.over }

    out : (s : ℤ) (r : ℕ) → x % 2 ≡ r → outward r ≡ s → IsNext n wraps s x t.q → StepsInto n wraps x y d
    out s r f g k = record {
      k = 1;
      u = t.q;
      two = omega arith;
      step = subst (λ v. IsNext n wraps v x t.q) (sym (corner_step-out x 1 r refl f ∙ g)) k;
      over = t.over;
    }

    here : y * d ≤ x → x < y * d + d → StepsInto n wraps x y d
    here from upto = record { k = 0; u = x; two = omega arith; step = record { inside = h; at = inl (omega (arith, ints)) }; over = within x y d from upto }

    down : IsNext n wraps (negsuc 0) x t.q → StepsInto n wraps x y d
    down k =
        let i = k.inside in
        elim (cases_eq (x % 2) 0) [
          | inl f ↦ out (negsuc 0) 0 f refl k
          | inr odd ↦
              let near : t.q + 1 ≡ x = elim k.at [
                | inl u ↦ omega (arith, ints)
                | inr w ↦ elim (w.1) [ inl u ↦ absurd (omega (arith, ints)) | inr u ↦ absurd (omega (arith, ints)) ]
              ] in
              here (omega (arith, low)) (omega (arith, high, even))
        ]

    up : IsNext n wraps (pos 1) x t.q → StepsInto n wraps x y d
    up k =
        let i = k.inside in
        elim (cases_eq (x % 2) 0) [
          | inr odd ↦ out (pos 1) 1 (omega arith) refl k
          | inl f ↦
              let near : t.q ≡ x + 1 = elim k.at [
                | inl u ↦ omega (arith, ints)
                | inr w ↦ elim (w.1) [ inl u ↦ absurd (omega (arith, ints)) | inr u ↦ absurd (omega (arith, ints)) ]
              ] in
              here (omega (arith, low, even)) (omega (arith, high))
        ]

-- ---- a leaf of level l, and a coarser place of level m

twice : (i : ℕ) → 1 ≤ i → 2 ^ i ≡ 2 * 2 ^ (i - 1)
twice i h = ap (λ k. 2 ^ k) (let e : i ≡ 1 + (i - 1) = omega arith in e) ∙ pow-add 2 1 (i - 1)

module _ (trees : ℕ) (wraps : Bool) (l m x y : ℕ) (low : l ≤ 6) (o : m < l) where
  pub StepsInto-MeetsOnAxis : x < trees * 2 ^ l → y < trees * 2 ^ m → MeetsOnAxis trees wraps (x * width l) (width l) (y * width m) (width m) → StepsInto (trees * 2 ^ l) wraps x y (2 ^ (l - m))
  StepsInto-MeetsOnAxis h k t =
      let n : m ≤ l = omega arith in
      let even : trees * 2 ^ l ≡ 2 * (trees * 2 ^ (l - 1)) = omega (arith, ap (λ q. trees * q) (twice l (omega arith))) in
      StepsInto-Reached (trees * 2 ^ l) wraps x y (2 ^ (l - m)) (2 ^ (l - m - 1)) (trees * 2 ^ (l - 1)) (twice (l - m) (omega arith)) even h (pow_pos (l - m))
      (Reached-MeetsOnAxis trees wraps l m x y low n h k t)

  pub MeetsOnAxis-corner_step : (k u : ℕ) → x < trees * 2 ^ l → IsNext (trees * 2 ^ l) wraps (corner_step x k) x u → u / 2 ^ (l - m) ≡ y → MeetsOnAxis trees wraps (x * width l) (width l) (y * width m) (width m)
  MeetsOnAxis-corner_step k u h s e =
      let n : m ≤ l = omega arith in
      MeetsOnAxis-over trees wraps l m x y low n (corner_step x k) u (corner_step-unit x k) h s e
