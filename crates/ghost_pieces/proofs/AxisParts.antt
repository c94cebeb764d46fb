-- Along an axis, the stretch of local coordinates that is moved into a block.
use Rattle.std.proofs.Common.{◌≡◌, ℕ, ◌+◌, ◌-◌, ◌*◌, ◌/◌, ◌<◌, ◌≤◌, ◌⊎◌, inl, inr, Bool, false, cond, nat_lt, ◌==◌, sym, ap, ◌∙◌, subst, arith, ℤ, pos, negsuc, ◌-ℤ◌}
use Rattle.std.proofs.lemmas.Bool.{cases_lt, cases_eq, cond-true, cond-false, eq-eqb, ne_eqb, lt-ltb, false_from_ne_true, ltb-true}
use Rattle.std.proofs.lemmas.Int.{ints}
use Rattle.std.proofs.lemmas.Nat.{div-mul-add, div-add-mod', mod_below}
use Rattle.std.proofs.Math.Nat.{div-div-eq-div-mul}
use Rattle.block_index.specs.Axes.{IsUnitStep}
use Rattle.block_index.proofs.Beyond.{at_steps}
use Rattle.block_fields.specs.Samples.{moved}
use Rattle.ghost_pieces.specs.Boxes.{Stretch, IsWithin, stretch_of, reached_part}
use Rattle.ghost_pieces.specs.Ghosts.{step_of}
use Rattle.ghost_pieces.proofs.AxisCells.{low, high, middle}

-- ---- the step of a coordinate

not_lt_false : (a b : ℕ) → b ≤ a → nat_lt a b ≡ false
not_lt_false a b h = false_from_ne_true (nat_lt a b) (λ t. let l = ltb-true a b t in omega arith)

pub step-low : (n d g : ℕ) → g < d → step_of n d g ≡ negsuc 0
step-low n d g h = cond-true (nat_lt g d) (negsuc 0) (cond (nat_lt g (n + d)) (pos 0) (pos 1)) (lt-ltb g d h)

pub step-middle : (n d g : ℕ) → d ≤ g → g < n + d → step_of n d g ≡ pos 0
step-middle n d g h k =
    cond-false (nat_lt g d) (negsuc 0) (cond (nat_lt g (n + d)) (pos 0) (pos 1)) (not_lt_false g d h)
    ∙ cond-true (nat_lt g (n + d)) (pos 0) (pos 1) (lt-ltb g (n + d) k)

pub step-high : (n d g : ℕ) → n + d ≤ g → step_of n d g ≡ pos 1
step-high n d g h =
    cond-false (nat_lt g d) (negsuc 0) (cond (nat_lt g (n + d)) (pos 0) (pos 1)) (not_lt_false g d (omega arith))
    ∙ cond-false (nat_lt g (n + d)) (pos 0) (pos 1) (not_lt_false g (n + d) h)

pub is_step_of : (n d g : ℕ) → IsUnitStep (step_of n d g)
is_step_of n d g =
    elim (cases_lt g d) [
      | inl few ↦ subst IsUnitStep (sym (step-low n d g few)) (record { least = omega (arith, ints); most = omega (arith, ints) })
      | inr up ↦
          elim (cases_lt g (n + d)) [
            | inl mid ↦ subst IsUnitStep (sym (step-middle n d g up mid)) (record { least = omega (arith, ints); most = omega (arith, ints) })
            | inr most ↦ subst IsUnitStep (sym (step-high n d g most)) (record { least = omega (arith, ints); most = omega (arith, ints) })
          ]
    ]

-- a coordinate lies in the stretch of its step
pub within_own : (n d g : ℕ) → g < n + 2 * d → IsWithin (stretch_of n d (step_of n d g)) g
within_own n d g h =
    elim (cases_lt g d) [
      | inl few ↦ subst (λ s. IsWithin (stretch_of n d s) g) (sym (step-low n d g few)) (record { from = omega arith; below = omega arith })
      | inr up ↦
          elim (cases_lt g (n + d)) [
            | inl mid ↦ subst (λ s. IsWithin (stretch_of n d s) g) (sym (step-middle n d g up mid)) (record { from = omega arith; below = omega arith })
            | inr most ↦ subst (λ s. IsWithin (stretch_of n d s) g) (sym (step-high n d g most)) (record { from = omega arith; below = omega arith })
          ]
    ]

-- and in no other
pub own_step : (n d g : ℕ) (s : ℤ) → IsUnitStep s → IsWithin (stretch_of n d s) g → step_of n d g ≡ s
own_step n d g s h =
    at_steps (λ s. IsWithin (stretch_of n d s) g → step_of n d g ≡ s) (λ w. step-low n d g (omega (arith, w.below)))
    (λ w. step-middle n d g w.from (omega (arith, w.below)))
    (λ w. step-high n d g w.from)
    s h

-- ---- quotients

quotient : (v c b : ℕ) → b * c ≤ v → v < b * c + c → v / c ≡ b
quotient v c b h k = ap (λ u. u / c) (let e : v ≡ b * c + (v - b * c) = omega arith in e) ∙ div-mul-add b c (v - b * c) (omega arith)

bounds : (v c b : ℕ) → 0 < c → v / c ≡ b → (b * c ≤ v) × (v < b * c + c)
bounds v c b some e =
    let s = div-add-mod' v c in
    let r = mod_below v c some in
    let f = ap (λ u. u * c) e in
    (omega arith, omega arith)

-- what lies in one half block lies in one block of k halves
pub in_halves : (u v h k : ℕ) → u / h ≡ v / h → u / (h * k) ≡ v / (h * k)
in_halves u v h k e = sym (div-div-eq-div-mul u h k) ∙ ap (λ q. q / k) e ∙ div-div-eq-div-mul v h k

module _ (h d t a : ℕ) (inside_axis : a < t) (deep : d ≤ h) (some : 0 < h) (w : Bool) where
  abbrev to : ℕ → ℕ
  to g = moved w (t * (2 * h)) (pos (a * (2 * h) + g) -ℤ pos d)

  -- all of an outer stretch is moved into one half block
  pub one_half_low : (g : ℕ) → g < d → to g / h ≡ to 0 / h
  one_half_low g k =
      elim (low (2 * h) d t a inside_axis (omega arith) w) [
        | inl b ↦ part b.0 b.2 g k ∙ sym (part b.0 b.2 0 (omega arith))
        | inr b ↦ ap (λ u. u / h) (b.2 g k ∙ sym (b.2 0 (omega arith)))
      ]
    where
      part : (p : ℕ) → ((g : ℕ) → g < d → to g ≡ p * (2 * h) + (2 * h + g - d)) → (g : ℕ) → g < d → to g / h ≡ 2 * p + 1
      part p b g k =
          ap (λ u. u / h) (b g k ∙ (let e : p * (2 * h) + (2 * h + g - d) ≡ (2 * p + 1) * h + (h + g - d) = omega arith in e))
          ∙ div-mul-add (2 * p + 1) h (h + g - d) (omega arith)

  pub one_half_high : (g : ℕ) → 2 * h + d ≤ g → g < 2 * h + 2 * d → to g / h ≡ to (2 * h + d) / h
  one_half_high g l k =
      elim (high (2 * h) d t a inside_axis (omega arith) w) [
        | inl b ↦ part b.0 b.2 g l k ∙ sym (part b.0 b.2 (2 * h + d) (omega arith) (omega arith))
        | inr b ↦ ap (λ u. u / h) (b.2 g l k ∙ sym (b.2 (2 * h + d) (omega arith) (omega arith)))
      ]
    where
      part : (p : ℕ) → ((g : ℕ) → 2 * h + d ≤ g → g < 2 * h + 2 * d → to g ≡ p * (2 * h) + (g - 2 * h - d)) → (g : ℕ) → 2 * h + d ≤ g → g < 2 * h + 2 * d → to g / h ≡ 2 * p
      part p b g l k =
          ap (λ u. u / h) (b g l k ∙ (let e : p * (2 * h) + (g - 2 * h - d) ≡ 2 * p * h + (g - 2 * h - d) = omega arith in e))
          ∙ div-mul-add (2 * p) h (g - 2 * h - d) (omega arith)

  -- ---- the part that is moved into the block b of k halves

  module _ (k b : ℕ) (more : 0 < h * k) where
    abbrev Part : ℤ → Stretch
    Part s = reached_part (2 * h) d t w a (h * k) b s

    into_middle : (g : ℕ) → d ≤ g → g < 2 * h + d → to g / (h * k) ≡ b → IsWithin (Part (pos 0)) g
    into_middle g l m e =
        let v = middle (2 * h) d t a inside_axis (omega arith) w g l m in
        let f = bounds (to g) (h * k) b more e in
        record { from = omega (arith, f.0, f.1); below = omega (arith, f.0, f.1) }

    from_middle : (g : ℕ) → IsWithin (Part (pos 0)) g → (d ≤ g) × (g < 2 * h + d) × (to g / (h * k) ≡ b)
    from_middle g p =
        let l : d ≤ g = omega (arith, p.from) in
        let m : g < 2 * h + d = omega (arith, p.below) in
        let v = middle (2 * h) d t a inside_axis (omega arith) w g l m in
        (l, m, quotient (to g) (h * k) b (omega (arith, p.from, p.below)) (omega (arith, p.from, p.below)))

    all_or_none : (q x : ℕ) → (q ≡ b → ⊥) ⊎ (q ≡ b) → 0 < cond (q == b) x 0 → (q ≡ b) × (cond (q == b) x 0 ≡ x)
    all_or_none q x (inl n) h = absurd (omega (arith, cond-false (q == b) x 0 (ne_eqb q b n)))
    all_or_none q x (inr e) h = (e, cond-true (q == b) x 0 (eq-eqb q b e))

    equal_or : (q : ℕ) → (q ≡ b → ⊥) ⊎ (q ≡ b)
    equal_or q = elim (cases_eq q b) [ inl e ↦ inr e | inr n ↦ inl n ]

    into_low : (g : ℕ) → g < d → to g / (h * k) ≡ b → IsWithin (Part (negsuc 0)) g
    into_low g l e =
        let f : to 0 / (h * k) ≡ b = sym (in_halves (to g) (to 0) h k (one_half_low g l)) ∙ e in
        record { from = omega arith; below = omega (arith, cond-true (to 0 / (h * k) == b) d 0 (eq-eqb (to 0 / (h * k)) b f)) }

    from_low : (g : ℕ) → IsWithin (Part (negsuc 0)) g → (g < d) × (to g / (h * k) ≡ b)
    from_low g p =
        let o = all_or_none (to 0 / (h * k)) d (equal_or (to 0 / (h * k))) (omega (arith, p.below)) in
        let l : g < d = omega (arith, p.below, o.1) in
        (l, in_halves (to g) (to 0) h k (one_half_low g l) ∙ o.0)

    into_high : (g : ℕ) → 2 * h + d ≤ g → g < 2 * h + 2 * d → to g / (h * k) ≡ b → IsWithin (Part (pos 1)) g
    into_high g l m e =
        let q = to (2 * h + d) / (h * k) in
        let f : q ≡ b = sym (in_halves (to g) (to (2 * h + d)) h k (one_half_high g l m)) ∙ e in
        record { from = l; below = omega (arith, cond-true (q == b) d 0 (eq-eqb q b f)) }

    from_high : (g : ℕ) → IsWithin (Part (pos 1)) g → (2 * h + d ≤ g) × (g < 2 * h + 2 * d) × (to g / (h * k) ≡ b)
    from_high g p =
        let q = to (2 * h + d) / (h * k) in
        let o = all_or_none q d (equal_or q) (omega (arith, p.from, p.below)) in
        let m : g < 2 * h + 2 * d = omega (arith, p.below, o.1) in
        (p.from, m, in_halves (to g) (to (2 * h + d)) h k (one_half_high g p.from m) ∙ o.0)

    -- the part is what lies in the stretch of the step and is moved into the block
    pub into_part : (g : ℕ) (s : ℤ) → IsUnitStep s → IsWithin (stretch_of (2 * h) d s) g → to g / (h * k) ≡ b → IsWithin (Part s) g
    into_part g s i =
        at_steps (λ s. IsWithin (stretch_of (2 * h) d s) g → to g / (h * k) ≡ b → IsWithin (Part s) g)
        (λ p e. into_low g (omega (arith, p.below)) e)
        (λ p e. into_middle g p.from (omega (arith, p.below)) e)
        (λ p e. into_high g p.from (omega (arith, p.below)) e)
        s i

    pub from_part : (g : ℕ) (s : ℤ) → IsUnitStep s → IsWithin (Part s) g → IsWithin (stretch_of (2 * h) d s) g × (to g / (h * k) ≡ b)
    from_part g s i =
        at_steps (λ s. IsWithin (Part s) g → IsWithin (stretch_of (2 * h) d s) g × (to g / (h * k) ≡ b))
        (λ p. let o = from_low g p in (record { from = omega arith; below = omega (arith, o.0) }, o.1))
        (λ p. let o = from_middle g p in (record { from = o.0; below = omega (arith, o.1) }, o.2))
        (λ p. let o = from_high g p in (record { from = o.0; below = omega (arith, o.1) }, o.2))
        s i

-- no step is of the middle
pub step_none : (n d g : ℕ) → step_of n d g ≡ pos 0 → (d ≤ g) × (g < n + d)
step_none n d g e =
    elim (cases_lt g d) [
      | inl few ↦ absurd (let f = sym (step-low n d g few) ∙ e in cc)
      | inr up ↦
          elim (cases_lt g (n + d)) [
            | inl mid ↦ (up, mid)
            | inr most ↦ absurd (let f = sym (step-high n d g most) ∙ e in omega (arith, ints))
          ]
    ]
