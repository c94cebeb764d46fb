-- Speeds of parameters: what flows along the axes is together at most what there is.
use Rattle.std.proofs.Common.{◌≡◌, ℕ, ◌+◌, ◌*◌, ◌%◌, ◌^◌, ◌≤◌, arith, ap, sym, ◌∙◌, nat_abs, le_trans}
use Rattle.std.proofs.lemmas.Nat.{mul-le}
use Rattle.std.proofs.Math.Nat.{pow-le-pow_right, mod-eq_of_lt}
use Rattle.grid_fluxes.specs.Axes.{Axis, along_x, along_y, along_z}
use Rattle.params_check.specs.Parameters.{IsParameters, Parameters, speed}
use Rattle.advect.specs.Flows.{velocity_along}
use Rattle.advect.specs.declared.share.Share.{Share}
use Rattle.advect.specs.Lemmas.Shares.{carried}
use Rattle.advect.proofs.Shares.{carried_within}

along-most : (p : Parameters) (a : Axis) → nat_abs (velocity_along p.velocity a) ≤ speed p
along-most p along_x = omega arith
along-most p along_y = omega arith
along-most p along_z = omega arith

module _ (p : Parameters) (k : IsParameters p) (level : ℕ) (h : level ≤ p.grid.finest) where
  speeds-most : speed p * 2 ^ level ≤ p.den
  speeds-most =
      let w : 2 ^ level ≤ 2 ^ p.grid.finest = pow-le-pow_right {n = 2} (omega arith) h in
      le_trans (mul-le (speed p) (2 ^ level) (speed p) (2 ^ p.grid.finest) (omega arith) w) k.courant

  pub along-den : (a : Axis) → nat_abs (velocity_along p.velocity a) * 2 ^ level ≤ p.den
  along-den a = le_trans (mul-le (nat_abs (velocity_along p.velocity a)) (2 ^ level) (speed p) (2 ^ level) (along-most p a) (omega arith)) speeds-most

  -- a product that is shifted into place doesn't wrap
  pub shifted : (a : Axis) (v : ℕ) → v ≡ nat_abs (velocity_along p.velocity a) → v * 2 ^ level % 4294967296 ≡ nat_abs (velocity_along p.velocity a) * 2 ^ level
  shifted a v e =
      let m = along-den a in
      let d = k.most_den in
      ap (λ v. v * 2 ^ level % 4294967296) e ∙ mod-eq_of_lt (omega (arith, m, d))

  pub held-by : (x y z : Share) → x.parts ≡ nat_abs (velocity_along p.velocity along_x) * 2 ^ level → y.parts ≡ nat_abs (velocity_along p.velocity along_y) * 2 ^ level →
      z.parts ≡ nat_abs (velocity_along p.velocity along_z) * 2 ^ level → x.den ≡ p.den → y.den ≡ p.den → z.den ≡ p.den → (q : ℕ) → carried x q + carried y q + carried z q ≤ q
  held-by x y z ex ey ez dx dy dz q =
      carried_within x y z q (dy ∙ sym dx) (dz ∙ sym dx)
      (let s = speeds-most in
      let e : speed p * 2 ^ level ≡ nat_abs (velocity_along p.velocity along_x) * 2 ^ level + nat_abs (velocity_along p.velocity along_y) * 2 ^ level + nat_abs (velocity_along p.velocity along_z) * 2 ^ level = omega arith in
      omega (arith, s, e, ex, ey, ez, dx))
