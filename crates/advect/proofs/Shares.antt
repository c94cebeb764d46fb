-- A share is at most the whole.
use Rattle.std.proofs.Common.{◌≡◌, ℕ, ◌+◌, ◌*◌, ◌/◌, ◌<◌, ◌≤◌, arith, sym, subst, inl, inr}
use Rattle.std.proofs.lemmas.Bool.{cases_lt}
use Rattle.std.proofs.lemmas.Nat.{mul-le}
use Rattle.std.proofs.Math.Nat.{div-le_of_le-mul, div-mul-le_self}
use Rattle.advect.specs.declared.share.Share.{Share}
use Rattle.advect.specs.Lemmas.Shares.{carried}

pub carried_le : (s : Share) (q : ℕ) → carried s q ≤ q
carried_le s q =
    let h : q * s.parts ≤ q * s.den = mul-le q s.parts q s.den (omega arith) s.small in
    div-le_of_le-mul s.den (omega arith)

-- shares that are together at most the whole carry together at most the amount
pub carried_within : (x y z : Share) (q : ℕ) → y.den ≡ x.den → z.den ≡ x.den → x.parts + y.parts + z.parts ≤ x.den → carried x q + carried y q + carried z q ≤ q
carried_within x y z q ey ez small =
    let d = x.den in
    let some = x.some in
    let a = div-mul-le_self (q * x.parts) d in
    let b : q * y.parts / d * d ≤ q * y.parts = div-mul-le_self (q * y.parts) d in
    let c : q * z.parts / d * d ≤ q * z.parts = div-mul-le_self (q * z.parts) d in
    let h : q * (x.parts + y.parts + z.parts) ≤ q * d = mul-le q (x.parts + y.parts + z.parts) q d (omega arith) small in
    let t : q * x.parts / d + q * y.parts / d + q * z.parts / d ≤ q = within (q * x.parts / d + q * y.parts / d + q * z.parts / d) q d some (omega arith) in
    subst (λ u. q * x.parts / d + q * y.parts / u + q * z.parts / z.den ≤ q) (sym ey) (subst (λ u. q * x.parts / d + q * y.parts / d + q * z.parts / u ≤ q) (sym ez) t)
  where
    within : (s q d : ℕ) → 0 < d → s * d ≤ q * d → s ≤ q
    within s q d some h =
        elim (cases_lt q s) [
          | inl more ↦ let t : (q + 1) * d ≤ s * d = mul-le (q + 1) d s d (omega arith) (omega arith) in omega arith
          | inr fine ↦ fine
        ]
