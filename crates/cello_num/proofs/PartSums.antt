-- The eight parts of an amount add up to it.
use Rattle.std.proofs.Common.{◌≡◌, ℕ, zero, suc, ◌+◌, ◌%◌, ◌<◌, ◌≤◌, cond, nat_lt, refl, arith, inl, inr}
use Rattle.std.proofs.lemmas.Bool.{cases_Bool}
use Rattle.std.proofs.lemmas.Bool.Decides.{nat_tests}
use Rattle.cello_num.specs.Parts.{part}

-- of r units left over, fewer than eight, each goes to one part
left_over : (r : ℕ) → r < 8 → cond (nat_lt 0 r) 1 0 + cond (nat_lt 1 r) 1 0 + cond (nat_lt 2 r) 1 0 + cond (nat_lt 3 r) 1 0 + cond (nat_lt 4 r) 1 0 + cond (nat_lt 5 r) 1 0 + cond (nat_lt 6 r) 1 0 + cond (nat_lt 7 r) 1 0 ≡ r
left_over zero h = refl
left_over (suc zero) h = refl
left_over (suc (suc zero)) h = refl
left_over (suc (suc (suc zero))) h = refl
left_over (suc (suc (suc (suc zero)))) h = refl
left_over (suc (suc (suc (suc (suc zero))))) h = refl
left_over (suc (suc (suc (suc (suc (suc zero)))))) h = refl
left_over (suc (suc (suc (suc (suc (suc (suc zero))))))) h = refl
left_over (suc (suc (suc (suc (suc (suc (suc (suc r)))))))) h = absurd (omega arith)

pub parts_add : (q : ℕ) → part q 0 + part q 1 + part q 2 + part q 3 + part q 4 + part q 5 + part q 6 + part q 7 ≡ q
parts_add q = omega (arith, left_over (q % 8) (omega arith))

pub part-most : (q k : ℕ) → part q k ≤ q
part-most q k = elim (cases_Bool (nat_lt k (q % 8))) [ inl t ↦ grind (arith, nat_tests) | inr n ↦ grind (arith, nat_tests) ]

pub part-zero : (k : ℕ) → part 0 k ≡ 0
part-zero k = omega (arith, part-most 0 k)
