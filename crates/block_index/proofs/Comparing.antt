-- `nat_cmp` of numbers of several digits goes digit by digit.
use Rattle.std.proofs.Common.{◌≡◌, ℕ, ◌+◌, ◌*◌, ◌<◌, ◌≤◌, arith, sym, ap, refl, ◌∙◌, inl, inr}
use Rattle.std.proofs.Math.Nat.{mul-le-mul_right, add-mul}
use Rattle.std.proofs.lemmas.Bool.{cases_order}
use Rattle.std.specs.Cmp.{nat_cmp_is}
use Rattle.std.specs.Ordering.{nat_cmp, ordering_then}
use Rattle.std.specs.declared.cmp.Ordering.{Ordering}
use Rattle.std.specs.declared.cmp.Ordering.TheVariants.{Less, Equal, Greater}

pub nat_cmp-less : (x y : ℕ) → x < y → nat_cmp x y ≡ Less
nat_cmp-less x y h = sym (nat_cmp_is x y Less h)

pub nat_cmp-equal : (x y : ℕ) → x ≡ y → nat_cmp x y ≡ Equal
nat_cmp-equal x y h = sym (nat_cmp_is x y Equal h)

pub nat_cmp-greater : (x y : ℕ) → y < x → nat_cmp x y ≡ Greater
nat_cmp-greater x y h = sym (nat_cmp_is x y Greater h)

-- an equal number before both changes nothing
pub nat_cmp-add : (m r s : ℕ) → nat_cmp (m + r) (m + s) ≡ nat_cmp r s
nat_cmp-add m r s = elim (cases_order r s) [
  | inl same ↦ nat_cmp-equal (m + r) (m + s) (omega arith) ∙ sym (nat_cmp-equal r s same)
  | inr (inl less) ↦ nat_cmp-less (m + r) (m + s) (omega arith) ∙ sym (nat_cmp-less r s less)
  | inr (inr more) ↦ nat_cmp-greater (m + r) (m + s) (omega arith) ∙ sym (nat_cmp-greater r s more)
]

-- a lower row stands before a higher one
pub row_before : (k p r q s : ℕ) → p < q → r < k → p * k + r < q * k + s
row_before k p r q s less small =
    let next : p + 1 ≤ q = omega arith in
    omega (arith, mul-le-mul_right k next, add-mul p 1 k)

-- a last digit counts where all before it is equal
pub nat_cmp-digit : (k p r q s : ℕ) → r < k → s < k
    → nat_cmp (p * k + r) (q * k + s) ≡ ordering_then (nat_cmp p q) (nat_cmp r s)
nat_cmp-digit k p r q s r_small s_small = elim (cases_order p q) [
  | inl same ↦
      ap (λ n. nat_cmp (n * k + r) (q * k + s)) same
      ∙ nat_cmp-add (q * k) r s
      ∙ sym (ap (λ o. ordering_then o (nat_cmp r s)) (nat_cmp-equal p q same))
  | inr (inl less) ↦
      nat_cmp-less (p * k + r) (q * k + s) (row_before k p r q s less r_small)
      ∙ sym (ap (λ o. ordering_then o (nat_cmp r s)) (nat_cmp-less p q less))
  | inr (inr more) ↦
      nat_cmp-greater (p * k + r) (q * k + s) (row_before k q s p r more s_small)
      ∙ sym (ap (λ o. ordering_then o (nat_cmp r s)) (nat_cmp-greater p q more))
]

pub ordering_then_assoc : (a b c : Ordering) → ordering_then (ordering_then a b) c ≡ ordering_then a (ordering_then b c)
ordering_then_assoc Less b c = refl
ordering_then_assoc Equal b c = refl
ordering_then_assoc Greater b c = refl

-- five comparisons, one after another
pub ordering_then_five : (a b c d e : Ordering)
    → ordering_then (ordering_then (ordering_then (ordering_then a b) c) d) e
    ≡ ordering_then a (ordering_then b (ordering_then c (ordering_then d e)))
ordering_then_five a b c d e =
    ordering_then_assoc (ordering_then (ordering_then a b) c) d e
    ∙ ordering_then_assoc (ordering_then a b) c (ordering_then d e)
    ∙ ordering_then_assoc a b (ordering_then c (ordering_then d e))
