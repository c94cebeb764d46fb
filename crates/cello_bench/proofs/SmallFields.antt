-- Blocks whose numbers are small.
use Rattle.std.proofs.Common.{◌≡◌, ℕ, zero, suc, ◌+◌, ◌*◌, ◌^◌, ◌<◌, ◌≤◌, Bool, true, false, cond, nat_lt, ◌==◌, List, [], ◌∷◌, ◌++◌, Some, slice_get, slice_index, length, inl, inr, sym, ap, subst, arith, ℤ, pos, negsuc}
use Rattle.std.proofs.lemmas.Bool.{cases_lt}
use Rattle.std.proofs.lemmas.List.{get_or_past}
use Rattle.std.proofs.lemmas.Option.{none-some}
use Rattle.block_fields.specs.Blocks.{BlockState, amounts_of, ghosts_of, number_at, seen_at}
use Rattle.block_fields.specs.Shells.{direction_of, number_around, side_of}
use Rattle.grid_fluxes.specs.Axes.{Axis, along_x, along_y, along_z}
use Rattle.advect.specs.OwnFluxes.{HoldsAtMost, seen_on}
use Rattle.ghost_pieces.proofs.Lists.{member-cons, member-split}
use Rattle.cello_bench.specs.Inputs.{AllSmall, IsSmallField}

-- a list of which each element is small
pub small-list : (xs : List ℕ) (k : ℕ) → length xs ≤ k → ((i : ℕ) → i < k → slice_index xs i ≤ 2 ^ 42) → (i : ℕ) → slice_index xs i ≤ 2 ^ 42
small-list xs k end small i =
    elim (cases_lt i k) [
      | inl below ↦ small i below
      | inr past ↦ let e = get_or_past xs i 0 (omega arith) in omega (arith, e)
    ]

-- one element more
pub small-next : (xs : List ℕ) (k q : ℕ) → slice_index xs k ≤ 2 ^ 42 → ((i : ℕ) → i < k → slice_index xs i ≤ 2 ^ 42) → (i : ℕ) → i < k + 1 → slice_index xs i ≤ 2 ^ 42
small-next xs k q this small i h =
    elim (cases_lt i k) [
      | inl below ↦ small i below
      | inr past ↦ subst (λ u. slice_index xs u ≤ 2 ^ 42) (let e : k ≡ i = omega arith in e) this
    ]

-- one of a property more
pub each-next : (P : ℕ → Type 0) (k : ℕ) → P k → ((i : ℕ) → i < k → P i) → (i : ℕ) → i < k + 1 → P i
each-next P k this all i h =
    elim (cases_lt i k) [
      | inl below ↦ all i below
      | inr past ↦ subst P (let e : k ≡ i = omega arith in e) this
    ]

side-few : (n : ℕ) (u : ℤ) → side_of n u < 3
side-few n (pos u) = two (nat_lt u n)
  where
    two : (t : Bool) → cond t 1 2 < 3
    two true = omega arith
    two false = omega arith
side-few n (negsuc u) = omega arith

module _ (b : BlockState) (f : ℕ) (small : IsSmallField b f) where
  around : (x y z : ℤ) → seen_at b f x y z ≤ 2 ^ 42
  around x y z = chosen (direction_of b.edge x y z == 13)
    where
      d : ℕ
      d = direction_of b.edge x y z

      chosen : (t : Bool) → slice_index (cond t (amounts_of b f) (ghosts_of b f (direction_of b.edge x y z))) (number_around b.edge b.depth x y z) ≤ 2 ^ 42
      chosen true = small.amounts (number_around b.edge b.depth x y z)
      chosen false = small.ghosts (direction_of b.edge x y z) (number_around b.edge b.depth x y z) (let sx = side-few b.edge x in let sy = side-few b.edge y in let sz = side-few b.edge z in omega arith)

  beside : (a : Axis) (u : ℤ) (i j : ℕ) → seen_on b f a u i j ≤ 2 ^ 42
  beside along_x u i j = around u (pos i) (pos j)
  beside along_y u i j = around (pos i) u (pos j)
  beside along_z u i j = around (pos i) (pos j) u

pub small-block : (b : BlockState) (k : ℕ) → length b.amounts ≤ k → ((f : ℕ) → f < k → IsSmallField b f) → HoldsAtMost (2 ^ 42) b
small-block b k end all = record {
  amounts = λ f x y z h p q r. (all f (omega arith)).amounts (number_at b.edge x y z);
  below = λ f a i j h p q. beside b f (all f (omega arith)) a (negsuc 0) i j;
  above = λ f a i j h p q. beside b f (all f (omega arith)) a (pos b.edge) i j;
}

pub AllSmall-rest : (b : BlockState) (bs : List BlockState) → AllSmall (b ∷ bs) → AllSmall bs
AllSmall-rest b bs all k c e = all (suc k) c e

pub AllSmall-push : (bs : List BlockState) (b : BlockState) → AllSmall bs → HoldsAtMost (2 ^ 42) b → AllSmall (bs ++ b ∷ [])
AllSmall-push bs b all small k c e =
    elim (member-split bs (b ∷ []) c (k, e)) [
      | inl m ↦ all m.0 c m.1
      | inr m ↦ elim (member-cons b c [] m) [ inl f ↦ subst (HoldsAtMost (2 ^ 42)) f small | inr m ↦ absurd (none-some c m.1) ]
    ]
