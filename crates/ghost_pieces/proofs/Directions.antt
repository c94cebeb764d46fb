-- Directions by the numbers of their steps.
use Rattle.std.proofs.Common.{◌≡◌, ℕ, zero, suc, false, sym, ℤ, Option, None, Some, IsNone, IsSome, subst, inl, inr, arith, to_z, of_z, w8}
use Rattle.std.proofs.lemmas.Bool.{cases_Bool, false≢true}
use Rattle.std.proofs.lemmas.Int.{ints}
use Rattle.block_index.proofs.Beyond.{step_read}
use Rattle.block_index.specs.Beyond.{Offset}
use Rattle.block_index.specs.Axes.{IsUnitStep}
use Rattle.cello_neighbours.specs.Directions.{IsDirection}
use Rattle.ghost_pieces.specs.Lemmas.OwedLists.{is_some_step, step_at}
use Rattle.ghost_pieces.proofs.Owed.{unit_direction}

pub is_step_at : (k : ℕ) → IsUnitStep (step_at k)
is_step_at zero = record { least = omega (arith, ints); most = omega (arith, ints) }
is_step_at (suc zero) = record { least = omega (arith, ints); most = omega (arith, ints) }
is_step_at (suc (suc k)) = record { least = omega (arith, ints); most = omega (arith, ints) }

pub none_some : {A : Type 0} (o : Option A) → IsNone o → IsSome o → ⊥
none_some None n s = false≢true s
none_some (Some x) n s = false≢true (sym n)

pub steps_none : (x y z : ℕ) → (IsDirection (record { x = step_at x; y = step_at y; z = step_at z }) → ⊥) → is_some_step (record { x = step_at x; y = step_at y; z = step_at z }) ≡ false
steps_none x y z n =
    let dir : Offset = record { x = step_at x; y = step_at y; z = step_at z } in
    elim (cases_Bool (is_some_step dir)) [
      | inl t ↦ absurd (n (unit_direction dir (is_step_at x) (is_step_at y) (is_step_at z) t))
      | inr f ↦ f
    ]

pub steps_read : (x y z : ℤ) (k l m : ℕ) → x ≡ step_at k → y ≡ step_at l → z ≡ step_at m → IsDirection (record { x = step_at k; y = step_at l; z = step_at m }) → IsDirection (record { x = to_z w8 (of_z w8 x); y = to_z w8 (of_z w8 y); z = to_z w8 (of_z w8 z) })
steps_read x y z k l m e f g w =
    subst (λ u. IsDirection (record { x = to_z w8 (of_z w8 x); y = to_z w8 (of_z w8 y); z = u })) (step_read z (step_at m) g (is_step_at m))
    (subst (λ u. IsDirection (record { x = to_z w8 (of_z w8 x); y = u; z = step_at m })) (step_read y (step_at l) f (is_step_at l))
    (subst (λ u. IsDirection (record { x = u; y = step_at l; z = step_at m })) (step_read x (step_at k) e (is_step_at k)) w))
