-- The six sides of a block.
use Rattle.std.proofs.Common.{◌≡◌, zero, suc, ◌+◌, Bool, true, false, refl, sym, ap, ◌∙◌, subst, arith, ℤ, pos, negsuc}
use Rattle.std.specs.Prelude.{nat_abs}
use Rattle.block_index.specs.Beyond.{Offset}
use Rattle.grid_fluxes.specs.Axes.{Axis, along_x, along_y, along_z}
use Rattle.advect.specs.FaceFluxes.{IsSide, axis_of, is_end}
use Rattle.flux_register.specs.Faces.{opposite, side_number}

abbrev pub side_of : Axis → Bool → Offset
side_of along_x true = record { x = pos 1; y = pos 0; z = pos 0 }
side_of along_x false = record { x = negsuc 0; y = pos 0; z = pos 0 }
side_of along_y true = record { x = pos 0; y = pos 1; z = pos 0 }
side_of along_y false = record { x = pos 0; y = negsuc 0; z = pos 0 }
side_of along_z true = record { x = pos 0; y = pos 0; z = pos 1 }
side_of along_z false = record { x = pos 0; y = pos 0; z = negsuc 0 }

-- each side is one of them
pub one_side : (d : Offset) → IsSide d → d ≡ side_of (axis_of d) (is_end d)
one_side d is = go d.x d.y d.z is.one_step
  where
    go : (x y z : ℤ) → nat_abs x + nat_abs y + nat_abs z ≡ 1 → record { x = x; y = y; z = z } ≡ side_of (axis_of (record { x = x; y = y; z = z })) (is_end (record { x = x; y = y; z = z }))
    go (pos zero) (pos zero) (pos zero) e = absurd (omega (arith, e))
    go (pos zero) (pos zero) (pos (suc zero)) e = refl
    go (pos zero) (pos zero) (pos (suc (suc n))) e = absurd (omega (arith, e))
    go (pos zero) (pos zero) (negsuc zero) e = refl
    go (pos zero) (pos zero) (negsuc (suc n)) e = absurd (omega (arith, e))
    go (pos zero) (pos (suc zero)) (pos zero) e = refl
    go (pos zero) (pos (suc zero)) (pos (suc n)) e = absurd (omega (arith, e))
    go (pos zero) (pos (suc zero)) (negsuc n) e = absurd (omega (arith, e))
    go (pos zero) (pos (suc (suc n))) z e = absurd (omega (arith, e))
    go (pos zero) (negsuc zero) (pos zero) e = refl
    go (pos zero) (negsuc zero) (pos (suc n)) e = absurd (omega (arith, e))
    go (pos zero) (negsuc zero) (negsuc n) e = absurd (omega (arith, e))
    go (pos zero) (negsuc (suc n)) z e = absurd (omega (arith, e))
    go (pos (suc zero)) (pos zero) (pos zero) e = refl
    go (pos (suc zero)) (pos zero) (pos (suc n)) e = absurd (omega (arith, e))
    go (pos (suc zero)) (pos zero) (negsuc n) e = absurd (omega (arith, e))
    go (pos (suc zero)) (pos (suc m)) z e = absurd (omega (arith, e))
    go (pos (suc zero)) (negsuc m) z e = absurd (omega (arith, e))
    go (pos (suc (suc n))) y z e = absurd (omega (arith, e))
    go (negsuc zero) (pos zero) (pos zero) e = refl
    go (negsuc zero) (pos zero) (pos (suc n)) e = absurd (omega (arith, e))
    go (negsuc zero) (pos zero) (negsuc n) e = absurd (omega (arith, e))
    go (negsuc zero) (pos (suc m)) z e = absurd (omega (arith, e))
    go (negsuc zero) (negsuc m) z e = absurd (omega (arith, e))
    go (negsuc (suc n)) y z e = absurd (omega (arith, e))

abbrev pub other_end : Bool → Bool
other_end true = false
other_end false = true

axis-side_of : (a : Axis) (end : Bool) → axis_of (side_of a end) ≡ a
axis-side_of along_x true = refl
axis-side_of along_x false = refl
axis-side_of along_y true = refl
axis-side_of along_y false = refl
axis-side_of along_z true = refl
axis-side_of along_z false = refl

end-side_of : (a : Axis) (end : Bool) → is_end (side_of a end) ≡ end
end-side_of along_x true = refl
end-side_of along_x false = refl
end-side_of along_y true = refl
end-side_of along_y false = refl
end-side_of along_z true = refl
end-side_of along_z false = refl

opposite-side_of : (a : Axis) (end : Bool) → opposite (side_of a end) ≡ side_of a (other_end end)
opposite-side_of along_x true = refl
opposite-side_of along_x false = refl
opposite-side_of along_y true = refl
opposite-side_of along_y false = refl
opposite-side_of along_z true = refl
opposite-side_of along_z false = refl

pub is_side-side_of : (a : Axis) (end : Bool) → IsSide (side_of a end)
is_side-side_of along_x true = record { one_step = refl }
is_side-side_of along_x false = record { one_step = refl }
is_side-side_of along_y true = record { one_step = refl }
is_side-side_of along_y false = record { one_step = refl }
is_side-side_of along_z true = record { one_step = refl }
is_side-side_of along_z false = record { one_step = refl }

pub number-side_of : (a : Axis) (end : Bool) (d : Offset) → IsSide d → side_number d ≡ side_number (side_of a end) → (axis_of d ≡ a) × (is_end d ≡ end)
number-side_of a end d is same = go a end (axis_of d) (is_end d) (ap side_number (sym (one_side d is)) ∙ same)
  where
    go : (a : Axis) (e : Bool) (b : Axis) (f : Bool) → side_number (side_of b f) ≡ side_number (side_of a e) → (b ≡ a) × (f ≡ e)
    go along_x true along_x true h = (refl, refl)
    go along_x true along_x false h = absurd (omega (arith, h))
    go along_x true along_y true h = absurd (omega (arith, h))
    go along_x true along_y false h = absurd (omega (arith, h))
    go along_x true along_z true h = absurd (omega (arith, h))
    go along_x true along_z false h = absurd (omega (arith, h))
    go along_x false along_x true h = absurd (omega (arith, h))
    go along_x false along_x false h = (refl, refl)
    go along_x false along_y true h = absurd (omega (arith, h))
    go along_x false along_y false h = absurd (omega (arith, h))
    go along_x false along_z true h = absurd (omega (arith, h))
    go along_x false along_z false h = absurd (omega (arith, h))
    go along_y true along_x true h = absurd (omega (arith, h))
    go along_y true along_x false h = absurd (omega (arith, h))
    go along_y true along_y true h = (refl, refl)
    go along_y true along_y false h = absurd (omega (arith, h))
    go along_y true along_z true h = absurd (omega (arith, h))
    go along_y true along_z false h = absurd (omega (arith, h))
    go along_y false along_x true h = absurd (omega (arith, h))
    go along_y false along_x false h = absurd (omega (arith, h))
    go along_y false along_y true h = absurd (omega (arith, h))
    go along_y false along_y false h = (refl, refl)
    go along_y false along_z true h = absurd (omega (arith, h))
    go along_y false along_z false h = absurd (omega (arith, h))
    go along_z true along_x true h = absurd (omega (arith, h))
    go along_z true along_x false h = absurd (omega (arith, h))
    go along_z true along_y true h = absurd (omega (arith, h))
    go along_z true along_y false h = absurd (omega (arith, h))
    go along_z true along_z true h = (refl, refl)
    go along_z true along_z false h = absurd (omega (arith, h))
    go along_z false along_x true h = absurd (omega (arith, h))
    go along_z false along_x false h = absurd (omega (arith, h))
    go along_z false along_y true h = absurd (omega (arith, h))
    go along_z false along_y false h = absurd (omega (arith, h))
    go along_z false along_z true h = absurd (omega (arith, h))
    go along_z false along_z false h = (refl, refl)

pub axis-opposite : (d : Offset) → IsSide d → axis_of (opposite d) ≡ axis_of d
axis-opposite d is = ap (λ (o : Offset). axis_of (opposite o)) (one_side d is) ∙ (ap axis_of (opposite-side_of (axis_of d) (is_end d)) ∙ axis-side_of (axis_of d) (other_end (is_end d)))

pub end-opposite : (d : Offset) → IsSide d → is_end (opposite d) ≡ other_end (is_end d)
end-opposite d is = ap (λ (o : Offset). is_end (opposite o)) (one_side d is) ∙ (ap is_end (opposite-side_of (axis_of d) (is_end d)) ∙ end-side_of (axis_of d) (other_end (is_end d)))

pub side-opposite : (d : Offset) → IsSide d → IsSide (opposite d)
side-opposite d is = subst IsSide (sym (ap opposite (one_side d is) ∙ opposite-side_of (axis_of d) (is_end d))) (is_side-side_of (axis_of d) (other_end (is_end d)))

pub axis_is : (a : Axis) (end : Bool) → axis_of (side_of a end) ≡ a
axis_is = axis-side_of

pub end_is : (a : Axis) (end : Bool) → is_end (side_of a end) ≡ end
end_is = end-side_of
