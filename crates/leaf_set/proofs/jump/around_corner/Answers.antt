-- What is left of the proof of this function.
use Rattle.std.proofs.Common.{◌≡◌, ℕ, ℤ, sym, ap, ◌∙◌, subst, to_z, of_z, w8, IfSome}
use Rattle.block_index.specs.Beyond.{IsBeyond}
use Rattle.block_index.proofs.Beyond.{step_read}
use Rattle.leaf_set.specs.Lemmas.JumpSearch.{corner_step, corner_offset}
use Rattle.leaf_set.proofs.StepMeetings.{corner_step-unit}
use Rattle.leaf_set.proofs.jump.around_corner.Goals as goal

-- the step as the code reads it
read : (r : ℤ) (x y k : ℕ) → r ≡ corner_step x k → x ≡ y → corner_step y k ≡ to_z w8 (of_z w8 r)
read r x y k e f = step_read r (corner_step y k) (e ∙ ap (λ z. corner_step z k) f) (corner_step-unit y k)

offset : (c : goal.After-place_beyond) → corner_offset c.args.leaf c.args.s ≡ record {
  x = to_z w8 (of_z w8 c.corner_step.result);
  y = to_z w8 (of_z w8 c.corner_step-2.result);
  z = to_z w8 (of_z w8 c.corner_step-3.result);
}
offset c =
    let x = read _ _ _ _ c.corner_step.ensures.step c.x.ensures.x in
    let y = read _ _ _ _ c.corner_step-2.ensures.step c.y.ensures.y in
    let z = read _ _ _ _ c.corner_step-3.ensures.step c.z.ensures.z in
    λ i. record { x = x i; y = y i; z = z i }

pub returns-clause-found : goal.returns-clause-found
returns-clause-found c =
    subst (λ d. IfSome c.place_beyond.result (IsBeyond c.args.domain.now c.args.leaf d)) (sym (offset c)) c.place_beyond.ensures.found

pub returns-clause-every : goal.returns-clause-every
returns-clause-every c u h =
    c.place_beyond.ensures.every u (subst (λ d. IsBeyond c.args.domain.now c.args.leaf d u) (offset c) h)
