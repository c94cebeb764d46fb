-- A source of a cell by its coordinates along each axis.
use Rattle.std.proofs.Common.{◌≡◌, ℕ, ◌+◌, ◌-◌, ◌*◌, ◌/◌, ◌%◌, ◌^◌, ◌<◌, ◌≤◌, inl, inr, sym, ap, ◌∙◌, arith}
use Rattle.std.proofs.lemmas.Bool.{cases_order}
use Rattle.std.proofs.Math.Nat.{div-div-eq-div-mul}
use Rattle.block_index.specs.Places.{Cube, child_of, parent_of}
use Rattle.leaf_set.proofs.Containment.{same_cube}
use Rattle.block_fields.specs.Cells.{block_of}
use Rattle.ghost_pieces.specs.Ghosts.{IsSource}

-- s is at most one level from v and holds it on every axis, in blocks of an edge of 2 h cells
pub record HoldsOnAxes (h : ℕ) (s v : Cube) : Type 0 where
  pub least : s.level ≤ v.level + 1
  pub most : v.level ≤ s.level + 1
  pub x : v.x / (h * 2 ^ (v.level + 1 - s.level)) ≡ s.x
  pub y : v.y / (h * 2 ^ (v.level + 1 - s.level)) ≡ s.y
  pub z : v.z / (h * 2 ^ (v.level + 1 - s.level)) ≡ s.z

module _ (h : ℕ) where
  at_power : (v e k c : ℕ) → e ≡ k → h * 2 ^ k ≡ c → v / (h * 2 ^ e) ≡ v / c
  at_power v e k c f g = ap (λ u. v / (h * 2 ^ u)) f ∙ ap (λ u. v / u) g

  same_level : (v e : ℕ) → e ≡ 1 → v / (h * 2 ^ e) ≡ v / (2 * h)
  same_level v e f = at_power v e 1 (2 * h) f (omega arith)

  coarser_level : (v e : ℕ) → e ≡ 2 → v / (h * 2 ^ e) ≡ v / (2 * h) / 2
  coarser_level v e f = at_power v e 2 (2 * h * 2) f (omega arith) ∙ sym (div-div-eq-div-mul v (2 * h) 2)

  finer_level : (v e b : ℕ) → e ≡ 0 → b < 2 → v / (h * 2 ^ e) ≡ (2 * v + b) / (2 * h)
  finer_level v e b f l =
      at_power v e 0 h f (omega arith)
      ∙ ap (λ u. u / h) (let g : v ≡ (2 * v + b) / 2 = omega arith in g)
      ∙ div-div-eq-div-mul (2 * v + b) 2 h

  pub IsSource-axes : (s v : Cube) → IsSource (2 * h) s v → HoldsOnAxes h s v
  IsSource-axes s v (inl e) =
      let l = ap (λ (c : Cube). c.level) e in
      let f : v.level + 1 - s.level ≡ 1 = omega arith in
      record {
        least = omega arith;
        most = omega arith;
        x = same_level v.x (v.level + 1 - s.level) f ∙ sym (ap (λ (c : Cube). c.x) e);
        y = same_level v.y (v.level + 1 - s.level) f ∙ sym (ap (λ (c : Cube). c.y) e);
        z = same_level v.z (v.level + 1 - s.level) f ∙ sym (ap (λ (c : Cube). c.z) e);
      }
  IsSource-axes s v (inr (inl up)) =
      let e = up.1 in
      let l = ap (λ (c : Cube). c.level) e in
      let some = up.0 in
      let f : v.level + 1 - s.level ≡ 2 = omega arith in
      record {
        least = omega arith;
        most = omega arith;
        x = coarser_level v.x (v.level + 1 - s.level) f ∙ sym (ap (λ (c : Cube). c.x) e);
        y = coarser_level v.y (v.level + 1 - s.level) f ∙ sym (ap (λ (c : Cube). c.y) e);
        z = coarser_level v.z (v.level + 1 - s.level) f ∙ sym (ap (λ (c : Cube). c.z) e);
      }
  IsSource-axes s v (inr (inr down)) =
      let e = down 0 (omega arith) in
      let l = ap (λ (c : Cube). c.level) e in
      let f : v.level + 1 - s.level ≡ 0 = omega arith in
      record {
        least = omega arith;
        most = omega arith;
        x = finer_level v.x (v.level + 1 - s.level) 0 f (omega arith) ∙ sym (ap (λ (c : Cube). c.x) e);
        y = finer_level v.y (v.level + 1 - s.level) 0 f (omega arith) ∙ sym (ap (λ (c : Cube). c.y) e);
        z = finer_level v.z (v.level + 1 - s.level) 0 f (omega arith) ∙ sym (ap (λ (c : Cube). c.z) e);
      }

  pub axes-IsSource : (s v : Cube) → HoldsOnAxes h s v → IsSource (2 * h) s v
  axes-IsSource s v w =
      let e = v.level + 1 - s.level in
      let least = w.least in
      let most = w.most in
      elim (cases_order s.level v.level) [
        | inl same ↦
            let f : e ≡ 1 = omega arith in
            inl (same_cube s (block_of (2 * h) v) same (sym w.x ∙ same_level v.x e f) (sym w.y ∙ same_level v.y e f) (sym w.z ∙ same_level v.z e f))
        | inr other ↦
            elim other [
              | inl less ↦
                  let f : e ≡ 2 = omega arith in
                  inr (inl (omega arith, same_cube s (parent_of (block_of (2 * h) v)) (omega arith) (sym w.x ∙ coarser_level v.x e f) (sym w.y ∙ coarser_level v.y e f) (sym w.z ∙ coarser_level v.z e f)))
              | inr more ↦
                  let f : e ≡ 0 = omega arith in
                  inr (inr (λ k l.
                  same_cube s (block_of (2 * h) (child_of v k)) (omega arith) (sym w.x ∙ finer_level v.x e (k % 2) f (omega arith)) (sym w.y ∙ finer_level v.y e (k / 2 % 2) f (omega arith)) (sym w.z ∙ finer_level v.z e (k / 4) f (omega arith))))
            ]
      ]
