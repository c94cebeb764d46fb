-- Corrections, a cell at a time.
use Rattle.std.proofs.Common.{◌≡◌, ℕ, ◌+◌, ◌-◌, ◌*◌, ◌/◌, ◌%◌, ◌<◌, ◌≤◌, Bool, true, false, ◌&&◌, ◌==◌, cond, List, length, slice_index, set, arith, ap, sym, ◌∙◌, subst, refl, inl, inr, mod-lt}
use Rattle.std.proofs.lemmas.Bool.{cases_eq, cases_lt}
use Rattle.std.proofs.lemmas.Bool.Decides.{nat_tests}
use Rattle.std.proofs.lemmas.List.{length-set}
use Rattle.std.proofs.lemmas.Nat.{div-add-mod', mul-add-lt}
use Rattle.block_fields.specs.Blocks.{BlockState, IsBlock, amount_at, amounts_of, number_at, with_amount}
use Rattle.block_fields.proofs.Writes.{amount-stays, amount-written, field-stays, number_at-apart}
use Rattle.grid_fluxes.specs.Axes.{Axis, along_x, along_y, along_z}
use Rattle.advect.specs.Coordinates.{across_first, across_second, along}
use Rattle.advect.specs.FaceFluxes.{FaceFluxState, axis_of, is_end}
use Rattle.advect.specs.FluxPieces.{FluxPieceState, StaysWithin, corrected, is_behind}
use Rattle.advect.specs.Lemmas.Corrections.{CorrectsBetween, rank}

and-parts : (a b : Bool) → (a && b) ≡ true → (a ≡ true) × (b ≡ true)
and-parts true b e = (refl, e)
and-parts false b e = absurd (cc)

same-by : (p q : ℕ) → (p == q) ≡ true → p ≡ q
same-by p q e = grind (arith, nat_tests)

-- the coordinates across are coordinates
pub first-within : (a : Axis) (n x y z : ℕ) → x < n → y < n → z < n → across_first a x y z < n
first-within along_x n x y z hx hy hz = hy
first-within along_y n x y z hx hy hz = hx
first-within along_z n x y z hx hy hz = hx

pub second-within : (a : Axis) (n x y z : ℕ) → x < n → y < n → z < n → across_second a x y z < n
second-within along_x n x y z hx hy hz = hz
second-within along_y n x y z hx hy hz = hz
second-within along_z n x y z hx hy hz = hy

-- coordinates along and across give the others back
same-cell : (a : Axis) (x y z u v w : ℕ) → along a x y z ≡ along a u v w → across_first a x y z ≡ across_first a u v w → across_second a x y z ≡ across_second a u v w → (x ≡ u) × (y ≡ v) × (z ≡ w)
same-cell along_x x y z u v w e k l = (e, k, l)
same-cell along_y x y z u v w e k l = (k, e, l)
same-cell along_z x y z u v w e k l = (k, l, e)

module _ (piece : FluxPieceState) (some : 0 < piece.edge / 2) where
  -- two cells behind a piece with one number are one
  pub one-cell_behind : (f x y z g u v w : ℕ) → is_behind piece x y z ≡ true → is_behind piece u v w ≡ true → rank piece f x y z ≡ rank piece g u v w → (f ≡ g) × (x ≡ u) × (y ≡ v) × (z ≡ w)
  one-cell_behind f x y z g u v w b c e =
      let a = axis_of piece.side in
      let h = piece.edge / 2 in
      let p = piece.place in
      let U = cond (is_end piece.side) (piece.edge - 1) 0 in
      let F = across_first a p.x p.y p.z % 2 in
      let S = across_second a p.x p.y p.z % 2 in
      let b1 = and-parts ((along a x y z == U) && (across_first a x y z / h == F)) (across_second a x y z / h == S) b in
      let b2 = and-parts (along a x y z == U) (across_first a x y z / h == F) b1.0 in
      let c1 = and-parts ((along a u v w == U) && (across_first a u v w / h == F)) (across_second a u v w / h == S) c in
      let c2 = and-parts (along a u v w == U) (across_first a u v w / h == F) c1.0 in
      let apart = number_at-apart h (across_first a x y z % h) (across_second a x y z % h) f (across_first a u v w % h) (across_second a u v w % h) g
      (mod-lt (across_first a x y z) some) (mod-lt (across_second a x y z) some) (mod-lt (across_first a u v w) some) (mod-lt (across_second a u v w) some) e in
      let first : across_first a x y z ≡ across_first a u v w =
      sym (div-add-mod' (across_first a x y z) h)
      ∙ (λ t. (same-by (across_first a x y z / h) F b2.1 ∙ sym (same-by (across_first a u v w / h) F c2.1)) t * h + apart.0 t)
      ∙ div-add-mod' (across_first a u v w) h in
      let second : across_second a x y z ≡ across_second a u v w =
      sym (div-add-mod' (across_second a x y z) h)
      ∙ (λ t. (same-by (across_second a x y z / h) S b1.1 ∙ sym (same-by (across_second a u v w / h) S c1.1)) t * h + apart.1 t)
      ∙ div-add-mod' (across_second a u v w) h in
      let cell = same-cell a x y z u v w (same-by (along a x y z) U b2.0 ∙ sym (same-by (along a u v w) U c2.0)) first second in
      (apart.2, cell.0, cell.1, cell.2)

  pub rank-within : (f x y z F : ℕ) → f < F → rank piece f x y z < F * (piece.edge / 2) * (piece.edge / 2)
  rank-within f x y z F h =
      let a = axis_of piece.side in
      let m = piece.edge / 2 in
      let i = across_first a x y z % m in
      let j = across_second a x y z % m in
      let r : f * m + j < m * F = mul-add-lt f m j F h (mod-lt (across_second a x y z) some) in
      let q : (f * m + j) * m + i < m * (m * F) = mul-add-lt (f * m + j) m i (m * F) r (mod-lt (across_first a x y z) some) in
      let e : m * (m * F) ≡ F * m * m = omega arith in
      subst (λ t. (f * m + j) * m + i < t) e q

-- one cell is written
module _ (faces : FaceFluxState) (piece : FluxPieceState) (some : 0 < piece.edge / 2) (b : BlockState) (k : IsBlock b) (f u v w q : ℕ) (hf : f < length b.amounts) (hu : u < b.edge) (hv : v < b.edge) (hw : w < b.edge)
    (behind : is_behind piece u v w ≡ true) (is : q ≡ corrected faces piece f u v w (amount_at b f u v w)) where
  pub corrects-one : (r : ℕ) → rank piece f u v w ≡ r → CorrectsBetween faces piece r (r + 1) b (with_amount b f u v w q)
  corrects-one r at = record {
    place = refl;
    edge = refl;
    depth = refl;
    ghosts = refl;
    before = refl;
    fields = length-set b.amounts f (set (amounts_of b f) (number_at b.edge u v w) q);
    behind = λ g x y z hg hx hy hz c low high.
        let e : rank piece f u v w ≡ rank piece g x y z = omega (arith, at, low, high) in
        let s = one-cell_behind piece some f u v w g x y z behind c e in
        (λ t. amount_at (with_amount b f u v w q) (sym s.0 t) (sym s.1 t) (sym s.2 t) (sym s.3 t))
        ∙ amount-written b f u v w q hf hu hv k hw
        ∙ is
        ∙ (λ t. corrected faces piece (s.0 t) (s.1 t) (s.2 t) (s.3 t) (amount_at b (s.0 t) (s.1 t) (s.2 t) (s.3 t)));
    elsewhere = λ g x y z hg hx hy hz no.
        elim (cases_eq g f) [
          | inr other ↦ ap (λ (l : List ℕ). slice_index l (number_at b.edge x y z)) (field-stays b f u v w q g other)
          | inl same ↦
              let here : (u ≡ x → v ≡ y → w ≡ z → ⊥) = λ eu ev ew.
              let c : is_behind piece x y z ≡ true = (λ t. is_behind piece (sym eu t) (sym ev t) (sym ew t)) ∙ behind in
              let e : rank piece g x y z ≡ r = (λ t. rank piece (same t) (sym eu t) (sym ev t) (sym ew t)) ∙ at in
              no c (omega (arith, e)) (omega (arith, e)) in
              (λ t. amount_at (with_amount b f u v w q) (same t) x y z)
              ∙ amount-stays b f u v w q hf hu hv x y z hx hy here
              ∙ (λ t. amount_at b (sym same t) x y z)
        ];
  }

-- nothing is corrected yet
pub corrects-none : (faces : FaceFluxState) (piece : FluxPieceState) (r : ℕ) (b : BlockState) → CorrectsBetween faces piece r r b b
corrects-none faces piece r b = record {
  place = refl;
  edge = refl;
  depth = refl;
  ghosts = refl;
  before = refl;
  fields = refl;
  behind = λ f x y z hf hx hy hz c low high. absurd (omega (arith, low, high));
  elsewhere = λ f x y z hf hx hy hz no. refl;
}

-- first some cells, then those after them
module _ (faces : FaceFluxState) (piece : FluxPieceState) (r t s : ℕ) (b c d : BlockState) (rt : r ≤ t) (ts : t ≤ s) (one : CorrectsBetween faces piece r t b c) (two : CorrectsBetween faces piece t s c d) where
  along-edge : {x : ℕ} → x < b.edge → x < c.edge
  along-edge {x} h = subst (λ n. x < n) (sym one.edge) h

  along-fields : {f : ℕ} → f < length b.amounts → f < length c.amounts
  along-fields {f} h = subst (λ n. f < n) (sym one.fields) h

  pub corrects-both : CorrectsBetween faces piece r s b d
  corrects-both = record {
    place = two.place ∙ one.place;
    edge = two.edge ∙ one.edge;
    depth = two.depth ∙ one.depth;
    ghosts = two.ghosts ∙ one.ghosts;
    before = two.before ∙ one.before;
    fields = two.fields ∙ one.fields;
    behind = λ f x y z hf hx hy hz k low high.
        elim (cases_lt (rank piece f x y z) t) [
          | inl less ↦
              two.elsewhere f x y z (along-fields hf) (along-edge hx) (along-edge hy) (along-edge hz) (λ c l h. omega (arith, less, l))
              ∙ one.behind f x y z hf hx hy hz k low less
          | inr more ↦
              two.behind f x y z (along-fields hf) (along-edge hx) (along-edge hy) (along-edge hz) k more high
              ∙ ap (corrected faces piece f x y z) (one.elsewhere f x y z hf hx hy hz (λ c l h. omega (arith, more, h)))
        ];
    elsewhere = λ f x y z hf hx hy hz no.
        two.elsewhere f x y z (along-fields hf) (along-edge hx) (along-edge hy) (along-edge hz) (λ c l h. no c (omega (arith, rt, l)) h)
        ∙ one.elsewhere f x y z hf hx hy hz (λ c l h. no c l (omega (arith, ts, h)));
  }

-- cells to come stay within their bounds
pub still-within : (faces : FaceFluxState) (piece : FluxPieceState) (r t : ℕ) (b c : BlockState) → CorrectsBetween faces piece r t b c →
    (f x y z : ℕ) → f < length b.amounts → x < b.edge → y < b.edge → z < b.edge → t ≤ rank piece f x y z →
    StaysWithin faces piece f x y z (amount_at b f x y z) → StaysWithin faces piece f x y z (amount_at c f x y z)
still-within faces piece r t b c one f x y z hf hx hy hz h =
    subst (StaysWithin faces piece f x y z) (sym (one.elsewhere f x y z hf hx hy hz (λ c l k. omega (arith, h, k))))
