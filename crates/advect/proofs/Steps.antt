-- Three moves of a field, one after another.
use Rattle.std.proofs.Common.{◌≡◌, ℕ, zero, suc, ◌+◌, ◌-◌, ◌*◌, ◌/◌, ◌%◌, ◌^◌, ◌<◌, ◌≤◌, Bool, true, false, cond, slice_index, arith, ap, sym, ◌∙◌, subst, inl, inr, pos, negsuc, le_trans, mod-lt}
use Rattle.std.proofs.lemmas.Bool.{cases_lt}
use Rattle.std.proofs.lemmas.Nat.{div-add-mod'}
use Rattle.block_fields.specs.Blocks.{number_at}
use Rattle.grid_fluxes.specs.Axes.{Axis, along_x, along_y, along_z}
use Rattle.advect.specs.Coordinates.{number_along}
use Rattle.advect.specs.OwnFluxes.{one_before, upwind_side}
use Rattle.advect.specs.declared.stream.Stream.{Stream}
use Rattle.advect.specs.Lemmas.Shares.{carried}
use Rattle.advect.specs.Lemmas.Streams.{Field, bars, enters, goes, seen_along, stream_flux}
use Rattle.advect.proofs.Beside.{quotient-below}
use Rattle.advect.proofs.Cells.{unless_le}
use Rattle.advect.proofs.LineNumbers.{seen-own_cell}
use Rattle.advect.proofs.Moves.{next-before}
use Rattle.advect.proofs.Shares.{carried_le}

-- what holds of each cell by its coordinates holds by its number
pub by_cells : (n : ℕ) (P : ℕ → Type 0) → 0 < n → ((x y z : ℕ) → x < n → y < n → z < n → P (number_at n x y z)) → (k : ℕ) → k < n * n * n → P k
by_cells n P some each k h =
    let row = k / n in
    let hr : row < n * n = quotient-below k n (n * n) some h in
    let hz : row / n < n = quotient-below row n n some hr in
    let e : row * n + k % n ≡ k = div-add-mod' k n in
    let d : row / n * n + row % n ≡ row = div-add-mod' row n in
    subst P e (subst (λ t. P (t * n + k % n)) d (each (k % n) (row % n) (row / n) (mod-lt k some) (mod-lt row some) hz))

module _ (s : Stream) (q : Field) (a : Axis) (i j : ℕ) (hi : i < q.edge) (hj : j < q.edge) where
  -- a cell gives at most its share
  pub goes-within : (u : ℕ) → u < q.edge → goes s q a u i j ≤ carried s.share (slice_index q.amounts (number_along q.edge a u i j))
  goes-within u hu = by_way s.up
    where
      own : slice_index q.amounts (number_along q.edge a u i j) ≡ seen_along q a (pos u) i j
      own = sym (seen-own_cell q a i j hi hj u hu)

      by_way : (up : Bool) → cond up (cond (bars s q.edge (u + 1)) 0 (carried s.share (seen_along q a (upwind_side up (u + 1)) i j))) (cond (bars s q.edge u) 0 (carried s.share (seen_along q a (upwind_side up u) i j)))
          ≤ carried s.share (slice_index q.amounts (number_along q.edge a u i j))
      by_way true =
          let e : slice_index q.amounts (number_along q.edge a u i j) ≡ seen_along q a (one_before (u + 1)) i j = own ∙ ap (λ t. seen_along q a t i j) (sym (next-before u)) in
          let t : carried s.share (seen_along q a (one_before (u + 1)) i j) ≤ carried s.share (slice_index q.amounts (number_along q.edge a u i j)) =
          subst (λ v. carried s.share v ≤ carried s.share (slice_index q.amounts (number_along q.edge a u i j))) e (omega arith) in
          unless_le (bars s q.edge (u + 1)) (carried s.share (seen_along q a (one_before (u + 1)) i j)) (carried s.share (slice_index q.amounts (number_along q.edge a u i j))) t
      by_way false =
          let t : carried s.share (seen_along q a (pos u) i j) ≤ carried s.share (slice_index q.amounts (number_along q.edge a u i j)) =
          subst (λ v. carried s.share v ≤ carried s.share (slice_index q.amounts (number_along q.edge a u i j))) own (omega arith) in
          unless_le (bars s q.edge u) (carried s.share (seen_along q a (pos u) i j)) (carried s.share (slice_index q.amounts (number_along q.edge a u i j))) t

  module _ (small : (k : ℕ) → slice_index q.amounts k ≤ 2 ^ 42) (below : seen_along q a (negsuc 0) i j ≤ 2 ^ 42) (above : seen_along q a (pos q.edge) i j ≤ 2 ^ 42) where
    own-small : (u : ℕ) → u < q.edge → seen_along q a (pos u) i j ≤ 2 ^ 42
    own-small u hu = subst (λ t. t ≤ 2 ^ 42) (sym (seen-own_cell q a i j hi hj u hu)) (small (number_along q.edge a u i j))

    seen-small : (up : Bool) (u : ℕ) → u ≤ q.edge → seen_along q a (upwind_side up u) i j ≤ 2 ^ 42
    seen-small true zero h = below
    seen-small true (suc u) h = own-small u (omega arith)
    seen-small false u h =
        elim (cases_lt u q.edge) [
          | inl less ↦ own-small u less
          | inr more ↦ let e : q.edge ≡ u = omega arith in subst (λ t. seen_along q a (pos t) i j ≤ 2 ^ 42) e above
        ]

    -- no flux is above what is seen
    pub flux-small : (u : ℕ) → u ≤ q.edge → stream_flux s q a u i j ≤ 2 ^ 42
    flux-small u h =
        let seen = seen_along q a (upwind_side s.up u) i j in
        unless_le (bars s q.edge u) (carried s.share seen) (2 ^ 42) (le_trans (carried_le s.share seen) (seen-small s.up u h))

    pub enters-small : (u : ℕ) → u < q.edge → enters s q a u i j ≤ 2 ^ 42
    enters-small u h = by_way s.up
      where
        by_way : (up : Bool) → cond up (stream_flux s q a u i j) (stream_flux s q a (u + 1) i j) ≤ 2 ^ 42
        by_way true = flux-small u (omega arith)
        by_way false = flux-small (u + 1) (omega arith)

-- ---- the three of them

module _ (sx sy sz : Stream) (q : Field) (some : 0 < q.edge) (small : (k : ℕ) → slice_index q.amounts k ≤ 2 ^ 42)
    (below : (a : Axis) (i j : ℕ) → i < q.edge → j < q.edge → seen_along q a (negsuc 0) i j ≤ 2 ^ 42)
    (above : (a : Axis) (i j : ℕ) → i < q.edge → j < q.edge → seen_along q a (pos q.edge) i j ≤ 2 ^ 42)
    (held : (v : ℕ) → carried sx.share v + carried sy.share v + carried sz.share v ≤ v)
    (v1 v2 v3 : ℕ → ℕ)
    (first : (x y z : ℕ) → x < q.edge → y < q.edge → z < q.edge → v1 (number_at q.edge x y z) ≡ slice_index q.amounts (number_at q.edge x y z) - goes sx q along_x x y z + enters sx q along_x x y z) where
  pub held-second : (k : ℕ) → k < q.edge * q.edge * q.edge → carried sy.share (slice_index q.amounts k) ≤ v1 k
  held-second = by_cells q.edge (λ k. carried sy.share (slice_index q.amounts k) ≤ v1 k) some (λ x y z hx hy hz.
      let k = number_at q.edge x y z in
      let e = first x y z hx hy hz in
      let g = goes-within sx q along_x y z hy hz x hx in
      let h = held (slice_index q.amounts k) in
      omega (arith, e, g, h))

  pub fits-second : (k : ℕ) → k < q.edge * q.edge * q.edge → v1 k ≤ 2 ^ 44
  fits-second = by_cells q.edge (λ k. v1 k ≤ 2 ^ 44) some (λ x y z hx hy hz.
      let k = number_at q.edge x y z in
      let e = first x y z hx hy hz in
      let t = enters-small sx q along_x y z hy hz small (below along_x y z hy hz) (above along_x y z hy hz) x hx in
      let m = small k in
      omega (arith, e, t, m))

  module _ (second : (x y z : ℕ) → x < q.edge → y < q.edge → z < q.edge → v2 (number_at q.edge x y z) ≡ v1 (number_at q.edge x y z) - goes sy q along_y y x z + enters sy q along_y y x z) where
    pub held-third : (k : ℕ) → k < q.edge * q.edge * q.edge → carried sz.share (slice_index q.amounts k) ≤ v2 k
    held-third = by_cells q.edge (λ k. carried sz.share (slice_index q.amounts k) ≤ v2 k) some (λ x y z hx hy hz.
        let k = number_at q.edge x y z in
        let e = first x y z hx hy hz in
        let d = second x y z hx hy hz in
        let g = goes-within sx q along_x y z hy hz x hx in
        let f = goes-within sy q along_y x z hx hz y hy in
        let h = held (slice_index q.amounts k) in
        omega (arith, e, d, g, f, h))

    pub fits-third : (k : ℕ) → k < q.edge * q.edge * q.edge → v2 k ≤ 2 ^ 44
    fits-third = by_cells q.edge (λ k. v2 k ≤ 2 ^ 44) some (λ x y z hx hy hz.
        let k = number_at q.edge x y z in
        let e = first x y z hx hy hz in
        let d = second x y z hx hy hz in
        let t = enters-small sx q along_x y z hy hz small (below along_x y z hy hz) (above along_x y z hy hz) x hx in
        let w = enters-small sy q along_y x z hx hz small (below along_y x z hx hz) (above along_y x z hx hz) y hy in
        let m = small k in
        omega (arith, e, d, t, w, m))

    pub three-moves : ((x y z : ℕ) → x < q.edge → y < q.edge → z < q.edge → v3 (number_at q.edge x y z) ≡ v2 (number_at q.edge x y z) - goes sz q along_z z x y + enters sz q along_z z x y) →
        (x y z : ℕ) → x < q.edge → y < q.edge → z < q.edge → v3 (number_at q.edge x y z) ≡ slice_index q.amounts (number_at q.edge x y z)
        - (goes sx q along_x x y z + goes sy q along_y y x z + goes sz q along_z z x y) + (enters sx q along_x x y z + enters sy q along_y y x z + enters sz q along_z z x y)
    three-moves third x y z hx hy hz =
        let k = number_at q.edge x y z in
        let e = first x y z hx hy hz in
        let d = second x y z hx hy hz in
        let c = third x y z hx hy hz in
        let g = goes-within sx q along_x y z hy hz x hx in
        let f = goes-within sy q along_y x z hx hz y hy in
        let b = goes-within sz q along_z x y hx hy z hz in
        let h = held (slice_index q.amounts k) in
        sum-up (slice_index q.amounts k) (goes sx q along_x x y z) (goes sy q along_y y x z) (goes sz q along_z z x y) (enters sx q along_x x y z) (enters sy q along_y y x z) (enters sz q along_z z x y) (v1 k) (v2 k) (v3 k)
        (omega (arith, g, f, b, h)) e d c
      where
        sum-up : (a gx gy gz cx cy cz l m n : ℕ) → gx + gy + gz ≤ a → l ≡ a - gx + cx → m ≡ l - gy + cy → n ≡ m - gz + cz → n ≡ a - (gx + gy + gz) + (cx + cy + cz)
        sum-up a gx gy gz cx cy cz l m n h p q r = omega arith
