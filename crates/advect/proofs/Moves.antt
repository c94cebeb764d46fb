-- What a pass over a field moves, as the fluxes of a stream.
use Rattle.std.proofs.Common.{◌≡◌, ℕ, ◌+◌, ◌-◌, ◌*◌, ◌<◌, ◌≤◌, Bool, true, false, ◌&&◌, ◌||◌, ◌==◌, cond, List, [], slice_index, slice_index_or, arith, ap, sym, ◌∙◌, subst, refl, inl, inr, pos, negsuc, add-one}
use Rattle.std.proofs.lemmas.Bool.{cases_eq, cond-true, cond-false}
use Rattle.std.proofs.lemmas.Bool.Decides.{nat_tests}
use Rattle.grid_fluxes.specs.Axes.{Axis}
use Rattle.advect.specs.Coordinates.{face_number, number_along}
use Rattle.advect.specs.OwnFluxes.{one_before}
use Rattle.advect.specs.declared.pass.Pass.{Pass}
use Rattle.advect.specs.declared.share.Share.{Share}
use Rattle.advect.specs.declared.stream.Stream.{Stream}
use Rattle.advect.specs.Lemmas.Lines.{high_direction, low_direction, position_at, run_at, runs_along, wide_along}
use Rattle.advect.specs.Lemmas.Passes.{base, cell, comes, gives, passed}
use Rattle.advect.specs.Lemmas.Shares.{carried}
use Rattle.advect.specs.Lemmas.Streams.{Field, bars, enters, goes, seen_along, stream_flux}
use Rattle.advect.proofs.LineNumbers.{cell-along, face-along, position-within, run-within, seen-high, seen-low, seen-own_cell}

-- ---- tests of truth

or-first : (b c d : Bool) → b ≡ false → ((b && c) || d) ≡ d
or-first b c d e = ap (λ t. (t && c) || d) e

or-last : (b c d : Bool) → c ≡ false → (b || (c && d)) ≡ b
or-last b c d e = ap (λ t. b || (t && d)) e ∙ none b
  where
    none : (b : Bool) → (b || false) ≡ b
    none true = refl
    none false = refl

and-swap : (b c : Bool) → (b && c) ≡ (c && b)
and-swap true true = refl
and-swap true false = refl
and-swap false true = refl
and-swap false false = refl

past-is-not : (u : ℕ) → (u + 1 == 0) ≡ false
past-is-not u = grind (arith, nat_tests)

below-is-not : (u n : ℕ) → u < n → (u == n) ≡ false
below-is-not u n h = grind (arith, nat_tests)

same-tests : (u v n : ℕ) → v + 1 + u ≡ n → (v + 1 == n) ≡ (u == 0)
same-tests u v n e =
    elim (cases_eq u 0) [
      | inl none ↦ (let t : (v + 1 == n) ≡ true = grind (arith, nat_tests) in t) ∙ sym (let t : (u == 0) ≡ true = grind (arith, nat_tests) in t)
      | inr some ↦ (let t : (v + 1 == n) ≡ false = grind (arith, nat_tests) in t) ∙ sym (let t : (u == 0) ≡ false = grind (arith, nat_tests) in t)
    ]

pub next-before : (u : ℕ) → one_before (u + 1) ≡ pos u
next-before u = rw add-one refl

module _ (share : Share) (first low_barred high_barred : Bool) (q : Field) (a : Axis) (n0 next entry exit : List ℕ) where
  -- ---- upwards

  module _ (some : 1 ≤ q.edge)
      (came : (r i : ℕ) → r < runs_along q.edge a → i < wide_along q.edge a → slice_index entry (r * wide_along q.edge a + i)
      ≡ cond low_barred 0 (carried share (slice_index (slice_index_or q.shell (low_direction a) []) ((r * q.depth + (q.depth - 1)) * wide_along q.edge a + i))))
      (moved : (r v i : ℕ) → r < runs_along q.edge a → v < q.edge → i < wide_along q.edge a → slice_index next (cell q.edge (wide_along q.edge a) r v i)
      ≡ passed (record { up = true; first = first; closed = high_barred; share = share }) q.edge (wide_along q.edge a) r q.amounts n0 entry v i)
      (left : (r i : ℕ) → r < runs_along q.edge a → i < wide_along q.edge a → slice_index exit (r * wide_along q.edge a + i)
      ≡ gives (record { up = true; first = first; closed = high_barred; share = share }) q.edge (q.edge - 1) (slice_index q.amounts (cell q.edge (wide_along q.edge a) r (q.edge - 1) i)))
    where
      abbrev stream : Stream
      stream = record { share = share; up = true; low_barred = low_barred; high_barred = high_barred }

      abbrev pass : Pass
      pass = record { up = true; first = first; closed = high_barred; share = share }

      module _ (i j : ℕ) (hi : i < q.edge) (hj : j < q.edge) where
        -- what a cell gives is the flux through its end
        given : (u : ℕ) → u < q.edge → gives pass q.edge u (slice_index q.amounts (number_along q.edge a u i j)) ≡ stream_flux stream q a (u + 1) i j
        given u hu =
            let closed : (high_barred && (u + 1 == q.edge)) ≡ bars stream q.edge (u + 1) =
            and-swap high_barred (u + 1 == q.edge) ∙ sym (or-first (u + 1 == 0) low_barred ((u + 1 == q.edge) && high_barred) (past-is-not u)) in
            let seen : slice_index q.amounts (number_along q.edge a u i j) ≡ seen_along q a (one_before (u + 1)) i j =
            sym (seen-own_cell q a i j hi hj u hu) ∙ ap (λ t. seen_along q a t i j) (sym (next-before u)) in
            (λ t. cond (closed t) 0 (carried share (seen t)))

        pub entry-up : slice_index entry (face_number q.edge i j) ≡ stream_flux stream q a 0 i j
        entry-up =
            let m = wide_along q.edge a in
            let bar : low_barred ≡ bars stream q.edge 0 = sym (or-last low_barred (0 == q.edge) high_barred (below-is-not 0 q.edge some)) in
            ap (slice_index entry) (sym (face-along q.edge a i j))
            ∙ came (run_at q.edge a i j) (position_at q.edge a i j) (run-within q.edge a i j hi hj) (position-within q.edge a i j hi hj)
            ∙ ap (λ t. cond low_barred 0 (carried share t)) (sym (seen-low q i j hi hj a))
            ∙ ap (λ t. cond t 0 (carried share (seen_along q a (negsuc 0) i j))) bar

        pub exit-up : slice_index exit (face_number q.edge i j) ≡ stream_flux stream q a q.edge i j
        exit-up =
            let e : q.edge - 1 + 1 ≡ q.edge = omega arith in
            ap (slice_index exit) (sym (face-along q.edge a i j))
            ∙ left (run_at q.edge a i j) (position_at q.edge a i j) (run-within q.edge a i j hi hj) (position-within q.edge a i j hi hj)
            ∙ ap (λ k. gives pass q.edge (q.edge - 1) (slice_index q.amounts k)) (cell-along q.edge a (q.edge - 1) i j)
            ∙ given (q.edge - 1) (omega arith)
            ∙ ap (λ u. stream_flux stream q a u i j) e

        -- what comes into a cell is the flux through its beginning
        taken : (u : ℕ) → u < q.edge → comes pass q.edge (wide_along q.edge a) (run_at q.edge a i j) q.amounts entry u (position_at q.edge a i j) ≡ stream_flux stream q a u i j
        taken u hu =
            let m = wide_along q.edge a in
            let r = run_at q.edge a i j in
            let p = position_at q.edge a i j in
            let before = gives pass q.edge (u - 1) (slice_index q.amounts (cell q.edge m r (u - 1) p)) in
            elim (cases_eq u 0) [
              | inl none ↦
                  cond-true (u == 0) (slice_index entry (r * m + p)) before (grind (arith, nat_tests))
                  ∙ ap (slice_index entry) (face-along q.edge a i j) ∙ entry-up ∙ ap (λ t. stream_flux stream q a t i j) (sym none)
              | inr some ↦
                  let e : u - 1 + 1 ≡ u = omega (arith, some) in
                  cond-false (u == 0) (slice_index entry (r * m + p)) before (grind (arith, nat_tests))
                  ∙ ap (λ k. gives pass q.edge (u - 1) (slice_index q.amounts k)) (cell-along q.edge a (u - 1) i j)
                  ∙ given (u - 1) (omega arith) ∙ ap (λ t. stream_flux stream q a t i j) e
            ]

        pub moved-up : (u : ℕ) → u < q.edge → slice_index next (number_along q.edge a u i j)
            ≡ base first q.amounts n0 (number_along q.edge a u i j) - goes stream q a u i j + enters stream q a u i j
        moved-up u hu =
            let k = number_along q.edge a u i j in
            let c = cell-along q.edge a u i j in
            ap (slice_index next) (sym c)
            ∙ moved (run_at q.edge a i j) u (position_at q.edge a i j) (run-within q.edge a i j hi hj) hu (position-within q.edge a i j hi hj)
            ∙ (λ t. base first q.amounts n0 (c t) - gives pass q.edge u (slice_index q.amounts (c t)) + comes pass q.edge (wide_along q.edge a) (run_at q.edge a i j) q.amounts entry u (position_at q.edge a i j))
            ∙ (λ t. base first q.amounts n0 k - given u hu t + taken u hu t)

  -- ---- downwards

  module _ (some : 1 ≤ q.edge)
      (came : (r i : ℕ) → r < runs_along q.edge a → i < wide_along q.edge a → slice_index entry (r * wide_along q.edge a + i)
      ≡ cond high_barred 0 (carried share (slice_index (slice_index_or q.shell (high_direction a) []) ((r * q.depth + 0) * wide_along q.edge a + i))))
      (moved : (r v i : ℕ) → r < runs_along q.edge a → v < q.edge → i < wide_along q.edge a → slice_index next (cell q.edge (wide_along q.edge a) r (q.edge - 1 - v) i)
      ≡ passed (record { up = false; first = first; closed = low_barred; share = share }) q.edge (wide_along q.edge a) r q.amounts n0 entry v i)
      (left : (r i : ℕ) → r < runs_along q.edge a → i < wide_along q.edge a → slice_index exit (r * wide_along q.edge a + i)
      ≡ gives (record { up = false; first = first; closed = low_barred; share = share }) q.edge (q.edge - 1) (slice_index q.amounts (cell q.edge (wide_along q.edge a) r (q.edge - 1 - (q.edge - 1)) i)))
    where
      abbrev stream-down : Stream
      stream-down = record { share = share; up = false; low_barred = low_barred; high_barred = high_barred }

      abbrev pass-down : Pass
      pass-down = record { up = false; first = first; closed = low_barred; share = share }

      module _ (i j : ℕ) (hi : i < q.edge) (hj : j < q.edge) where
        -- what a cell gives is the flux through its beginning
        given-down : (u v : ℕ) → u < q.edge → v + 1 + u ≡ q.edge → gives pass-down q.edge v (slice_index q.amounts (number_along q.edge a u i j)) ≡ stream_flux stream-down q a u i j
        given-down u v hu back =
            let last : (v + 1 == q.edge) ≡ (u == 0) = same-tests u v q.edge back in
            let closed : (low_barred && (v + 1 == q.edge)) ≡ bars stream-down q.edge u =
            ap (λ t. low_barred && t) last ∙ and-swap low_barred (u == 0) ∙ sym (or-last ((u == 0) && low_barred) (u == q.edge) high_barred (below-is-not u q.edge hu)) in
            let seen : slice_index q.amounts (number_along q.edge a u i j) ≡ seen_along q a (pos u) i j = sym (seen-own_cell q a i j hi hj u hu) in
            (λ t. cond (closed t) 0 (carried share (seen t)))

        pub entry-down : slice_index entry (face_number q.edge i j) ≡ stream_flux stream-down q a q.edge i j
        entry-down =
            let bar : high_barred ≡ bars stream-down q.edge q.edge =
            sym (or-first (q.edge == 0) low_barred ((q.edge == q.edge) && high_barred) (grind (arith, nat_tests)) ∙ ap (λ t. t && high_barred) (let e : (q.edge == q.edge) ≡ true = grind (arith, nat_tests) in e)) in
            ap (slice_index entry) (sym (face-along q.edge a i j))
            ∙ came (run_at q.edge a i j) (position_at q.edge a i j) (run-within q.edge a i j hi hj) (position-within q.edge a i j hi hj)
            ∙ ap (λ t. cond high_barred 0 (carried share t)) (sym (seen-high q i j hi hj a))
            ∙ ap (λ t. cond t 0 (carried share (seen_along q a (pos q.edge) i j))) bar

        pub exit-down : slice_index exit (face_number q.edge i j) ≡ stream_flux stream-down q a 0 i j
        exit-down =
            let e : q.edge - 1 - (q.edge - 1) ≡ 0 = omega arith in
            ap (slice_index exit) (sym (face-along q.edge a i j))
            ∙ left (run_at q.edge a i j) (position_at q.edge a i j) (run-within q.edge a i j hi hj) (position-within q.edge a i j hi hj)
            ∙ ap (λ k. gives pass-down q.edge (q.edge - 1) (slice_index q.amounts k)) (ap (λ u. cell q.edge (wide_along q.edge a) (run_at q.edge a i j) u (position_at q.edge a i j)) e ∙ cell-along q.edge a 0 i j)
            ∙ given-down 0 (q.edge - 1) some (omega arith)

        -- what comes into a cell is the flux through its end
        taken-down : (u v : ℕ) → u < q.edge → v + 1 + u ≡ q.edge → comes pass-down q.edge (wide_along q.edge a) (run_at q.edge a i j) q.amounts entry v (position_at q.edge a i j) ≡ stream_flux stream-down q a (u + 1) i j
        taken-down u v hu back =
            let m = wide_along q.edge a in
            let r = run_at q.edge a i j in
            let p = position_at q.edge a i j in
            let before = gives pass-down q.edge (v - 1) (slice_index q.amounts (cell q.edge m r (q.edge - 1 - (v - 1)) p)) in
            elim (cases_eq v 0) [
              | inl none ↦
                  let e : q.edge ≡ u + 1 = omega (arith, none) in
                  cond-true (v == 0) (slice_index entry (r * m + p)) before (grind (arith, nat_tests))
                  ∙ ap (slice_index entry) (face-along q.edge a i j) ∙ entry-down ∙ ap (λ t. stream_flux stream-down q a t i j) e
              | inr some ↦
                  let e : q.edge - 1 - (v - 1) ≡ u + 1 = omega (arith, some) in
                  cond-false (v == 0) (slice_index entry (r * m + p)) before (grind (arith, nat_tests))
                  ∙ ap (λ k. gives pass-down q.edge (v - 1) (slice_index q.amounts k)) (ap (λ t. cell q.edge m r t p) e ∙ cell-along q.edge a (u + 1) i j)
                  ∙ given-down (u + 1) (v - 1) (omega (arith, some)) (omega (arith, some))
            ]

        pub moved-down : (u : ℕ) → u < q.edge → slice_index next (number_along q.edge a u i j)
            ≡ base first q.amounts n0 (number_along q.edge a u i j) - goes stream-down q a u i j + enters stream-down q a u i j
        moved-down u hu =
            let v = q.edge - 1 - u in
            let k = number_along q.edge a u i j in
            let e : q.edge - 1 - v ≡ u = omega arith in
            let back : v + 1 + u ≡ q.edge = omega arith in
            let c = ap (λ t. cell q.edge (wide_along q.edge a) (run_at q.edge a i j) t (position_at q.edge a i j)) e ∙ cell-along q.edge a u i j in
            ap (slice_index next) (sym c)
            ∙ moved (run_at q.edge a i j) v (position_at q.edge a i j) (run-within q.edge a i j hi hj) (omega arith) (position-within q.edge a i j hi hj)
            ∙ (λ t. base first q.amounts n0 (c t) - gives pass-down q.edge v (slice_index q.amounts (c t)) + comes pass-down q.edge (wide_along q.edge a) (run_at q.edge a i j) q.amounts entry v (position_at q.edge a i j))
            ∙ (λ t. base first q.amounts n0 k - given-down u v hu back t + taken-down u v hu back t)

-- ---- by the names of the code

pub record GoesUp (share : Share) (first low_barred high_barred : Bool) (n depth : ℕ) (amounts n0 next entry exit : List ℕ) (R M : ℕ) (B : List ℕ) : Type 0 where
  pub came : (r i : ℕ) → r < R → i < M → slice_index entry (r * M + i) ≡ cond low_barred 0 (carried share (slice_index B ((r * depth + (depth - 1)) * M + i)))
  pub moved : (r v i : ℕ) → r < R → v < n → i < M → slice_index next (cell n M r v i)
      ≡ passed (record { up = true; first = first; closed = high_barred; share = share }) n M r amounts n0 entry v i
  pub left : (r i : ℕ) → r < R → i < M → slice_index exit (r * M + i)
      ≡ gives (record { up = true; first = first; closed = high_barred; share = share }) n (n - 1) (slice_index amounts (cell n M r (n - 1) i))

pub record GoesDown (share : Share) (first low_barred high_barred : Bool) (n depth : ℕ) (amounts n0 next entry exit : List ℕ) (R M : ℕ) (B : List ℕ) : Type 0 where
  pub came : (r i : ℕ) → r < R → i < M → slice_index entry (r * M + i) ≡ cond high_barred 0 (carried share (slice_index B ((r * depth + 0) * M + i)))
  pub moved : (r v i : ℕ) → r < R → v < n → i < M → slice_index next (cell n M r (n - 1 - v) i)
      ≡ passed (record { up = false; first = first; closed = low_barred; share = share }) n M r amounts n0 entry v i
  pub left : (r i : ℕ) → r < R → i < M → slice_index exit (r * M + i)
      ≡ gives (record { up = false; first = first; closed = low_barred; share = share }) n (n - 1) (slice_index amounts (cell n M r (n - 1 - (n - 1)) i))

-- what a move along an axis makes of a field
pub record Moves (stream : Stream) (first : Bool) (q : Field) (a : Axis) (n0 next lows highs : List ℕ) : Type 0 where
  pub moved : (u i j : ℕ) → u < q.edge → i < q.edge → j < q.edge → slice_index next (number_along q.edge a u i j)
      ≡ base first q.amounts n0 (number_along q.edge a u i j) - goes stream q a u i j + enters stream q a u i j
  pub low : (i j : ℕ) → i < q.edge → j < q.edge → slice_index lows (face_number q.edge i j) ≡ stream_flux stream q a 0 i j
  pub high : (i j : ℕ) → i < q.edge → j < q.edge → slice_index highs (face_number q.edge i j) ≡ stream_flux stream q a q.edge i j

module _ (stream : Stream) (first : Bool) (q : Field) (a : Axis) (n0 next entry exit : List ℕ) (some : 1 ≤ q.edge) (R M d : ℕ) (B : List ℕ)
    (runs : R ≡ runs_along q.edge a) (wide : M ≡ wide_along q.edge a) (is : B ≡ slice_index_or q.shell d []) where
  pub upwards : stream.up ≡ true → d ≡ low_direction a → GoesUp stream.share first stream.low_barred stream.high_barred q.edge q.depth q.amounts n0 next entry exit R M B →
      Moves stream first q a n0 next entry exit
  upwards up e facts =
      let s = stream.share in
      let lb = stream.low_barred in
      let hb = stream.high_barred in
      let G : ℕ → ℕ → List ℕ → Type 0 = λ R M B. GoesUp s first lb hb q.edge q.depth q.amounts n0 next entry exit R M B in
      let k : G (runs_along q.edge a) (wide_along q.edge a) (slice_index_or q.shell (low_direction a) []) =
      subst (λ (B : List ℕ). G (runs_along q.edge a) (wide_along q.edge a) B) (is ∙ ap (λ d. slice_index_or q.shell d []) e)
      (subst (λ m. G (runs_along q.edge a) m B) wide (subst (λ r. G r M B) runs facts)) in
      subst (λ (t : Stream). Moves t first q a n0 next entry exit) (λ t. record { share = s; up = sym up t; low_barred = lb; high_barred = hb }) record {
        moved = λ u i j hu hi hj. moved-up s first lb hb q a n0 next entry exit some k.came k.moved k.left i j hi hj u hu;
        low = λ i j hi hj. entry-up s first lb hb q a n0 next entry exit some k.came k.moved k.left i j hi hj;
        high = λ i j hi hj. exit-up s first lb hb q a n0 next entry exit some k.came k.moved k.left i j hi hj;
      }

  pub downwards : stream.up ≡ false → d ≡ high_direction a → GoesDown stream.share first stream.low_barred stream.high_barred q.edge q.depth q.amounts n0 next entry exit R M B →
      Moves stream first q a n0 next exit entry
  downwards up e facts =
      let s = stream.share in
      let lb = stream.low_barred in
      let hb = stream.high_barred in
      let G : ℕ → ℕ → List ℕ → Type 0 = λ R M B. GoesDown s first lb hb q.edge q.depth q.amounts n0 next entry exit R M B in
      let k : G (runs_along q.edge a) (wide_along q.edge a) (slice_index_or q.shell (high_direction a) []) =
      subst (λ (B : List ℕ). G (runs_along q.edge a) (wide_along q.edge a) B) (is ∙ ap (λ d. slice_index_or q.shell d []) e)
      (subst (λ m. G (runs_along q.edge a) m B) wide (subst (λ r. G r M B) runs facts)) in
      subst (λ (t : Stream). Moves t first q a n0 next exit entry) (λ t. record { share = s; up = sym up t; low_barred = lb; high_barred = hb }) record {
        moved = λ u i j hu hi hj. moved-down s first lb hb q a n0 next entry exit some k.came k.moved k.left i j hi hj u hu;
        low = λ i j hi hj. exit-down s first lb hb q a n0 next entry exit some k.came k.moved k.left i j hi hj;
        high = λ i j hi hj. entry-down s first lb hb q a n0 next entry exit some k.came k.moved k.left i j hi hj;
      }
