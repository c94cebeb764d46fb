-- The samples of ghost cells are what the sender's amounts give.
use Rattle.std.proofs.Common.{◌≡◌, ℕ, ◌+◌, ◌-◌, ◌*◌, ◌/◌, ◌%◌, ◌^◌, ◌<◌, inl, inr, cond, nat_lt, ◌==◌, sym, ap, ◌∙◌, arith, List, [], Some, slice_get, slice_index, slice_index_or, sum_by}
use Rattle.std.proofs.lemmas.Bool.{cond-true, cond-false, eq-eqb, ne_eqb, lt-ltb, le-ltb}
use Rattle.std.proofs.lemmas.Nat.{div-add-mod'}
use Rattle.std.proofs.Math.Nat.{div-div-eq-div-mul}
use Rattle.block_index.specs.Places.{Cube, child_of, parent_of, child_number}
use Rattle.leaf_set.specs.NextMesh.{children_of}
use Rattle.cello_num.specs.Parts.{part}
use Rattle.block_fields.specs.States.{State, IsState, held}
use Rattle.block_fields.specs.Samples.{sample}
use Rattle.block_fields.proofs.BlockSamples.{held-at}
use Rattle.block_fields.proofs.CellFacts.{block_of-parent_of}
use Rattle.block_fields.proofs.SampleCases.{sample-here, sample-coarser, sample-finer}
use Rattle.ghost_pieces.specs.Ghosts.{Local, IsSource}
use Rattle.ghost_pieces.specs.Boxes.{span}
use Rattle.ghost_pieces.specs.Sent.{cell_from, number_from, sent}

-- ---- which case

module _ (n l m : ℕ) (q : List ℕ) (o : Local) where
  abbrev Same : ℕ
  Same = slice_index q (number_from n (cell_from l o))

  abbrev Coarser : ℕ
  Coarser = part (slice_index q (number_from n (parent_of (cell_from l o)))) (child_number (cell_from l o))

  abbrev Finer : ℕ
  Finer = sum_by (λ e. slice_index q (number_from n e)) (children_of (cell_from l o))

  sent-same : l ≡ m → sent n l m q o ≡ Same
  sent-same e = cond-true (l == m) Same (cond (nat_lt m l) Coarser Finer) (eq-eqb l m e)

  sent-coarser : m < l → sent n l m q o ≡ Coarser
  sent-coarser h =
      cond-false (l == m) Same (cond (nat_lt m l) Coarser Finer) (ne_eqb l m (λ e. omega arith))
      ∙ cond-true (nat_lt m l) Coarser Finer (lt-ltb m l h)

  sent-finer : l < m → sent n l m q o ≡ Finer
  sent-finer h =
      cond-false (l == m) Same (cond (nat_lt m l) Coarser Finer) (ne_eqb l m (λ e. omega arith))
      ∙ cond-false (nat_lt m l) Coarser Finer (le-ltb m l (omega arith))

sum_children : (g p : Cube → ℕ) (c e : Cube) → ((k : ℕ) → k < 8 → g (child_of c k) ≡ p (child_of e k)) → sum_by g (children_of c) ≡ sum_by p (children_of e)
sum_children g p c e h =
    let h0 = h 0 (omega arith) in
    let h1 = h 1 (omega arith) in
    let h2 = h 2 (omega arith) in
    let h3 = h 3 (omega arith) in
    let h4 = h 4 (omega arith) in
    let h5 = h 5 (omega arith) in
    let h6 = h 6 (omega arith) in
    let h7 = h 7 (omega arith) in
    omega arith

-- ---- along an axis: v is a coordinate, s the sender's, c how many cells its block is long

at_same : (v s n c : ℕ) → s ≡ v / n → c ≡ n → v % n ≡ v - s * c
at_same v s n c e f =
    let d = div-add-mod' v n in
    let g : s * c ≡ v / n * n = ap (λ u. u * c) e ∙ ap (λ u. v / n * u) f in
    omega arith

at_coarser : (v s n c : ℕ) → s ≡ v / n / 2 → c ≡ 2 * n → (v / 2 % n ≡ (v - s * c) / 2) × (v % 2 ≡ (v - s * c) % 2)
at_coarser v s n c e f =
    let swap : v / n / 2 ≡ v / 2 / n = div-div-eq-div-mul v n 2 ∙ ap (λ u. v / u) (let k : n * 2 ≡ 2 * n = omega arith in k) ∙ sym (div-div-eq-div-mul v 2 n) in
    let d = div-add-mod' (v / 2) n in
    let g : s * c ≡ 2 * (v / 2 / n * n) = ap (λ u. u * c) (e ∙ swap) ∙ ap (λ u. v / 2 / n * u) f ∙ (let k : v / 2 / n * (2 * n) ≡ 2 * (v / 2 / n * n) = omega arith in k) in
    (omega arith, omega arith)

at_finer : (v s h c b : ℕ) → s ≡ (2 * v + b) / (2 * h) → b < 2 → c ≡ h → (2 * v + b) % (2 * h) ≡ 2 * (v - s * c) + b
at_finer v s h c b e l f =
    let d = div-add-mod' (2 * v + b) (2 * h) in
    let g : s * c ≡ (2 * v + b) / (2 * h) * h = ap (λ u. u * c) e ∙ ap (λ u. (2 * v + b) / (2 * h) * u) f in
    let k : (2 * v + b) / (2 * h) * (2 * h) ≡ 2 * ((2 * v + b) / (2 * h) * h) = omega arith in
    omega arith

same_number : (n x y z u v w : ℕ) → x ≡ u → y ≡ v → z ≡ w → (z * n + y) * n + x ≡ (w * n + v) * n + u
same_number n x y z u v w e f g =
    ap (λ k. (z * n + y) * n + k) e ∙ ap (λ k. (z * n + k) * n + u) f ∙ ap (λ k. (k * n + v) * n + u) g

module _ (s : State) (w : IsState s) (h d : ℕ) (edge : s.edge ≡ 2 * h) (f : ℕ) where
  spans : (e k c l m : ℕ) → l + 1 - m ≡ k → h * 2 ^ k ≡ c → span s.edge l m ≡ c
  spans e k c l m p q = ap (λ u. u / 2 * 2 ^ (l + 1 - m)) edge ∙ ap (λ u. u * 2 ^ (l + 1 - m)) (let r : 2 * h / 2 ≡ h = omega arith in r) ∙ ap (λ u. h * 2 ^ u) p ∙ q

  -- the sample at the cell v, which the leaf a at i holds
  module _ (i : ℕ) (a v : Cube) (blk : List (List ℕ)) (at : slice_get s.leaves i ≡ Some a) (has : slice_get s.amounts i ≡ Some blk) where
    from : Local
    from = record { x = v.x - a.x * span s.edge v.level a.level; y = v.y - a.y * span s.edge v.level a.level; z = v.z - a.z * span s.edge v.level a.level }

    abbrev q : List ℕ
    q = slice_index_or blk f []

    pub sample-sent : IsSource s.edge a v → sample s f v ≡ sent s.edge v.level a.level (slice_index_or blk f []) (record { x = v.x - a.x * span s.edge v.level a.level; y = v.y - a.y * span s.edge v.level a.level; z = v.z - a.z * span s.edge v.level a.level })
    sample-sent (inl e) =
        let l = ap (λ (c : Cube). c.level) e in
        let c = span s.edge v.level a.level in
        let t : c ≡ s.edge = spans 0 1 s.edge v.level a.level (omega arith) (omega arith) in
        let o : Local = record { x = v.x - a.x * c; y = v.y - a.y * c; z = v.z - a.z * c } in
        sample-here s f v (i, at ∙ ap Some e)
        ∙ held-at s w f i a v blk at has (sym e)
        ∙ ap (slice_index q) (same_number s.edge (v.x % s.edge) (v.y % s.edge) (v.z % s.edge) o.x o.y o.z (at_same v.x a.x s.edge c (ap (λ (c : Cube). c.x) e) t) (at_same v.y a.y s.edge c (ap (λ (c : Cube). c.y) e) t) (at_same v.z a.z s.edge c (ap (λ (c : Cube). c.z) e) t))
        ∙ sym (sent-same s.edge v.level a.level q o (sym l))
    sample-sent (inr (inl up)) =
        let e = up.1 in
        let some = up.0 in
        let l = ap (λ (c : Cube). c.level) e in
        let c = span s.edge v.level a.level in
        let t : c ≡ 2 * s.edge = spans 0 2 (2 * s.edge) v.level a.level (omega arith) (omega arith) in
        let o : Local = record { x = v.x - a.x * c; y = v.y - a.y * c; z = v.z - a.z * c } in
        let p = parent_of v in
        let x = at_coarser v.x a.x s.edge c (ap (λ (c : Cube). c.x) e) t in
        let y = at_coarser v.y a.y s.edge c (ap (λ (c : Cube). c.y) e) t in
        let z = at_coarser v.z a.z s.edge c (ap (λ (c : Cube). c.z) e) t in
        sample-coarser s f v w some (i, at ∙ ap Some e)
        ∙ ap (λ u. part u (child_number v)) (held-at s w f i a p blk at has (block_of-parent_of s.edge v ∙ sym e))
        ∙ ap (λ u. part (slice_index q u) (child_number v)) (same_number s.edge (v.x / 2 % s.edge) (v.y / 2 % s.edge) (v.z / 2 % s.edge) (o.x / 2) (o.y / 2) (o.z / 2) x.0 y.0 z.0)
        ∙ ap (part (slice_index q (number_from s.edge (parent_of (cell_from v.level o))))) (let r : child_number v ≡ child_number (cell_from v.level o) = omega (arith, x.1, y.1, z.1) in r)
        ∙ sym (sent-coarser s.edge v.level a.level q o (omega arith))
    sample-sent (inr (inr down)) =
        let e = down 0 (omega arith) in
        let l = ap (λ (c : Cube). c.level) e in
        let c = span s.edge v.level a.level in
        let t : c ≡ h = spans 0 0 h v.level a.level (omega arith) (omega arith) in
        let o : Local = record { x = v.x - a.x * c; y = v.y - a.y * c; z = v.z - a.z * c } in
        sample-finer s f v w (λ k u. (i, at ∙ ap Some (down k u)))
        ∙ sum_children (held s f) (λ e. slice_index q (number_from s.edge e)) v (cell_from v.level o) (λ k u.
        let j = child_of v k in
        let ek = down k u in
        held-at s w f i a j blk at has (sym ek)
        ∙ ap (slice_index q) (same_number s.edge (j.x % s.edge) (j.y % s.edge) (j.z % s.edge) (2 * o.x + k % 2) (2 * o.y + k / 2 % 2) (2 * o.z + k / 4)
        (finer_axis v.x a.x c (k % 2) (ap (λ (c : Cube). c.x) ek) (omega arith) t)
        (finer_axis v.y a.y c (k / 2 % 2) (ap (λ (c : Cube). c.y) ek) (omega arith) t)
        (finer_axis v.z a.z c (k / 4) (ap (λ (c : Cube). c.z) ek) (omega arith) t)))
        ∙ sym (sent-finer s.edge v.level a.level q o (omega arith))
      where
        finer_axis : (v u c b : ℕ) → u ≡ (2 * v + b) / s.edge → b < 2 → c ≡ h → (2 * v + b) % s.edge ≡ 2 * (v - u * c) + b
        finer_axis v u c b e l g =
            ap (λ k. (2 * v + b) % k) edge
            ∙ at_finer v u h c b (e ∙ ap (λ k. (2 * v + b) / k) edge) l g
