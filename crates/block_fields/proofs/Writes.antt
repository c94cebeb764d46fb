-- One write changes one cell: what a block holds after it.
use Rattle.std.proofs.Common.{◌≡◌, ℕ, ◌+◌, ◌*◌, ◌/◌, ◌%◌, ◌<◌, sym, ap, ◌∙◌, arith, [], get_or, set, length}
use Rattle.std.proofs.lemmas.Nat.{div-mul-add, mod-mul-add, mul-add-lt}
use Rattle.std.proofs.lemmas.List.{get_or-set_same, get_or-set_other}
use Rattle.std.proofs.lemmas.Option.{slice_get-get_or}
use Rattle.block_fields.specs.Blocks.{BlockState, IsBlock, amount_at, amounts_of, number_at, with_amount}

-- a number gives its coordinates back
pub number_at-apart : (n x y z u v w : ℕ) → x < n → y < n → u < n → v < n → number_at n x y z ≡ number_at n u v w → (x ≡ u) × (y ≡ v) × (z ≡ w)
number_at-apart n x y z u v w hx hy hu hv e =
    let column : x ≡ u = sym (mod-mul-add (z * n + y) n x hx) ∙ ap (λ k. k % n) e ∙ mod-mul-add (w * n + v) n u hu in
    let row : z * n + y ≡ w * n + v = sym (div-mul-add (z * n + y) n x hx) ∙ ap (λ k. k / n) e ∙ div-mul-add (w * n + v) n u hu in
    (column, sym (mod-mul-add z n y hy) ∙ ap (λ k. k % n) row ∙ mod-mul-add w n v hv, sym (div-mul-add z n y hy) ∙ ap (λ k. k / n) row ∙ div-mul-add w n v hv)

pub number_at-below : (n x y z : ℕ) → x < n → y < n → z < n → number_at n x y z < n * n * n
number_at-below n x y z hx hy hz =
    let rows : z * n + y < n * n = mul-add-lt z n y n hz hy in
    let w : (z * n + y) * n + x < n * (n * n) = mul-add-lt (z * n + y) n x (n * n) rows hx in
    let e : n * (n * n) ≡ n * n * n = omega arith in
    omega arith

module _ (b : BlockState) (f x y z q : ℕ) where
  pub field-stays : (g : ℕ) → (g ≡ f → ⊥) → amounts_of (with_amount b f x y z q) g ≡ amounts_of b g
  field-stays g other = get_or-set_other b.amounts f g (set (amounts_of b f) (number_at b.edge x y z) q) [] other

module _ (b : BlockState) (f x y z q : ℕ) (hf : f < length b.amounts) (hx : x < b.edge) (hy : y < b.edge) where
  amounts-after : amounts_of (with_amount b f x y z q) f ≡ set (amounts_of b f) (number_at b.edge x y z) q
  amounts-after = get_or-set_same b.amounts f (set (amounts_of b f) (number_at b.edge x y z) q) [] hf

  pub amount-written : IsBlock b → z < b.edge → amount_at (with_amount b f x y z q) f x y z ≡ q
  amount-written k hz =
      let long : length (amounts_of b f) ≡ b.edge * b.edge * b.edge = k.all_cells f (amounts_of b f) (slice_get-get_or b.amounts f [] hf) in
      let h = number_at-below b.edge x y z hx hy hz in
      ap (λ l. get_or l (number_at b.edge x y z) 0) amounts-after
      ∙ get_or-set_same (amounts_of b f) (number_at b.edge x y z) q 0 (omega arith)

  pub amount-stays : (u v w : ℕ) → u < b.edge → v < b.edge → (x ≡ u → y ≡ v → z ≡ w → ⊥) → amount_at (with_amount b f x y z q) f u v w ≡ amount_at b f u v w
  amount-stays u v w hu hv other =
      ap (λ l. get_or l (number_at b.edge u v w) 0) amounts-after
      ∙ get_or-set_other (amounts_of b f) (number_at b.edge x y z) (number_at b.edge u v w) q 0 (λ e.
      let o = number_at-apart b.edge x y z u v w hx hy hu hv (sym e) in
      other o.0 o.1 o.2)
