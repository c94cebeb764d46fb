-- Where the first coordinates before and after a block are moved.
use Rattle.std.proofs.Common.{◌≡◌, ℕ, ◌+◌, ◌-◌, ◌*◌, ◌<◌, ◌≤◌, inl, inr, Bool, true, false, sym, ap, ◌∙◌, arith, pos, negsuc, ◌-ℤ◌, min, ◌^◌, pow_pos}
use Rattle.std.proofs.lemmas.Bool.{false≢true}
use Rattle.std.proofs.lemmas.Int.{ints}
use Rattle.std.proofs.lemmas.Nat.{pow-add, mul-le}
use Rattle.block_index.specs.Places.{Cube, IsPlace}
use Rattle.block_index.specs.Axes.{IsNext}
use Rattle.block_fields.specs.Samples.{moved}
use Rattle.ghost_pieces.specs.Sent.{offset_of}
use Rattle.ghost_pieces.proofs.AxisCells.{low, high, middle}

next_down : (t a p : ℕ) (w : Bool) → a < t → 0 < a → IsNext t w (negsuc 0) a p → p + 1 ≡ a
next_down t a p w l h n =
    let i = n.inside in
    elim n.at [ inl e ↦ omega (arith, ints) | inr r ↦ elim (r.1) [ inl e ↦ absurd (omega (arith, ints)) | inr e ↦ absurd (omega (arith, ints)) ] ]

next_down_end : (t a p : ℕ) (w : Bool) → a ≡ 0 → IsNext t w (negsuc 0) a p → (p + 1 ≡ t) × (w ≡ true)
next_down_end t a p w h n =
    let i = n.inside in
    elim n.at [ inl e ↦ absurd (omega (arith, ints)) | inr r ↦ elim (r.1) [ inl e ↦ absurd (omega (arith, ints)) | inr e ↦ (omega (arith, ints), r.0) ] ]

next_up : (t a p : ℕ) (w : Bool) → a + 1 < t → IsNext t w (pos 1) a p → p ≡ a + 1
next_up t a p w h n =
    let i = n.inside in
    elim n.at [ inl e ↦ omega (arith, ints) | inr r ↦ elim (r.1) [ inl e ↦ absurd (omega (arith, ints)) | inr e ↦ absurd (omega (arith, ints)) ] ]

next_up_end : (t a p : ℕ) (w : Bool) → a + 1 ≡ t → IsNext t w (pos 1) a p → (p ≡ 0) × (w ≡ true)
next_up_end t a p w h n =
    let i = n.inside in
    elim n.at [ inl e ↦ absurd (omega (arith, ints)) | inr r ↦ elim (r.1) [ inl e ↦ (omega (arith, ints), r.0) | inr e ↦ absurd (omega (arith, ints)) ] ]

module _ (n d t a : ℕ) (inside_axis : a < t) (deep : 2 * d ≤ n) (some : 0 < d) where
  pub reached-before : (w : Bool) → 0 < a → a * n - d ≡ moved w (t * n) (pos (a * n + 0) -ℤ pos d)
  reached-before w h =
      elim (low n d t a inside_axis deep w) [
        | inl b ↦
            let p = next_down t a b.0 w inside_axis h b.1 in
            let f = ap (λ u. u * n) p in
            let e = b.2 0 some in
            omega arith
        | inr b ↦ absurd (omega (arith, b.0))
      ]

  pub reached-before_end : a ≡ 0 → t * n - d ≡ moved true (t * n) (pos (a * n + 0) -ℤ pos d)
  reached-before_end h =
      elim (low n d t a inside_axis deep true) [
        | inl b ↦
            let p = next_down_end t a b.0 true h b.1 in
            let f = ap (λ u. u * n) (p.0) in
            let e = b.2 0 some in
            omega arith
        | inr b ↦ absurd (false≢true (sym (b.1)))
      ]

  pub reached-before_held : a ≡ 0 → 0 ≡ moved false (t * n) (pos (a * n + 0) -ℤ pos d)
  reached-before_held h =
      elim (low n d t a inside_axis deep false) [
        | inl b ↦ absurd (false≢true ((next_down_end t a b.0 false h b.1).1))
        | inr b ↦
            let e = b.2 0 some in
            let f : a * n ≡ 0 = ap (λ u. u * n) h ∙ (let g : 0 * n ≡ 0 = omega arith in g) in
            omega arith
      ]

  pub reached-after : (w : Bool) → a + 1 < t → (a + 1) * n ≡ moved w (t * n) (pos (a * n + (n + d)) -ℤ pos d)
  reached-after w h =
      elim (high n d t a inside_axis deep w) [
        | inl b ↦
            let p = next_up t a b.0 w h b.1 in
            let f = ap (λ u. u * n) p in
            let e = b.2 (n + d) (omega arith) (omega arith) in
            omega arith
        | inr b ↦ absurd (omega (arith, b.0))
      ]

  pub reached-after_end : a + 1 ≡ t → 0 ≡ moved true (t * n) (pos (a * n + (n + d)) -ℤ pos d)
  reached-after_end h =
      elim (high n d t a inside_axis deep true) [
        | inl b ↦
            let p = next_up_end t a b.0 true h b.1 in
            let f = ap (λ u. u * n) (p.0) in
            let e = b.2 (n + d) (omega arith) (omega arith) in
            omega arith
        | inr b ↦ absurd (false≢true (sym (b.1)))
      ]

  pub reached-after_held : a + 1 ≡ t → t * n - 1 ≡ moved false (t * n) (pos (a * n + (n + d)) -ℤ pos d)
  reached-after_held h =
      elim (high n d t a inside_axis deep false) [
        | inl b ↦ absurd (false≢true ((next_up_end t a b.0 false h b.1).1))
        | inr b ↦
            let e = b.2 (n + d) (omega arith) (omega arith) in
            let f = ap (λ u. u * n) h in
            omega arith
      ]

-- where the first coordinate of a part beside the block lies in the sender's block
pub own-start : (n d t a c b skip count start : ℕ) (w : Bool) → a < t → 2 * d ≤ n → skip ≡ b * c - a * n → count ≡ min n (b * c + c - a * n) - skip → start ≡ a * n - b * c → 0 < count → start ≡ offset_of n d t w a c b (d + skip)
own-start n d t a c b skip count start w inside_axis deep e f g h =
    let v = middle n d t a inside_axis deep w (d + skip) (omega arith) (omega arith) in
    omega arith

pub level_pow : (l : ℕ) → l ≤ 6 → 2 ^ l ≤ 64
level_pow l h =
    let e : 2 ^ (l + (6 - l)) ≡ 2 ^ l * 2 ^ (6 - l) = pow-add 2 l (6 - l) in
    let f : 2 ^ (l + (6 - l)) ≡ 64 = ap (λ u. 2 ^ u) (let g : l + (6 - l) ≡ 6 = omega arith in g) in
    let p = pow_pos (6 - l) in
    omega (arith, mul-le (2 ^ l) 1 (2 ^ l) (2 ^ (6 - l)) (omega arith) (omega arith))

pub axis_places : (t l : ℕ) → t ≤ 16 → l ≤ 6 → t * 2 ^ l ≤ 1024
axis_places t l h k = mul-le t (2 ^ l) 16 64 h (level_pow l k)

pub place_below : (c : Cube) → IsPlace c → (c.x < 1024) × (c.y < 1024) × (c.z < 1024)
place_below c h =
    let p = axis_places 16 c.level (omega arith) h.level in
    (omega (arith, h.x), omega (arith, h.y), omega (arith, h.z))
