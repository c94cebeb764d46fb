-- Places along an axis that meet one of the same level or a coarser one: the coarser one covers a place one step away.
use Rattle.std.proofs.Common.{◌≡◌, ℕ, ◌+◌, ◌-◌, ◌*◌, ◌/◌, ◌%◌, ◌^◌, ◌<◌, ◌≤◌, Bool, IsTrue, sym, ap, ◌∙◌, subst, arith, inl, inr, le_refl, pow_pos, ℤ, pos, negsuc}
use Rattle.std.proofs.lemmas.Bool.{cases_lt}
use Rattle.std.proofs.lemmas.Int.{ints}
use Rattle.std.proofs.lemmas.Nat.{pow-add, div-mul-add, div-add-mod', mod_below, row_fits}
use Rattle.block_index.specs.Axes.{IsUnitStep, IsNext, Meets, MeetsAround}
use Rattle.block_index.specs.Touching.{MeetsOnAxis, width}
use Rattle.block_index.proofs.Meetings.{MeetsAround-sym, MeetsAround-grow, MeetsAround-scale, MeetsAround-unscale, MeetsAround-IsNext, axis_length}

-- ---- in places of one level, of an axis that is n long: the other place is d wide

-- the place one step s from x lies in the place at y
pub record Reached (n : ℕ) (wraps : Bool) (x y d : ℕ) : Type 0 where
  pub s : ℤ
  pub q : ℕ
  pub unit : IsUnitStep s
  pub next : IsNext n wraps s x q
  pub over : q / d ≡ y

pub unit_down : IsUnitStep (negsuc 0)
unit_down = record { least = omega (arith, ints); most = omega (arith, ints) }

pub unit_none : IsUnitStep (pos 0)
unit_none = record { least = omega (arith, ints); most = omega (arith, ints) }

pub unit_up : IsUnitStep (pos 1)
unit_up = record { least = omega (arith, ints); most = omega (arith, ints) }

pub within : (u y d : ℕ) → y * d ≤ u → u < y * d + d → u / d ≡ y
within u y d h l =
    let r = div-mul-add y d (u - y * d) (omega arith) in
    subst (λ m. m / d ≡ y) (let e : y * d + (u - y * d) ≡ u = omega arith in e) r

-- a place that meets x covers x or the place beside it
pub Reached-MeetsAround : (n : ℕ) (wraps : Bool) (x y d : ℕ) → x < n → 0 < d → y * d + d ≤ n → MeetsAround n wraps x 1 (y * d) d → Reached n wraps x y d
Reached-MeetsAround n wraps x y d h o r t =
    elim t [
      | inl m ↦ straight m
      | inr w ↦ elim (w.1) [ inl m ↦ low w.0 m | inr m ↦ high w.0 m ]
    ]
  where
    straight : Meets x 1 (y * d) d → Reached n wraps x y d
    straight m =
        elim (cases_lt x (y * d)) [
          | inl before ↦
              record {
                s = pos 1;
                q = x + 1;
                unit = unit_up;
                next = record { inside = omega (arith, m.right); at = inl (omega (arith, ints)) };
                over = within (x + 1) y d (omega arith) (omega (arith, m.right));
              }
          | inr from ↦
              elim (cases_lt x (y * d + d)) [
                | inl upto ↦
                    record {
                      s = pos 0;
                      q = x;
                      unit = unit_none;
                      next = record { inside = h; at = inl (omega (arith, ints)) };
                      over = within x y d from upto;
                    }
                | inr after ↦
                    record {
                      s = negsuc 0;
                      q = x - 1;
                      unit = unit_down;
                      next = record { inside = omega arith; at = inl (omega (arith, ints, m.left)) };
                      over = within (x - 1) y d (omega arith) (omega (arith, m.left));
                    }
              ]
        ]

    low : IsTrue wraps → Meets (x + n) 1 (y * d) d → Reached n wraps x y d
    low w m =
        let first : x ≡ 0 = omega (arith, m.left) in
        record {
          s = negsuc 0;
          q = n - 1;
          unit = unit_down;
          next = record { inside = omega arith; at = inr (w, inr (omega (arith, ints, first))) };
          over = within (n - 1) y d (omega (arith, m.left)) (omega (arith, m.left));
        }

    high : IsTrue wraps → Meets x 1 (y * d + n) d → Reached n wraps x y d
    high w m =
        let last : x + 1 ≡ n = omega (arith, m.right) in
        record {
          s = pos 1;
          q = 0;
          unit = unit_up;
          next = record { inside = omega arith; at = inr (w, inl (omega (arith, ints, last))) };
          over = within 0 y d (omega (arith, m.right)) (omega arith);
        }

-- a place that covers x or the place beside it meets x
pub MeetsAround-over : (n : ℕ) (wraps : Bool) (s : ℤ) (x q y d : ℕ) → IsUnitStep s → x < n → 0 < d → IsNext n wraps s x q → q / d ≡ y → MeetsAround n wraps x 1 (y * d) d
MeetsAround-over n wraps s x q y d u h o k e =
    let f : y * d + q % d ≡ q = subst (λ m. m * d + q % d ≡ q) e (div-add-mod' q d) in
    let l : q % d < d = mod_below q d o in
    MeetsAround-sym n wraps (y * d) d x 1
    (MeetsAround-grow n wraps q 1 (y * d) d x 1 (omega arith) (omega arith) (MeetsAround-sym n wraps x 1 q 1 (MeetsAround-IsNext n wraps s x q u h k)))

-- ---- in units of level 6: a place of level l, and one of level m that is as wide or wider

same_power : (i j : ℕ) → i ≡ j → 2 ^ i ≡ 2 ^ j
same_power i j e = ap (λ k. 2 ^ k) e

MeetsAround-at : (n n' : ℕ) (wraps : Bool) (a w c v a' w' c' v' : ℕ) → n ≡ n' → a ≡ a' → w ≡ w' → c ≡ c' → v ≡ v' → MeetsAround n wraps a w c v → MeetsAround n' wraps a' w' c' v'
MeetsAround-at n n' wraps a w c v a' w' c' v' e f g h i m =
    subst (λ k. MeetsAround k wraps a' w' c' v') e
    (subst (λ k. MeetsAround n wraps k w' c' v') f (subst (λ k. MeetsAround n wraps a k c' v') g (subst (λ k. MeetsAround n wraps a w k v') h (subst (λ k. MeetsAround n wraps a w c k) i m))))

module _ (trees : ℕ) (wraps : Bool) (l m x y : ℕ) (low : l ≤ 6) (o : m ≤ l) where
  wider : 2 ^ (l - m) * width l ≡ width m
  wider = sym (pow-add 2 (l - m) (6 - l)) ∙ same_power (l - m + (6 - l)) (6 - m) (omega arith)

  far : y * 2 ^ (l - m) * width l ≡ y * width m
  far = omega (arith, ap (λ q. y * q) wider)

  pub MeetsAround-MeetsOnAxis : MeetsOnAxis trees wraps (x * width l) (width l) (y * width m) (width m) → MeetsAround (trees * 2 ^ l) wraps x 1 (y * 2 ^ (l - m)) (2 ^ (l - m))
  MeetsAround-MeetsOnAxis t =
      let one : width l ≡ 1 * width l = omega arith in
      MeetsAround-unscale (trees * 2 ^ l) wraps (width l) x 1 (y * 2 ^ (l - m)) (2 ^ (l - m)) (pow_pos (6 - l))
      (MeetsAround-at (trees * 64) (trees * 2 ^ l * width l) wraps (x * width l) (width l) (y * width m) (width m) (x * width l) (1 * width l) (y * 2 ^ (l - m) * width l) (2 ^ (l - m) * width l) (axis_length trees l low) (λ i. x * width l) one (sym far) (sym wider) t)

  pub MeetsOnAxis-MeetsAround : MeetsAround (trees * 2 ^ l) wraps x 1 (y * 2 ^ (l - m)) (2 ^ (l - m)) → MeetsOnAxis trees wraps (x * width l) (width l) (y * width m) (width m)
  MeetsOnAxis-MeetsAround t =
      let one : 1 * width l ≡ width l = omega arith in
      MeetsAround-at (trees * 2 ^ l * width l) (trees * 64) wraps (x * width l) (1 * width l) (y * 2 ^ (l - m) * width l) (2 ^ (l - m) * width l) (x * width l) (width l) (y * width m) (width m) (sym (axis_length trees l low)) (λ i. x * width l) one far wider
      (MeetsAround-scale (trees * 2 ^ l) wraps (width l) x 1 (y * 2 ^ (l - m)) (2 ^ (l - m)) t)

  axis_fits : y < trees * 2 ^ m → y * 2 ^ (l - m) + 2 ^ (l - m) ≤ trees * 2 ^ l
  axis_fits h =
      omega
      (arith, row_fits y (2 ^ (l - m)) (trees * 2 ^ m) (2 ^ (l - m)) h (le_refl (2 ^ (l - m))), ap (λ q. trees * q) (sym (pow-add 2 m (l - m)) ∙ same_power (m + (l - m)) l (omega arith)))

  pub Reached-MeetsOnAxis : x < trees * 2 ^ l → y < trees * 2 ^ m → MeetsOnAxis trees wraps (x * width l) (width l) (y * width m) (width m) → Reached (trees * 2 ^ l) wraps x y (2 ^ (l - m))
  Reached-MeetsOnAxis h k t =
      Reached-MeetsAround (trees * 2 ^ l) wraps x y (2 ^ (l - m)) h (pow_pos (l - m)) (axis_fits k) (MeetsAround-MeetsOnAxis t)

  pub MeetsOnAxis-over : (s : ℤ) (q : ℕ) → IsUnitStep s → x < trees * 2 ^ l → IsNext (trees * 2 ^ l) wraps s x q → q / 2 ^ (l - m) ≡ y → MeetsOnAxis trees wraps (x * width l) (width l) (y * width m) (width m)
  MeetsOnAxis-over s q u h k e =
      MeetsOnAxis-MeetsAround (MeetsAround-over (trees * 2 ^ l) wraps s x q y (2 ^ (l - m)) u h (pow_pos (l - m)) k e)
