-- The slots that are out are those of the hands.
use Rattle.std.proofs.Common.{◌≡◌, ℕ, ◌+◌, ◌-◌, ◌≤◌, true, arith, ◌∙◌, List, [], ◌∷◌, refl, ap, sym, Option, None}
use Rattle.atomic_table.specs.Table.{rest, Me}
use Rattle.quiet_table.specs.declared.view.Hand.{Hand}
use Rattle.quiet_table.specs.declared.view.View.{View}
use Rattle.quiet_table.specs.declared.item.Item.{Item}
use Rattle.quiet_table.specs.Contents.{Contents}
use Rattle.quiet_table.specs.Views.{FirstIs, carried_of, recarried, turned}
use Rattle.quiet_table.specs.Hands.{Goes}

module _ (C B : Type 0) {R E : Type 0} where
  -- the first of the slots that are out is the first hand's
  pub first_out : (k : ℕ) (hands : List (Hand R E)) → FirstIs k hands → carried_of {C = C} {B = B} hands ≡ (k, None) ∷ rest (carried_of {C = C} {B = B} hands)
  first_out k [] is = absurd is
  first_out k (h ∷ hs) is = ap (λ (z : ℕ). (z, None) ∷ carried_of hs) is

  pub goes_out : (hands : List (Hand R E)) (c : Contents R E) (hs' : List (Hand R E)) → Goes hands c hs' → rest (carried_of {C = C} {B = B} hands) ≡ carried_of {C = C} {B = B} hs'
  goes_out [] c hs' g = absurd g
  goes_out (h ∷ []) c hs' g = ap carried_of (sym g)
  goes_out (h ∷ g0 ∷ []) c hs' g = ap carried_of (sym g.2)
  goes_out (h ∷ g0 ∷ f ∷ hs) c hs' g = ap carried_of (sym g)

  -- a turn leaves the same slots out
  pub recarried_out : (r : R) (es : List E) (hands : List (Hand R E)) → carried_of {C = C} {B = B} hands ≡ carried_of {C = C} {B = B} (recarried r es hands)
  recarried_out r es [] = refl
  recarried_out r es (h ∷ hs) = refl

  pub count_enough : (v : View R E) (out : List (ℕ × Option (Item C B))) (m : Me (Option (Item C B)) (View R E)) (r : R) (es : List E) (handled : ℕ) → m ≡ (turned handled r es v, out) → handled ≤ m.0.uncounted
  count_enough v out m r es handled e = let q = ap (λ (z : Me (Option (Item C B)) (View R E)). z.0.uncounted) e in omega arith

  -- the first step of a count keeps that the seat is live
  pub count_live : (v : View R E) (out : List (ℕ × Option (Item C B))) (m : Me (Option (Item C B)) (View R E)) (r : R) (es : List E) (handled : ℕ) → m ≡ (turned handled r es v, out) → v.live ≡ true → m.0.live ≡ true
  count_live v out m r es handled e live = ap (λ (z : Me (Option (Item C B)) (View R E)). z.0.live) e ∙ live

  -- the two steps of a count
  pub count_done : (v : View R E) (out : List (ℕ × Option (Item C B))) (m m' : Me (Option (Item C B)) (View R E)) (r : R) (es : List E) (handled : ℕ) → m ≡ (turned handled r es v, out) → m' ≡ (record m.0 { uncounted = m.0.uncounted - handled; handled = m.0.handled + handled }, m.1)
      → m' ≡ (record v { hands = recarried r es v.hands; handled = v.handled + handled }, out)
  count_done v out m m' r es handled e f =
      let back : (v.uncounted + handled) - handled ≡ v.uncounted = omega arith in
      f ∙ (ap (λ (z : Me (Option (Item C B)) (View R E)). (record z.0 { uncounted = z.0.uncounted - handled; handled = z.0.handled + handled }, z.1)) e ∙ ap (λ (n : ℕ). (record v { hands = recarried r es v.hands; uncounted = n; handled = v.handled + handled }, out)) back)
