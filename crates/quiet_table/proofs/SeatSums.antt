-- A number that each seat has, added up over the seats.
use Rattle.std.proofs.Common.{◌≡◌, ◌≢◌, ℕ, zero, suc, ◌+◌, ◌≤◌, List, [], ◌∷◌, ◌++◌, set, refl, sym, ap, arith}
use mathlib.Core.Option.{some, some-injective, some-ne-none}
use lib.ListN.{get_elem?}
use Rattle.quiet_table.specs.declared.view.View.{View}
use Rattle.quiet_table.specs.BoardRule.{uncounted, stops, handles}

-- `of` is the number, `sums` adds it up
module _ {R E : Type 0} (of : View R E → ℕ) (sums : List (View R E) → ℕ) (blank : sums [] ≡ 0) (front : (v : View R E) (vs : List (View R E)) → sums (v ∷ vs) ≡ of v + sums vs) where
  sums_set : (views : List (View R E)) (id : ℕ) (v w : View R E) → get_elem? views id ≡ some v → sums (set views id w) + of v ≡ sums views + of w
  sums_set [] id v w at = absurd (some-ne-none v (sym at))
  sums_set (x ∷ xs) zero v w at = let q : of x ≡ of v = ap of (some-injective x v at) in let a = front x xs in let b = front w xs in omega (arith, q, a, b)
  sums_set (x ∷ xs) (suc id) v w at = let r = sums_set xs id v w at in let a = front x xs in let b = front x (set xs id w) in omega (arith, r, a, b)

  sums_more : (views : List (View R E)) (o : View R E) → sums (views ++ o ∷ []) ≡ sums views + of o
  sums_more [] o = let a = front o [] in omega (arith, a, blank)
  sums_more (x ∷ xs) o = let r = sums_more xs o in let a = front x xs in let b = front x (xs ++ o ∷ []) in omega (arith, r, a, b)

  sums_none : (views : List (View R E)) → ((j : ℕ) (x : View R E) → get_elem? views j ≡ some x → of x ≡ 0) → sums views ≡ 0
  sums_none [] none_of = blank
  sums_none (x ∷ xs) none_of = let a = none_of 0 x refl in let r = sums_none xs (λ j y e. none_of (suc j) y e) in let b = front x xs in omega (arith, a, r, b)

  -- where one view alone has any
  sums_one : (views : List (View R E)) (id : ℕ) (v : View R E) → get_elem? views id ≡ some v → ((j : ℕ) (x : View R E) → get_elem? views j ≡ some x → j ≢ id → of x ≡ 0) → sums views ≡ of v
  sums_one [] id v at others = absurd (some-ne-none v (sym at))
  sums_one (x ∷ xs) zero v at others = let q : of x ≡ of v = ap of (some-injective x v at) in let r = sums_none xs (λ j y e. others (suc j) y e (λ z. absurd (omega arith))) in let b = front x xs in omega (arith, q, r, b)
  sums_one (x ∷ xs) (suc id) v at others = let a = others 0 x refl (λ z. absurd (omega arith)) in let r = sums_one xs id v at (λ j y e n. others (suc j) y e (λ z. n (omega arith))) in let b = front x xs in omega (arith, a, r, b)

module _ {R E : Type 0} where
  abbrev open_of : View R E → ℕ
  open_of v = v.uncounted

  abbrev stops_of : View R E → ℕ
  stops_of v = v.stops

  abbrev handled_of : View R E → ℕ
  handled_of v = v.handled

  pub uncounted_set : (views : List (View R E)) (id : ℕ) (v w : View R E) → get_elem? views id ≡ some v → uncounted (set views id w) + v.uncounted ≡ uncounted views + w.uncounted
  uncounted_set = sums_set open_of uncounted refl (λ v vs. refl)

  pub uncounted_more : (views : List (View R E)) (o : View R E) → uncounted (views ++ o ∷ []) ≡ uncounted views + o.uncounted
  uncounted_more = sums_more open_of uncounted refl (λ v vs. refl)

  pub uncounted_same : (views : List (View R E)) (id : ℕ) (v w : View R E) → get_elem? views id ≡ some v → w.uncounted ≡ v.uncounted → uncounted (set views id w) ≡ uncounted views
  uncounted_same views id v w at q = let r = uncounted_set views id v w at in omega arith

  pub uncounted_split : (views : List (View R E)) (id : ℕ) (v w o : View R E) → get_elem? views id ≡ some v → w.uncounted ≡ v.uncounted → o.uncounted ≡ 0 → uncounted (set views id w ++ o ∷ []) ≡ uncounted views
  uncounted_split views id v w o at q none = let r = uncounted_set views id v w at in let p = uncounted_more (set views id w) o in omega arith

  pub stops_set : (views : List (View R E)) (id : ℕ) (v w : View R E) → get_elem? views id ≡ some v → stops (set views id w) + v.stops ≡ stops views + w.stops
  stops_set = sums_set stops_of stops refl (λ v vs. refl)

  pub stops_more : (views : List (View R E)) (o : View R E) → stops (views ++ o ∷ []) ≡ stops views + o.stops
  stops_more = sums_more stops_of stops refl (λ v vs. refl)

  pub stops_at_least : (views : List (View R E)) (id : ℕ) (v w : View R E) → get_elem? views id ≡ some v → v.stops ≤ w.stops → 1 ≤ stops views → 1 ≤ stops (set views id w)
  stops_at_least views id v w at more some_stop = let r = stops_set views id v w at in omega arith

  pub stops_one : (views : List (View R E)) (id : ℕ) (v : View R E) → get_elem? views id ≡ some v → ((j : ℕ) (x : View R E) → get_elem? views j ≡ some x → j ≢ id → x.stops ≡ 0) → stops views ≡ v.stops
  stops_one = sums_one stops_of stops refl (λ v vs. refl)

  pub handles_set : (views : List (View R E)) (id : ℕ) (v w : View R E) → get_elem? views id ≡ some v → handles (set views id w) + v.handled ≡ handles views + w.handled
  handles_set = sums_set handled_of handles refl (λ v vs. refl)

  pub handles_more : (views : List (View R E)) (o : View R E) → handles (views ++ o ∷ []) ≡ handles views + o.handled
  handles_more = sums_more handled_of handles refl (λ v vs. refl)

  pub handles_same : (views : List (View R E)) (id : ℕ) (v w : View R E) → get_elem? views id ≡ some v → w.handled ≡ v.handled → handles views ≡ handles (set views id w)
  handles_same views id v w at q = let r = handles_set views id v w at in omega arith

  pub handles_split : (views : List (View R E)) (id : ℕ) (v w o : View R E) → get_elem? views id ≡ some v → w.handled ≡ v.handled → o.handled ≡ 0 → handles views ≡ handles (set views id w ++ o ∷ [])
  handles_split views id v w o at q none = let r = handles_set views id v w at in let p = handles_more (set views id w) o in omega arith

  pub handles_one : (views : List (View R E)) (id : ℕ) (v : View R E) → get_elem? views id ≡ some v → ((j : ℕ) (x : View R E) → get_elem? views j ≡ some x → j ≢ id → x.handled ≡ 0) → handles views ≡ v.handled
  handles_one = sums_one handled_of handles refl (λ v vs. refl)
