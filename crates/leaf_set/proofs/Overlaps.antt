-- Overlaps of places in order: what a place contains follows it, so it contains the next where it contains any.
use Rattle.std.proofs.Common.{◌≡◌, ℕ, ◌+◌, ◌-◌, ◌<◌, true, List, Some, slice_get, get_or, sym, ap, ◌∙◌, subst, arith, inl, inr}
use Rattle.std.proofs.lemmas.Bool.{cases_order}
use Rattle.std.proofs.lemmas.Option.{slice_get_within, slice_get-get_or, same_Some}
use Rattle.block_index.specs.Places.{Cube, IsPlace, covers}
use Rattle.block_index.specs.Order.{rank}
use Rattle.block_index.proofs.Covering.{Covers-from_test, test-from_Covers}
use Rattle.block_index.proofs.Descendants.{covers-between}
use Rattle.leaf_set.specs.LeafFaults.{StandInOrder, Overlaps, IsFirstPair, LieApart}
use Rattle.leaf_set.proofs.Containment.{Contains-covers}
use Rattle.leaf_set.proofs.InOrder.{in_order}
use Rattle.leaf_set.proofs.Spots.{rank-Contains}

-- the place at k contains the next
pub record CoversNext (places : List Cube) (k : ℕ) : Type 0 where
  pub first : Cube
  pub second : Cube
  pub is_first : slice_get places k ≡ Some first
  pub is_second : slice_get places (k + 1) ≡ Some second
  pub over : covers first second ≡ true

-- it contains the one that is read there
pub CoversNext-at : (places : List Cube) (k i j : ℕ) (a c : Cube) → k ≡ i → k + 1 ≡ j → slice_get places i ≡ Some a → slice_get places j ≡ Some c → CoversNext places k → covers a c ≡ true
CoversNext-at places k i j a c e f s t h =
    let first : h.first ≡ a = same_Some h.first a (sym h.is_first ∙ ap (slice_get places) e ∙ s) in
    let second : h.second ≡ c = same_Some h.second c (sym h.is_second ∙ ap (slice_get places) f ∙ t) in
    subst (λ p. covers p c ≡ true) first (subst (λ p. covers h.first p ≡ true) second h.over)

module _ (places : List Cube) (ordered : StandInOrder places) (limits : (i : ℕ) (c : Cube) → slice_get places i ≡ Some c → IsPlace c) where
  -- a place that contains a later one contains each between
  next_within : (i j : ℕ) (a c : Cube) → i < j → slice_get places i ≡ Some a → slice_get places j ≡ Some c → covers a c ≡ true → CoversNext places i
  next_within i j a c l s t over =
      elim (cases_order (i + 1) j) [
        | inl same ↦ record { first = a; second = c; is_first = s; is_second = subst (λ k. slice_get places k ≡ Some c) (let e : j ≡ i + 1 = omega arith in e) t; over = over }
        | inr r ↦
            elim r [
              | inl less ↦
                  let w = slice_get_within places j c t in
                  let b = get_or places (i + 1) c in
                  let at : slice_get places (i + 1) ≡ Some b = slice_get-get_or places (i + 1) c (omega arith) in
                  let low : rank a < rank b = in_order places ordered i (i + 1) a b (omega arith) s at in
                  let high : rank b < rank c = in_order places ordered (i + 1) j b c less at t in
                  let between = covers-between a b c (limits i a s) (limits (i + 1) b at) (limits j c t) (Covers-from_test a c over) low high in
                  record { first = a; second = b; is_first = s; is_second = at; over = test-from_Covers a b between }
              | inr more ↦ absurd (omega arith)
            ]
      ]

  -- of two places that overlap the earlier contains the next
  Overlaps-next : (i j : ℕ) → Overlaps places i j → CoversNext places i
  Overlaps-next i j o =
      elim o.contains [
        | inl over ↦ next_within i j o.first o.second o.later o.is_first o.is_second over
        | inr under ↦
            absurd
            (let low : rank o.first < rank o.second = in_order places ordered i j o.first o.second o.later o.is_first o.is_second in
            let high = rank-Contains (o.first.level - o.second.level) o.second o.first (Contains-covers o.second o.first under) (limits i o.first o.is_first).level in
            omega arith)
      ]

  pub first_overlap-from_next : (a : ℕ) → CoversNext places a → ((k : ℕ) → k < a → CoversNext places k → ⊥) → IsFirstPair (Overlaps places) a (a + 1)
  first_overlap-from_next a h none = record {
    here = record { first = h.first; second = h.second; later = omega arith; is_first = h.is_first; is_second = h.is_second; contains = inl h.over };
    none_of_lesser = λ i j l o. none i l (Overlaps-next i j o);
    none_before = λ j l o. let m = o.later in let both : a < j = m in absurd (omega arith);
  }

  pub apart-from_next : ((k : ℕ) → CoversNext places k → ⊥) → LieApart places
  apart-from_next none i j o = none i (Overlaps-next i j o)
