-- What is left of the proof of this function.
use Rattle.std.proofs.Common.{◌≡◌, ◌+◌, ◌-◌, Some, arith, length, slice_get, refl, sym, subst, ◌∙◌, true≢false, inl, inr}
use Rattle.std.proofs.lemmas.Bool.{cases_lt}
use Rattle.std.proofs.lemmas.Option.{slice_get_within, slice_get_read}
use Rattle.leaf_set.proofs.Overlaps.{first_overlap-from_next, apart-from_next, CoversNext-at}
use Rattle.leaf_set.proofs.faults.first_overlap.Goals as goal

pub returns-then-covers-clause-found : goal.returns-then-covers-clause-found
returns-then-covers-clause-found c =
    let places = c.args.places.now in
    let b = c.loop-b.b in
    let first : slice_get places (b - 1) ≡ Some c.index-places-b.result = slice_get_read places (length places) (b - 1) c.index-places-b.result refl (omega arith) c.index-places-b.is in
    let second : slice_get places b ≡ Some c.index-places-b-in-loop-b.result = slice_get_read places (length places) b c.index-places-b-in-loop-b.result refl (omega arith) c.index-places-b-in-loop-b.is in
    first_overlap-from_next places c.requires.in_order c.requires.limits (b - 1)
    (record {
      first = c.index-places-b.result;
      second = c.index-places-b-in-loop-b.result;
      is_first = first;
      is_second = subst (λ k. slice_get places k ≡ Some c.index-places-b-in-loop-b.result) (let e : b ≡ b - 1 + 1 = omega arith in e) second;
      over = sym c.if-covers.ensures.contains;
    })
    (λ k l. c.loop-b.invariant k (omega arith))

pub loop-b-preserved : goal.loop-b-preserved
loop-b-preserved c k l h =
    let places = c.args.places.now in
    let b = c.loop-b.b in
    let first : slice_get places (b - 1) ≡ Some c.index-places-b.result = slice_get_read places (length places) (b - 1) c.index-places-b.result refl (omega arith) c.index-places-b.is in
    let second : slice_get places b ≡ Some c.index-places-b-in-loop-b.result = slice_get_read places (length places) b c.index-places-b-in-loop-b.result refl (omega arith) c.index-places-b-in-loop-b.is in
    elim (cases_lt (k + 1) b) [
      | inl less ↦ c.loop-b.invariant k less h
      | inr more ↦
          true≢false
          (sym (CoversNext-at places k (b - 1) b c.index-places-b.result c.index-places-b-in-loop-b.result (omega arith) (omega arith) first second h)
          ∙ sym c.if-covers.ensures.contains)
    ]

pub returns-clause-none : goal.returns-clause-none
returns-clause-none c n =
    apart-from_next c.args.places.now c.requires.in_order c.requires.limits
    (λ k h. let w = slice_get_within c.args.places.now (k + 1) h.second h.is_second in c.loop-b.invariant k (omega arith) h)
