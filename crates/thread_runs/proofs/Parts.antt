-- Lists whose places are gone through one after another, or part by part, and lists of jobs.
use Rattle.std.proofs.Common.{◌≡◌, ℕ, ◌+◌, ◌-◌, ◌<◌, ◌≤◌, ◌⊎◌, List, ◌++◌, Some, Result, Ok, Err, IfOk, IfErr, length, refl, sym, ap, ◌∙◌, subst, arith, inl, inr, length-append}
use Rattle.std.specs.Prelude.{slice_index_or, slice_set}
use Rattle.std.proofs.lemmas.List.{length-set, get_or-set_same, get_or-set_other, get_or_append_left, get_or-append-add}
use Rattle.std.proofs.lemmas.Bool.{cases_lt}
use Rattle.std.proofs.lemmas.Option.{slice_get-get_or, slice_get_within, get_or_from_slice_get}
use denote.Ref.{MutBor}
use denote.Param.Members.{Shared}
use Rattle.std.specs.Fork.{AcceptsJobs, GivesJobs}
use Rattle.thread_runs.specs.Jobs.{GivesAll, TakesAll}
use Rattle.thread_runs.specs.Lemmas.Calls.{an_element}
use Rattle.thread_runs.specs.Runs.{AcceptsAll, AcceptsEach, CallsAt, ChangesAll, ChangesEach, RefusesAny, RefusesOne}

-- ---- one place after another

-- R holds of each place below n, before and after, and the others stand as they did
pub record Course {T : Type 0} (R : ℕ → T → T → Type 0) (n : ℕ) (old now : List T) : Type 0 where
  pub many : length now ≡ length old
  pub ahead : (j : ℕ) (d : T) → n ≤ j → slice_index_or now j d ≡ slice_index_or old j d
  pub changed : (j : ℕ) (d : T) → j < n → R j (slice_index_or old j d) (slice_index_or now j d)

pub one_more : {T : Type 0} (R : ℕ → T → T → Type 0) (n : ℕ) (old now : List T) (y : T) → n < length now → Course R n old now
    → ((d : T) → R n (slice_index_or now n d) y) → Course R (n + 1) old (slice_set now n y)
one_more {T} R n old now y within course is = record {
  many = length-set now n y ∙ course.many;
  ahead = λ j d h. get_or-set_other now n j y d (λ e. omega (arith, h, e)) ∙ course.ahead j d (omega (arith, h));
  changed = λ j d h. elim (cases_lt j n) [
    | inl below ↦ subst (R j (slice_index_or old j d)) (sym (get_or-set_other now n j y d (λ e. omega (arith, below, e)))) (course.changed j d below)
    | inr above ↦
        let same : n ≡ j = omega (arith, h, above) in
        subst (λ (i : ℕ). R i (slice_index_or old i d) (slice_index_or (slice_set now n y) i d)) same
        (subst (λ (x : T). R n x (slice_index_or (slice_set now n y) n d)) (course.ahead n d (omega arith))
        (subst (R n (slice_index_or now n d)) (sym (get_or-set_same now n y d within)) (is d)))
  ];
}

-- ---- part by part

-- R holds of each place, counted from a base, before and after
pub record Changes {T : Type 0} (R : ℕ → T → T → Type 0) (base : ℕ) (old now : List T) : Type 0 where
  pub many : length now ≡ length old
  pub each : (i : ℕ) (d : T) → i < length old → R (base + i) (slice_index_or old i d) (slice_index_or now i d)

-- what holds of both parts holds of the whole
pub joined : {T : Type 0} (R : ℕ → T → T → Type 0) (base next : ℕ) (all first rest first_now rest_now : List T) → all ≡ first ++ rest → next ≡ base + length first
    → Changes R base first first_now → Changes R next rest rest_now → Changes R base all (first_now ++ rest_now)
joined {T} R base next all first rest first_now rest_now is after one other =
    let long = length-append first rest in
    let long_now = length-append first_now rest_now in
    let whole = ap length is in
    let one_many = one.many in
    let other_many = other.many in
    record {
      many = omega (arith, long, long_now, whole, one_many, other_many);
      each = λ i d h. elim (cases_lt i (length first)) [
        | inl below ↦
            subst (λ (x : T). R (base + i) x (slice_index_or (first_now ++ rest_now) i d)) (sym (ap (λ l. slice_index_or l i d) is ∙ get_or_append_left first rest d i below))
            (subst (R (base + i) (slice_index_or first i d)) (sym (get_or_append_left first_now rest_now d i (omega (arith, below, one_many)))) (one.each i d below))
        | inr above ↦
            let k = i - length first in
            let here : length first + k ≡ i = omega (arith, above) in
            let here_now : length first_now + k ≡ i = omega (arith, above, one_many) in
            let place : next + k ≡ base + i = omega (arith, after, above) in
            subst (λ (n : ℕ). R n (slice_index_or all i d) (slice_index_or (first_now ++ rest_now) i d)) place
            (subst (λ (x : T). R (next + k) x (slice_index_or (first_now ++ rest_now) i d)) (sym (ap (λ l. slice_index_or l i d) is ∙ (ap (λ n. slice_index_or (first ++ rest) n d) (sym here) ∙ get_or-append-add first rest k d)))
            (subst (R (next + k) (slice_index_or rest k d)) (sym (ap (λ n. slice_index_or (first_now ++ rest_now) n d) (sym here_now) ∙ get_or-append-add first_now rest_now k d))
            (other.each k d (omega (arith, above, h, long, whole)))))
      ];
    }

module _ {F T E : Type 0} (g : Shared F (ℕ × (MutBor T × Unit {0})) (Result (Unit {0}) E × (MutBor T × Unit {0}))) (f : F)
    (base next : ℕ) (all first rest : List T) (is : all ≡ first ++ rest) (after : next ≡ base + length first) where
  -- where all calls of both parts answer Ok, so do all calls
  pub all_changed : (first_now rest_now : List T) (r : Result (Unit {0}) E) → IfOk r (λ _. ChangesAll g f base first first_now)
      → IfOk r (λ _. ChangesAll g f next rest rest_now) → IfOk r (λ _. ChangesAll g f base all (first_now ++ rest_now))
  all_changed first_now rest_now (Ok _) one other =
      let R : ℕ → T → T → Type 0 = λ i x y. CallsAt g f i x (Ok tt) y in
      let both = joined R base next all first rest first_now rest_now is after (record { many = one.many; each = one.each }) (record { many = other.many; each = other.each }) in
      record { many = both.many; each = both.each }
  all_changed first_now rest_now (Err _) one other = tt

  -- an error of a call of either part is one of a call of all
  pub one_refused : (r : Result (Unit {0}) E) → IfErr r (λ e. RefusesAny g f base first e ⊎ RefusesAny g f next rest e) → IfErr r (RefusesAny g f base all)
  one_refused (Ok _) either = tt
  one_refused (Err e) either =
      let long = length-append first rest in
      let whole = ap length is in
      elim either [
        | inl one ↦ record {
          at = one.at;
          within = let h = one.within in omega (arith, h, long, whole);
          before = one.before;
          before_is = λ d. ap (λ l. slice_index_or l one.at d) is ∙ (get_or_append_left first rest d one.at one.within ∙ one.before_is d);
          left = one.left;
          call = one.call;
        }
        | inr one ↦
            let place : next + one.at ≡ base + (length first + one.at) = omega (arith, after) in
            record {
              at = length first + one.at;
              within = let h = one.within in omega (arith, h, long, whole);
              before = one.before;
              before_is = λ d. ap (λ l. slice_index_or l (length first + one.at) d) is ∙ (get_or-append-add first rest one.at d ∙ one.before_is d);
              left = one.left;
              call = subst (λ (n : ℕ). CallsAt g f n one.before (Err e) one.left) place one.call;
            }
      ]

-- ---- places counted from 0

module _ {F T E : Type 0} (g : Shared F (ℕ × (MutBor T × Unit {0})) (Result (Unit {0}) E × (MutBor T × Unit {0}))) (f : F) where
  pub from_0 : (i : ℕ) → 0 + i ≡ i
  from_0 i = omega arith

  pub accepts_all : (xs : List T) → AcceptsEach g f xs → AcceptsAll g f 0 xs
  accepts_all xs each i p within is =
      subst (λ (n : ℕ). g.pre f (n, (p, tt))) (sym (from_0 i)) (each i p (slice_get-get_or xs i p.now within ∙ ap (λ z. Some z) (sym is)))

  pub changes_each : (xs ys : List T) (r : Result (Unit {0}) E) → IfOk r (λ _. ChangesAll g f 0 xs ys) → IfOk r (λ _. ChangesEach g f xs ys)
  changes_each xs ys (Ok _) all = λ i x y before after.
      subst (λ (n : ℕ). CallsAt g f n x (Ok tt) y) (from_0 i)
      (subst (λ (a : T). CallsAt g f (0 + i) a (Ok tt) y) (get_or_from_slice_get xs i x x before)
      (subst (CallsAt g f (0 + i) (slice_index_or xs i x) (Ok tt)) (get_or_from_slice_get ys i y x after) (all.each i x (slice_get_within xs i x before))))
  changes_each xs ys (Err _) all = tt

  pub refuses_one : (xs : List T) (r : Result (Unit {0}) E) → IfErr r (RefusesAny g f 0 xs) → IfErr r (RefusesOne g f xs)
  refuses_one xs (Ok _) any = tt
  refuses_one xs (Err e) any = record {
    at = any.at;
    before = any.before;
    before_is = slice_get-get_or xs any.at any.before any.within ∙ ap (λ z. Some z) (any.before_is any.before);
    left = any.left;
    call = subst (λ (n : ℕ). CallsAt g f n any.before (Err e) any.left) (from_0 any.at) any.call;
  }

-- ---- jobs and their results

pub takes : {F J R : Type 0} (g : Shared F (J × Unit {0}) R) (f : F) (js : List J) → AcceptsJobs g f js → TakesAll g f js
takes g f js accepts i j at = accepts i j (slice_get_within js i j at) (sym (get_or_from_slice_get js i j j at))

pub gives : {F J R : Type 0} (g : Shared F (J × Unit {0}) R) (f : F) (js : List J) (rs : List R) → GivesAll g f js rs → GivesJobs g f js rs
gives g f js rs all i d below =
    let job = an_element js i below in
    let many = all.many in (
      refl,
      record {
        job = job.0;
        job_read = sym (get_or_from_slice_get js i job.0 job.0 job.1);
        job_is = λ x. get_or_from_slice_get js i job.0 x job.1;
        call = all.each i job.0 (slice_index_or rs i d) job.1 (slice_get-get_or rs i d (omega (arith, below, many)));
      },
    )
