use Rattle.std.proofs.Common.{rules, ◌≡◌, ◌≢◌, ◌+◌, ◌++◌, ℕ, [], ◌∷◌, map, length, Some, arith, sym, ap, subst, ◌∙◌, append_assoc, length-append}
use Rattle.std.specs.Prelude.{slice_get}
use Rattle.quiet_table.proofs.Emptying.{map_more, seen_kept, seen_left, seen_right, at_end, each_last, nil_of}
use Rattle.std.proofs.lemmas.Grind.{common_steps}
use Rattle.std.proofs.Common.{append-nil}
use Rattle.quiet_table.proofs.SeatSums.{stops_more, handles_more}
use Rattle.quiet_table.specs.BoardRule.{stops, handles}
use Rattle.quiet_table.proofs.board.Board.absorb_all.Goals as goal

pub absorb-requires-clause-own : goal.absorb-requires-clause-own
absorb-requires-clause-own g c =
    let it = c.requires.each (length c.loop-other.yielded) c.in-Some.other (at_end c.args.others.items c.loop-other.yielded c.in-Some.other c.next.new.self.rest.items (c.loop-other.invariant.items ∙ ap (λ l. c.loop-other.yielded ++ l) c.in-Some.ensures.steps.0)) in
    (c.loop-other.invariant.own ∙ c.requires.own, it.1)

pub absorb-requires-clause-next : goal.absorb-requires-clause-next
absorb-requires-clause-next g c =
    let it = c.requires.each (length c.loop-other.yielded) c.in-Some.other (at_end c.args.others.items c.loop-other.yielded c.in-Some.other c.next.new.self.rest.items (c.loop-other.invariant.items ∙ ap (λ l. c.loop-other.yielded ++ l) c.in-Some.ensures.steps.0)) in
    (c.loop-other.invariant.zeroth, it.0 ∙ ap (λ n. n + 1) (sym c.loop-other.invariant.joins))

pub absorb-requires-clause-bare : goal.absorb-requires-clause-bare
absorb-requires-clause-bare g c =
    let it = c.requires.each (length c.loop-other.yielded) c.in-Some.other (at_end c.args.others.items c.loop-other.yielded c.in-Some.other c.next.new.self.rest.items (c.loop-other.invariant.items ∙ ap (λ l. c.loop-other.yielded ++ l) c.in-Some.ensures.steps.0)) in
    it.2

pub loop-other-preserved : goal.loop-other-preserved
loop-other-preserved g c =
    let inv = c.loop-other.invariant in
    let ys = c.loop-other.yielded in
    let x = c.in-Some.other in
    let told = c.absorb.ensures.told in
    let f = c.loop-other.first.place.me.0 in
    let all = inv.items ∙ ap (λ l. ys ++ l) c.in-Some.ensures.steps.0 in
    let saw : (n : ℕ) → f.seen ≢ 0 → c.absorb.new.first.place.me.0.seen ≢ 0 = λ n h. rw (ap (λ z. z.seen) told) (seen_left f.seen x.place.me.0.seen h) in
    record {
      items = all ∙ sym (append_assoc ys (x ∷ []) c.next.new.self.rest.items);
      own = c.absorb.ensures.own.0 ∙ inv.own;
      zeroth = c.absorb.ensures.own.1;
      hands = ap (λ z. z.hands) told ∙ inv.hands;
      splits = ap (λ z. z.splits) told ∙ inv.splits;
      joins = ap (λ z. z.joins) told ∙ (ap (λ n. n + 1) inv.joins ∙ sym (length-append ys (x ∷ [])));
      stopped = let more = stops_more (map (λ s. s.place.me.0) ys) x.place.me.0 in let same = ap stops (map_more (λ s. s.place.me.0) ys x) in let a = ap (λ z. z.stops) told in let b = inv.stopped in omega arith;
      counted = let more = handles_more (map (λ s. s.place.me.0) ys) x.place.me.0 in let same = ap handles (map_more (λ s. s.place.me.0) ys x) in let a = ap (λ z. z.handled) told in let b = inv.counted in omega arith;
      saw = λ h. ap (λ z. z.seen) told ∙ (seen_kept f.seen x.place.me.0.seen (λ e. h (sym (inv.saw h) ∙ e)) ∙ inv.saw h);
      seen = each_last (λ s. s.place.me.0.seen ≢ 0 → c.absorb.new.first.place.me.0.seen ≢ 0) ys x (λ i s e h. saw 0 (inv.seen i s e h)) (λ h. rw (ap (λ z. z.seen) told) (seen_right f.seen x.place.me.0.seen h));
    }

pub returns-clause-seen : goal.returns-clause-seen
returns-clause-seen g c = let none : length c.loop-other.other-iterator.rest.items ≡ 0 = first_of (search rules, grind (arith, common_steps)) in let all : c.loop-other.yielded ≡ c.args.others.items = sym (c.loop-other.invariant.items ∙ (ap (λ l. c.loop-other.yielded ++ l) (nil_of c.loop-other.other-iterator.rest.items none) ∙ append-nil c.loop-other.yielded)) in (c.loop-other.invariant.saw, subst (λ l. (i : ℕ) (s : _) → slice_get l i ≡ Some s → s.place.me.0.seen ≢ 0 → c.loop-other.first.place.me.0.seen ≢ 0) all c.loop-other.invariant.seen)
