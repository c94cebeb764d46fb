use Rattle.std.proofs.Common.{◌≡◌, ◌≢◌, ◌⊎◌, inl, inr, ◌+◌, ◌++◌, [], Some, sym, ap, ◌∙◌, subst, arith, append_assoc}
use Rattle.std.specs.Prelude.{slice_get}
use Rattle.std.proofs.lemmas.Bool.{cases_eq}
use Rattle.std.proofs.lemmas.List.Elements.{All-append}
use Rattle.post_office.specs.Finds.{FoundHeld}
use Rattle.post_office.proofs.Founds.{found_wider, kept_then}
use Rattle.post_office.proofs.post.Post.send.Goals as goal

pub loop-t-preserved : goal.loop-t-preserved
loop-t-preserved g c =
    let i = c.loop-t.invariant in
    let e = c.try_deliver-served.ensures in
    let t = c.loop-t.t in
    let s = c.args.s in
    let S = c.args.self.now.board.shards in
    let mail2 = c.try_deliver-served.result.mail.items in
    let f0 = c.args.seat.now.place.me.0.finds in
    let f1 = c.loop-t.seat.place.me.0.finds in
    let f2 = c.try_deliver-served.new.seat.place.me.0.finds in
    record {
      own = (e.own.0 ∙ i.own.0, e.own.1 ∙ i.own.1);
      kept = (e.kept.0 ∙ i.kept.0, e.kept.1 ∙ i.kept.1, e.kept.2 ∙ i.kept.2, e.kept.3 ∙ i.kept.3, e.kept.4 ∙ i.kept.4, e.kept.5 ∙ i.kept.5);
      waiting = e.waiting ∙ i.waiting;
      gone = λ u es low other at. elim (cases_eq u t) [
        | inl q ↦ subst (λ z. (es ≡ []) ⊎ FoundHeld (S + z) f0 f2) (sym q) (found_wider (S + t) f0 f1 f2 f2 (es ≡ []) (i.finds (S + t)) (omega arith) (e.gone es (λ z. other (q ∙ z)) (subst (λ z. slice_get mail2 z ≡ Some es) q at)))
        | inr n ↦ found_wider (S + u) f0 f0 f1 f2 (es ≡ []) (omega arith) (e.finds (S + u)) (i.gone u es (omega (arith, low, n)) other (sym (e.others u n) ∙ at))
      ];
      held = e.held;
      gave = (e.gave.0 ++ i.gave.0, e.gave.1 ∙ (ap (λ l. e.gave.0 ++ l) i.gave.1 ∙ sym (append_assoc e.gave.0 i.gave.0 c.args.seat.now.place.me.0.gave)), All-append (λ h. h.slot ≢ S + s) e.gave.0 i.gave.0 e.gave.2 i.gave.2);
      finds = λ k. omega (arith, i.finds k, e.finds k);
      rest = kept_then c.args.seat.now.place.me.0 c.loop-t.seat.place.me.0 c.try_deliver-served.new.seat.place.me.0 i.rest e.rest;
    }
