-- A visit that ran out of memory: the stop comes after all that it did.
use Rattle.std.proofs.Common.{◌≡◌, ◌⊎◌, ℕ, ◌+◌, List, sym, ◌∙◌, ap, subst}
use Rattle.phase_core.specs.declared.envelope.Envelope.{Envelope}
use Rattle.phase_core.specs.Machine.{Reaction}
use Rattle.quiet_table.specs.declared.view.View.{View}
use Rattle.post_office.specs.declared.plain.Part.{Part}
use Rattle.post_office.specs.Finds.{FoundHeld, GivenBack}
use Rattle.post_office.specs.Visits.{Served}

module _ {P Q C M : Type 0} (problem : P → List C → Q) (holds : Q → List C → List (Envelope M) → Type 0) (weight : Q → List C → List (Envelope M) → ℕ) (bound : Q → ℕ) (react : Q → ℕ → C → M → Reaction C M) (shards s : ℕ) where
  pub served_stop : (v w x : View (Part P Q C) (Envelope M)) (handled sent left : ℕ) → Served problem holds weight bound react shards s v w handled sent left → x.gave ≡ w.gave → x.finds ≡ w.finds → x.hands ≡ w.hands → Served problem holds weight bound react shards s v x handled sent left
  served_stop v w x handled sent left d gave finds hands = record {
    owners = d.owners;
    before = d.before;
    waited = d.waited;
    after = d.after;
    counted = d.counted;
    remain = d.remain;
    waits = d.waits;
    boxes = d.boxes;
    legal_before = d.legal_before;
    turns = d.turns;
    legal_after = d.legal_after;
    given = gave ∙ d.given;
    left_is = d.left_is;
    own_box = subst (λ f. FoundHeld (shards + s) v.finds f ⊎ GivenBack (shards + s) d.boxes) (sym finds) d.own_box;
    own_empty = d.own_empty;
    hands = hands ∙ d.hands;
  }

pub stopped_view : {R E : Type 0} (v w x : View R E) (handled n : ℕ) → w ≡ record v { handled = handled; finds = w.finds; gave = w.gave } → x ≡ record w { stops = w.stops + 1; seen = n } → x ≡ record v { handled = handled; finds = x.finds; gave = x.gave; stops = v.stops + 1; seen = x.seen }
stopped_view {R} {E} v w x handled n same stop =
    let one : x ≡ record v { handled = handled; finds = w.finds; gave = w.gave; stops = v.stops + 1; seen = n } = stop ∙ ap (λ (z : View R E). record z { finds = w.finds; gave = w.gave; stops = z.stops + 1; seen = n }) same in
    one ∙ (λ i. record v { handled = handled; finds = (sym (ap (λ (z : View R E). z.finds) one)) i; gave = (sym (ap (λ (z : View R E). z.gave) one)) i; stops = v.stops + 1; seen = (sym (ap (λ (z : View R E). z.seen) one)) i })
