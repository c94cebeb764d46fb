-- A quiet board has no envelope.
use Rattle.std.proofs.Common.{◌≡◌, ℕ, zero, suc, ◌*◌, List, [], ◌∷◌, map, length, get_or, sym, ap, ◌∙◌, refl, ⊎_elim, arith, length-append, Option}
use mathlib.Core.Option.{some, some-injective, some-ne-none}
use lib.ListN.{get_elem?}
use Rattle.atomic_table.specs.Table.{State}
use Rattle.quiet_table.specs.declared.view.View.{View}
use Rattle.quiet_table.specs.declared.item.Item.{Item}
use Rattle.quiet_table.specs.Contents.{Contents, parcels_of, pool}
use Rattle.quiet_table.specs.BoardRule.{AtHome, IsOut, BoardRule}
use Rattle.quiet_table.specs.Quiet.{NoneLeft}

none_long : {X : Type 0} (xs : List X) → length xs ≡ 0 → xs ≡ []
none_long [] e = refl
none_long (x ∷ xs) e = absurd (omega arith)

empty_at : {R E : Type 0} (settled : List (Contents R E)) (k : ℕ) (c : Contents R E) → length (pool (map parcels_of settled)) ≡ 0 → get_elem? settled k ≡ some c → c.parcels ≡ []
empty_at [] k c z e = absurd (some-ne-none c (sym e))
empty_at {R} {E} (x ∷ xs) zero c z e = let l = length-append x.parcels (pool (map parcels_of xs)) in sym (ap (λ (y : Contents R E). y.parcels) (some-injective x c e)) ∙ none_long x.parcels (omega arith)
empty_at (x ∷ xs) (suc k) c z e = let l = length-append x.parcels (pool (map parcels_of xs)) in empty_at xs k c (omega arith) e

pub quiet_empty : {C B R E O : Type 0} (contents : Item C B → Contents R E) (legal : List R → List E → ℕ → Type 0) (origin : List R → O) (shards : ℕ) (from : O) (s : State (Option (Item C B)) (View R E)) → BoardRule contents legal origin shards from s → get_or s.words (4 * shards) 0 ≡ 1 → NoneLeft contents shards s
quiet_empty contents legal origin shards from s r quiet =
    let none = r.counts.quiet quiet in
    record {
      slots = λ k low free. ⊎_elim
          (λ (t : AtHome contents shards s r.settled k). (t.0, t.2, empty_at r.settled k (contents t.0) none.0 t.4))
          (λ (t : IsOut s.views k). let f = r.each_hand t.0 t.1 t.2 t.3 t.4 t.5 in let u = f.turn in let z : get_or s.words t.3.slot 0 ≡ 0 = ap (λ y. get_or s.words y 0) t.6 ∙ free in absurd (omega arith))
          (r.each_slot k low);
      hands = λ j v a h e f. let p = r.each_hand j v a h e f in empty_at r.settled h.slot (record { rest = h.rest; parcels = h.parcels }) none.0 p.content;
      counted = none.1;
    }
