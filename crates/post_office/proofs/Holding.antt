-- What a seat knows of the cell and the box that it holds.
use Rattle.std.proofs.Common.{◌≡◌, ◌≢◌, ℕ, zero, suc, ◌+◌, ◌*◌, ◌<◌, ◌^◌, List, [], ◌∷◌, ◌++◌, length, Option, Some, None, refl, sym, ◌∙◌, ap, subst, arith, length-append}
use Rattle.std.specs.Prelude.{slice_get}
use Rattle.std.proofs.lemmas.Option.{same_Some}
use mathlib.Core.Option.{some, some-injective, some-ne-none}
use lib.ListN.{get_elem?}
use Rattle.phase_core.specs.declared.envelope.Envelope.{Envelope}
use Rattle.phase_core.specs.Machine.{Reaction}
use Rattle.quiet_table.specs.declared.view.Hand.{Hand}
use Rattle.quiet_table.specs.Views.{hand_of, hand_pool, NotHeld}
use Rattle.quiet_table.specs.Hands.{InLegal}
use Rattle.post_office.specs.declared.plain.Stood.{Stood}
use Rattle.post_office.specs.declared.plain.Part.{Part}
use Rattle.post_office.specs.declared.plain.About.{About}
use Rattle.post_office.specs.Lemmas.LegalLaws.{Obeys, bounded}
use Rattle.post_office.specs.Posts.{about, about_part, IsLegal, Standing}

module _ {P Q C M : Type 0} (problem : P → List C → Q) (holds : Q → List C → List (Envelope M) → Type 0) (weight : Q → List C → List (Envelope M) → ℕ) (bound : Q → ℕ) where
  -- what legal contents are about
  pub about_is : (rests : List (Part P Q C)) (es : List (Envelope M)) (total : ℕ) (l : IsLegal problem holds weight bound rests es total) → 0 < length rests → about rests ≡ Some (record { phase = l.phase; problem = problem l.phase l.cells; owners = l.owners })
  about_is [] es total l low = absurd (omega arith)
  about_is (r ∷ rests) es total l low =
      let some_shard : 0 < l.shards = (let w = l.wide in omega (arith, w)) in
      let c = l.each_cell 0 r some_shard refl in
      ap (λ z. about_part r.owners z (about rests)) c.is ∙ (λ i. Some (record { phase = c.of_phase i; problem = c.of_problem i; owners = c.its_owners i }))

  module _ (shards : ℕ) (slots : ℕ) (slots_are : slots ≡ 2 * shards) (from : Option (About P Q)) (a : About P Q) (from_is : from ≡ Some a) (hands : List (Hand (Part P Q C) (Envelope M))) (l : InLegal (IsLegal problem holds weight bound) about slots from hands) where
    same_shards : l.legal_then.shards ≡ shards
    same_shards = let w = l.legal_then.wide in let n = l.count in omega (arith, w, n, slots_are)

    same_about : 0 < shards → (l.legal_then.phase ≡ a.phase) × (l.legal_then.owners ≡ a.owners) × (problem l.legal_then.phase l.legal_then.cells ≡ a.problem)
    same_about some_shard =
        let low : 0 < length l.rests = (let n = l.count in omega (arith, n, slots_are, some_shard)) in
        let is = same_Some _ a (sym (about_is l.rests (hand_pool hands ++ l.others) l.total l.legal_then low) ∙ (l.same_origin ∙ from_is)) in
        (ap (λ (z : About P Q). z.phase) is, ap (λ (z : About P Q). z.owners) is, ap (λ (z : About P Q). z.problem) is)

    -- a cell that is held, at place b of what is held
    module _ (s : ℕ) (within : s < shards) (b : ℕ) (owners : List ℕ) (n waits : ℕ) (st : Stood P Q C) (es : List (Envelope M)) (at : get_elem? hands b ≡ some (hand_of s (record { rest = record { owners = owners; shard = n; waits = waits; stood = Some st }; parcels = es }))) where
      pub cell_number : n ≡ s
      cell_number =
          let c = l.legal_then.each_cell s _ (omega (arith, same_shards, within)) (l.there b _ at) in c.its_shard

      pub cell_about : (st.phase ≡ a.phase) × (owners ≡ a.owners) × (st.problem ≡ a.problem)
      cell_about =
          let c = l.legal_then.each_cell s _ (omega (arith, same_shards, within)) (l.there b _ at) in
          let q : c.stood ≡ st = same_Some c.stood st (sym c.is) in
          let is = same_about (omega (arith, within)) in
          (ap (λ (z : Stood P Q C). z.phase) (sym q) ∙ (c.of_phase ∙ is.0), c.its_owners ∙ is.1, ap (λ (z : Stood P Q C). z.problem) (sym q) ∙ (c.of_problem ∙ is.2))

      pub cell_stands : Standing problem holds weight bound owners s st (hand_pool hands)
      cell_stands = record {
        rests = l.rests;
        waits = waits;
        others = l.others;
        total = l.total;
        legal = l.legal_then;
        within = (let w = l.count in omega (arith, w, slots_are, within));
        there = l.there b _ at ∙ ap (λ (k : ℕ). Some (record { owners = owners; shard = k; waits = waits; stood = Some st })) cell_number;
      }

    -- a box that is held
    pub box_about : (t : ℕ) → t < shards → (b : ℕ) (owners : List ℕ) (n waits : ℕ) (es : List (Envelope M)) → get_elem? hands b ≡ some (hand_of (shards + t) (record { rest = record { owners = owners; shard = n; waits = waits; stood = None }; parcels = es })) → (n ≡ t) × (owners ≡ a.owners)
    box_about t within b owners n waits es at =
        let x = l.legal_then.each_box t _ (subst (λ k. slice_get l.rests (k + t) ≡ Some (record { owners = owners; shard = n; waits = waits; stood = None })) (sym same_shards) (l.there b _ at)) in
        (x.its_shard, x.its_owners ∙ (same_about (omega (arith, within))).1)

  pub few_held : (react : Q → ℕ → C → M → Reaction C M) → Obeys problem holds weight bound react → (slots : ℕ) (from : Option (About P Q)) (hands : List (Hand (Part P Q C) (Envelope M))) → InLegal (IsLegal problem holds weight bound) about slots from hands → length (hand_pool hands) < 2 ^ 62
  few_held react laws slots from hands l =
      let b = bounded problem holds weight bound react laws l.rests (hand_pool hands ++ l.others) l.total l.legal_then in
      let n = length-append (hand_pool hands) l.others in omega (arith, b, n)

-- another slot is not held
pub not_held_one : {R E : Type 0} (k : ℕ) (h : Hand R E) (hands : List (Hand R E)) → hands ≡ h ∷ [] → h.slot ≢ k → NotHeld k hands
not_held_one {R} {E} k h hands one other = subst (NotHeld k) (sym one) only
  where
    only : (a : ℕ) (g : Hand R E) → get_elem? (h ∷ []) a ≡ some g → g.slot ≢ k
    only zero g e q = other (ap (λ (z : Hand R E). z.slot) (some-injective h g e) ∙ q)
    only (suc zero) g e q = some-ne-none g (sym e)
    only (suc (suc a)) g e q = some-ne-none g (sym e)
