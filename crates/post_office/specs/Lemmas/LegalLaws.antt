-- Legal contents stay legal: in any order of the envelopes, and after a turn. All that a phase promises stands in
-- one record.
use Rattle.std.proofs.Common.{◌≡◌, ℕ, zero, suc, ◌+◌, ◌-◌, ◌<◌, ◌≤◌, ◌^◌, List, [], ◌∷◌, ◌++◌, length, Option, Some, None, refl, sym, ◌∙◌, ap, subst, arith, length-append, inl, inr}
use Rattle.std.specs.Prelude.{slice_get, slice_set, IsPermutation}
use Rattle.std.proofs.lemmas.Bool.{cases_order, cases_eq}
use Rattle.std.proofs.lemmas.List.Elements.{All-head}
use Rattle.std.proofs.lemmas.List.Sorted.{length_permutation, IsPermutation-append_left}
use Rattle.std.proofs.lemmas.Option.{none-some, same_Some}
use Rattle.phase_core.specs.declared.envelope.Envelope.{Envelope}
use Rattle.phase_core.specs.Machine.{Reaction}
use Rattle.phase_core.specs.PhaseLaws.{Keeps, Lowers, KeepsParts, HoldsInAnyOrder, WeighsInAnyOrder, IsAddressed, StartWeightFits}
use Rattle.post_office.specs.declared.plain.Stood.{Stood}
use Rattle.post_office.specs.declared.plain.Part.{Part}
use Rattle.post_office.specs.Shares.{IsFor, of_shard, rank}
use Rattle.post_office.specs.Lemmas.Shares.{get_of_shard, set_of_shard, set_of_other}
use Rattle.post_office.specs.Lemmas.PartLaws.{there, get_within, get_set, get_else, length_put, put_twice, out_first}
use Rattle.post_office.specs.Posts.{IsCell, IsLegal, after, Turns, StoodTurn, PartTurn}

-- the laws of a phase
pub record Obeys {P Q C M : Type 0} (problem : P → List C → Q) (holds : Q → List C → List (Envelope M) → Type 0) (weight : Q → List C → List (Envelope M) → ℕ) (bound : Q → ℕ) (react : Q → ℕ → C → M → Reaction C M) : Type 0 where
  pub keeps : (p : Q) → Keeps (react p) (holds p)
  pub lowers : (p : Q) → Lowers (react p) (holds p) (weight p)
  pub same : (phase : P) (p : Q) → KeepsParts (react p) (problem phase)
  pub order : (p : Q) → HoldsInAnyOrder (holds p)
  pub same_weight : (p : Q) → WeighsInAnyOrder (weight p)
  pub addressed : (p : Q) → IsAddressed (holds p)
  pub small : (p : Q) → StartWeightFits (holds p) (bound p)

none-is_some : {X : Type 0} (o : Option X) (x : X) → o ≡ None → o ≡ Some x → ⊥
none-is_some o x n s = none-some x (sym n ∙ s)

module _ {P Q C M : Type 0} (problem : P → List C → Q) (holds : Q → List C → List (Envelope M) → Type 0) (weight : Q → List C → List (Envelope M) → ℕ) (bound : Q → ℕ) (react : Q → ℕ → C → M → Reaction C M) (laws : Obeys problem holds weight bound react) where
  abbrev Legal : List (Part P Q C) → List (Envelope M) → ℕ → Type 0
  Legal = IsLegal problem holds weight bound

  pub any_order : (rests : List (Part P Q C)) (es es' : List (Envelope M)) (total : ℕ) → IsPermutation es es' → Legal rests es total → Legal rests es' total
  any_order rests es es' total perm l = record {
    phase = l.phase;
    cells = l.cells;
    owners = l.owners;
    shards = l.shards;
    wide = l.wide;
    owned = l.owned;
    each_cell = l.each_cell;
    each_box = l.each_box;
    holding = laws.order (problem l.phase l.cells) l.cells es es' perm l.holding;
    weighing = rw (laws.same_weight (problem l.phase l.cells) l.cells es es' perm) l.weighing;
    counting = rw (length_permutation es es' perm) l.counting;
  }

  -- no more envelopes are in flight than the flight weighs
  pub flight_weighs : (n : ℕ) (p : Q) (cells : List C) (es : List (Envelope M)) → weight p cells es ≤ n → holds p cells es → length es ≤ weight p cells es
  flight_weighs n p cells [] low h = omega arith
  flight_weighs zero p cells (e ∷ rest) low h =
      let c = there cells e.to (All-head (λ (x : Envelope M). x.to < length cells) e rest (laws.addressed p cells (e ∷ rest) h)) in
      let w = laws.lowers p cells e rest c.0 h c.1 in absurd (omega arith)
  flight_weighs (suc n) p cells (e ∷ rest) low h =
      let c = there cells e.to (All-head (λ (x : Envelope M). x.to < length cells) e rest (laws.addressed p cells (e ∷ rest) h)) in
      let w = laws.lowers p cells e rest c.0 h c.1 in
      let r = flight_weighs n p (slice_set cells e.to (react p e.to c.0 e.msg).cell) (rest ++ (react p e.to c.0 e.msg).sent) (omega arith) (laws.keeps p cells e rest c.0 h c.1) in
      let l = length-append rest (react p e.to c.0 e.msg).sent in omega (arith, w, r, l)

  pub bounded : (rests : List (Part P Q C)) (es : List (Envelope M)) (total : ℕ) → Legal rests es total → total + length es < 2 ^ 62
  bounded rests es total l =
      let p = problem l.phase l.cells in
      let a = flight_weighs (weight p l.cells es) p l.cells es (omega arith) l.holding in
      let b : bound p < 2 ^ 62 = laws.small p l.cells es l.holding in
      let w = l.weighing in omega arith

  -- a slot with a shard's cells is one of the first half
  cells_first : (rests : List (Part P Q C)) (es : List (Envelope M)) (total : ℕ) (l : Legal rests es total) (k : ℕ) (r : Part P Q C) (st : Stood P Q C) → slice_get rests k ≡ Some r → r.stood ≡ Some st → k < l.shards
  cells_first rests es total l k r st at is =
      elim (cases_order k l.shards) [
        | inl e ↦ absurd (none-is_some r.stood st (l.each_box 0 r (subst (λ z. slice_get rests z ≡ Some r) (omega (arith, e)) at)).bare is)
        | inr (inl lt) ↦ lt
        | inr (inr gt) ↦ absurd (none-is_some r.stood st (l.each_box (k - l.shards) r (subst (λ z. slice_get rests z ≡ Some r) (omega (arith, gt)) at)).bare is)
      ]

  -- only the number that waits changed
  rewait : (rests : List (Part P Q C)) (k : ℕ) (r r' : Part P Q C) (st : Stood P Q C) (es : List (Envelope M)) (total : ℕ) → Legal rests es total → slice_get rests k ≡ Some r → r.stood ≡ Some st → r'.stood ≡ Some st → r'.owners ≡ r.owners → r'.shard ≡ r.shard → Legal (slice_set rests k r') es total
  rewait rests k r r' st es total l at is is' same_owners same_shard =
      let low = cells_first rests es total l k r st at is in
      let mine = l.each_cell k r low at in
      record {
        phase = l.phase;
        cells = l.cells;
        owners = l.owners;
        shards = l.shards;
        wide = length_put rests k r' ∙ l.wide;
        owned = l.owned;
        each_cell = λ j q lt g. elim (cases_eq j k) [
          | inl e ↦
              let z : r' ≡ q = same_Some r' q (sym (get_set rests k r' (get_within rests k r at)) ∙ subst (λ y. slice_get (slice_set rests k r') y ≡ Some q) e g) in
              subst (IsCell l.phase (problem l.phase l.cells) l.owners l.cells j) z (subst (λ y. IsCell l.phase (problem l.phase l.cells) l.owners l.cells y r') (sym e) (record { stood = mine.stood; is = is' ∙ (sym is ∙ mine.is); of_phase = mine.of_phase; of_problem = mine.of_problem; its_cells = mine.its_cells; its_owners = same_owners ∙ mine.its_owners; its_shard = same_shard ∙ mine.its_shard }))
          | inr n ↦ l.each_cell j q lt (sym (get_else rests k j r' n) ∙ g)
        ];
        each_box = λ j q g. l.each_box j q (sym (get_else rests k (l.shards + j) r' (λ e. absurd (omega (arith, e, low)))) ∙ g);
        holding = l.holding;
        weighing = l.weighing;
        counting = l.counting;
      }

  -- one envelope is handled
  keep_one : (rests : List (Part P Q C)) (k : ℕ) (r : Part P Q C) (st : Stood P Q C) (es others : List (Envelope M)) (total : ℕ) (e : Envelope M) (rest : List (Envelope M)) (c : C) → Legal rests (es ++ others) total → slice_get rests k ≡ Some r → r.stood ≡ Some st → IsPermutation es (e ∷ rest) → IsFor r.owners r.shard e → slice_get st.cells (rank r.owners r.shard e.to) ≡ Some c
      → Legal (slice_set rests k (record r { stood = Some (after react r.owners r.shard st e c) })) ((rest ++ (react st.problem e.to c e.msg).sent) ++ others) (total + 1)
  keep_one rests k r st es others total e rest c l at is perm for own =
      let low = cells_first rests (es ++ others) total l k r st at is in
      let mine = l.each_cell k r low at in
      let same_st : mine.stood ≡ st = same_Some mine.stood st (sym mine.is ∙ is) in
      let p : Q = problem l.phase l.cells in
      let of_phase : st.phase ≡ l.phase = ap (λ (z : Stood P Q C). z.phase) (sym same_st) ∙ mine.of_phase in
      let of_problem : st.problem ≡ p = ap (λ (z : Stood P Q C). z.problem) (sym same_st) ∙ mine.of_problem in
      let of_cells : st.cells ≡ of_shard l.owners k l.cells = ap (λ (z : Stood P Q C). z.cells) (sym same_st) ∙ mine.its_cells in
      let owned : slice_get l.owners e.to ≡ Some k = subst (λ z. slice_get z e.to ≡ Some k) mine.its_owners (for ∙ ap (λ (z : ℕ). Some z) mine.its_shard) in
      let within : e.to < length l.cells = rw (← l.owned) (get_within l.owners e.to k owned) in
      let cell = there l.cells e.to within in
      let rank_is : rank r.owners r.shard e.to ≡ rank l.owners k e.to = λ i. rank (mine.its_owners i) (mine.its_shard i) e.to in
      let own' : slice_get (of_shard l.owners k l.cells) (rank l.owners k e.to) ≡ Some c = subst (λ z. slice_get z (rank l.owners k e.to) ≡ Some c) of_cells (subst (λ z. slice_get st.cells z ≡ Some c) rank_is own) in
      let here : slice_get l.cells e.to ≡ Some c = cell.1 ∙ (sym (get_of_shard l.owners k l.cells e.to cell.0 owned cell.1) ∙ own') in
      let new : C = (react p e.to c e.msg).cell in
      let out : List (Envelope M) = (react p e.to c e.msg).sent in
      let cells' : List C = slice_set l.cells e.to new in
      let front : IsPermutation (es ++ others) (e ∷ (rest ++ others)) = IsPermutation-append_left others es (e ∷ rest) perm in
      let flies = laws.order p l.cells (es ++ others) (e ∷ (rest ++ others)) front l.holding in
      let swap = out_first rest others out in
      let same_p : problem l.phase cells' ≡ p = laws.same l.phase p l.cells e.to c e.msg here in
      let lighter = laws.lowers p l.cells e (rest ++ others) c flies here in
      let w1 = laws.same_weight p l.cells (es ++ others) (e ∷ (rest ++ others)) front in
      let w2 = laws.same_weight p cells' ((rest ++ others) ++ out) ((rest ++ out) ++ others) swap in
      let len1 = length_permutation (es ++ others) (e ∷ (rest ++ others)) front in
      let len2 = length_permutation ((rest ++ others) ++ out) ((rest ++ out) ++ others) swap in
      let len3 = length-append (rest ++ others) out in
      let len4 = length_put l.cells e.to new in
      let w = l.weighing in let n = l.counting in
      let Goal : Q → Type 0 = λ z. Legal (slice_set rests k (record r { stood = Some (record st { cells = slice_set st.cells (rank r.owners r.shard e.to) (react z e.to c e.msg).cell }) })) ((rest ++ (react z e.to c e.msg).sent) ++ others) (total + 1) in
      let st1 : Stood P Q C = record st { cells = slice_set st.cells (rank r.owners r.shard e.to) new } in
      let r1 : Part P Q C = record r { stood = Some st1 } in
      let cells_are : st1.cells ≡ of_shard l.owners k cells' =
      ap (λ z. slice_set st.cells z new) rank_is ∙ (ap (λ z. slice_set z (rank l.owners k e.to) new) of_cells ∙ sym (set_of_shard l.owners k l.cells e.to c new owned here)) in
      subst Goal (sym of_problem) (record {
        phase = l.phase;
        cells = cells';
        owners = l.owners;
        shards = l.shards;
        wide = length_put rests k r1 ∙ l.wide;
        owned = l.owned ∙ sym len4;
        each_cell = λ j q lt g. elim (cases_eq j k) [
          | inl i ↦
              let z : r1 ≡ q = same_Some r1 q (sym (get_set rests k r1 (get_within rests k r at)) ∙ subst (λ y. slice_get (slice_set rests k r1) y ≡ Some q) i g) in
              subst (IsCell l.phase (problem l.phase cells') l.owners cells' j) z (subst (λ y. IsCell l.phase (problem l.phase cells') l.owners cells' y r1) (sym i) (record { stood = st1; is = refl; of_phase = of_phase; of_problem = of_problem ∙ sym same_p; its_cells = cells_are; its_owners = mine.its_owners; its_shard = mine.its_shard }))
          | inr n ↦
              let old = l.each_cell j q lt (sym (get_else rests k j r1 n) ∙ g) in
              record { stood = old.stood; is = old.is; of_phase = old.of_phase; of_problem = old.of_problem ∙ sym same_p; its_cells = old.its_cells ∙ sym (set_of_other l.owners k j l.cells e.to new owned n); its_owners = old.its_owners; its_shard = old.its_shard }
        ];
        each_box = λ j q g. l.each_box j q (sym (get_else rests k (l.shards + j) r1 (λ i. absurd (omega (arith, i, low)))) ∙ g);
        holding = rw same_p (laws.order p cells' ((rest ++ others) ++ out) ((rest ++ out) ++ others) swap (laws.keeps p l.cells e (rest ++ others) c flies here));
        weighing = rw same_p (omega arith);
        counting = omega arith;
      })

  keep_turns : (rests : List (Part P Q C)) (k : ℕ) (r : Part P Q C) (st : Stood P Q C) (es others : List (Envelope M)) (sent h : ℕ) (st' : Stood P Q C) (es' : List (Envelope M)) (total : ℕ) → Legal rests (es ++ others) total → slice_get rests k ≡ Some r → r.stood ≡ Some st → Turns react r.owners r.shard st es sent h st' es'
      → (r' : Part P Q C) → r'.stood ≡ Some st' → r'.owners ≡ r.owners → r'.shard ≡ r.shard → Legal (slice_set rests k r') (es' ++ others) (total + h)
  keep_turns rests k r st es others sent zero st' es' total l at is t r' is' same_owners same_shard =
      let none_more : total + 0 ≡ total = omega arith in
      rw none_more (rewait rests k r r' st (es' ++ others) total (any_order rests (es ++ others) (es' ++ others) total (IsPermutation-append_left others es es' t.2) l) at is (is' ∙ ap (λ (z : Stood P Q C). Some z) t.1) same_owners same_shard)
  keep_turns rests k r st es others sent (suc h) st' es' total l at is t r' is' same_owners same_shard =
      let st1 : Stood P Q C = after react r.owners r.shard st t.0 t.2 in
      let r1 : Part P Q C = record r { stood = Some st1 } in
      let l1 = keep_one rests k r st es others total t.0 t.1 t.2 l at is t.4 t.5 t.6 in
      let next = keep_turns (slice_set rests k r1) k r1 st1 (t.1 ++ (react st.problem t.0.to t.2 t.0.msg).sent) others t.3 h st' es' (total + 1) l1 (get_set rests k r1 (get_within rests k r at)) refl t.8 r' is' same_owners same_shard in
      let sums : (total + 1) + h ≡ total + suc h = omega arith in
      subst (λ z. Legal (slice_set rests k r') (es' ++ others) z) sums (subst (λ z. Legal z (es' ++ others) ((total + 1) + h)) (put_twice rests k r1 r') next)

  pub keeps : (rests : List (Part P Q C)) (k : ℕ) (r : Part P Q C) (es others : List (Envelope M)) (sent h : ℕ) (r' : Part P Q C) (es' : List (Envelope M)) (total : ℕ) → Legal rests (es ++ others) total → slice_get rests k ≡ Some r → PartTurn react r es sent h r' es' → Legal (slice_set rests k r') (es' ++ others) (total + h)
  keeps rests k r es others sent h r' es' total l at t = go r.stood refl r'.stood refl t.2
    where
      go : (x : Option (Stood P Q C)) → r.stood ≡ x → (y : Option (Stood P Q C)) → r'.stood ≡ y → StoodTurn react r.owners r.shard x es sent h y es' → Legal (slice_set rests k r') (es' ++ others) (total + h)
      go None is y is' u = absurd u
      go (Some st) is None is' u = absurd u
      go (Some st) is (Some st') is' u = keep_turns rests k r st es others sent h st' es' total l at is u r' is' t.0 t.1
