-- One handling after another at a shard's cells.
use Rattle.std.proofs.Common.{◌≡◌, ℕ, zero, suc, ◌+◌, ◌<◌, ◌≤◌, ◌^◌, List, [], ◌∷◌, ◌++◌, length, length-append, Some, refl, sym, ◌∙◌, ap, subst, arith, get_or}
use Rattle.std.specs.Prelude.{slice_get, slice_set, All, IsPermutation}
use Rattle.std.proofs.lemmas.List.Sorted.{IsPermutation-trans, IsPermutation-append_left}
use Rattle.std.proofs.lemmas.Option.{none-some, same_Some}
use Rattle.phase_core.specs.declared.envelope.Envelope.{Envelope}
use Rattle.phase_core.specs.Machine.{Reaction}
use Rattle.phase_core.specs.Stands.{Stands}
use Rattle.post_office.specs.declared.plain.Stood.{Stood}
use Rattle.post_office.specs.declared.plain.Part.{Part}
use Rattle.post_office.specs.Shares.{IsFor, of_shard, rank}
use Rattle.post_office.specs.Lemmas.Shares.{get_of_shard}
use Rattle.post_office.specs.Lemmas.PartLaws.{there, get_set, get_within, turns_balance, length_put}
use Rattle.post_office.specs.Lemmas.LegalLaws.{Obeys, any_order, flight_weighs, keeps}
use Rattle.post_office.proofs.Sorting.{all_front}
use Rattle.post_office.specs.Posts.{Standing, Turns, after}

pub read_of : {X : Type 0} (xs : List X) (i : ℕ) (d x : X) → slice_get xs i ≡ Some x → get_or xs i d ≡ x
read_of [] i d x e = absurd (none-some x e)
read_of (y ∷ ys) zero d x e = same_Some y x e
read_of (y ∷ ys) (suc i) d x e = read_of ys i d x e

module _ {P Q C M : Type 0} (problem : P → List C → Q) (holds : Q → List C → List (Envelope M) → Type 0) (weight : Q → List C → List (Envelope M) → ℕ) (bound : Q → ℕ) (owners : List ℕ) (shard : ℕ) (st : Stood P Q C) (e : Envelope M) (rest : List (Envelope M)) (s : Standing problem holds weight bound owners shard st (e ∷ rest)) (for : IsFor owners shard e) (phase : P) (is : st.phase ≡ phase) where
  mine : (st.phase ≡ s.legal.phase) × (st.problem ≡ problem s.legal.phase s.legal.cells) × (st.cells ≡ of_shard owners shard s.legal.cells) × (s.legal.owners ≡ owners)
  mine =
      let low : shard < s.legal.shards = (let a = s.within in let b = s.legal.wide in omega arith) in
      let c = s.legal.each_cell shard (record { owners = owners; shard = shard; waits = s.waits; stood = Some st }) low s.there in
      let q : c.stood ≡ st = same_Some c.stood st (sym c.is) in
      (ap (λ (z : Stood P Q C). z.phase) (sym q) ∙ c.of_phase, ap (λ (z : Stood P Q C). z.problem) (sym q) ∙ c.of_problem, ap (λ (z : Stood P Q C). z.cells) (sym q) ∙ (c.its_cells ∙ ap (λ l. of_shard l shard s.legal.cells) (sym c.its_owners)), sym c.its_owners)

  -- the cell that it is for
  pub cell_there : (c : C) × (slice_get s.legal.cells e.to ≡ Some c) × (slice_get st.cells (rank owners shard e.to) ≡ Some c)
  cell_there =
      let within : e.to < length s.legal.cells = rw (← s.legal.owned, mine.3) (get_within owners e.to shard for) in
      let c = there s.legal.cells e.to within in
      (c.0, c.1, ap (λ l. slice_get l (rank owners shard e.to)) mine.2 ∙ get_of_shard owners shard s.legal.cells e.to c.0 for c.1)

  pub cell_is : (d : C) → d ≡ get_or st.cells (rank owners shard e.to) d → slice_get st.cells (rank owners shard e.to) ≡ Some d
  cell_is d read = let c = cell_there in c.2 ∙ ap (λ (z : C). Some z) (sym (read ∙ read_of st.cells (rank owners shard e.to) d c.0 c.2))

  pub stands_for : (d : C) → d ≡ get_or st.cells (rank owners shard e.to) d → Stands holds (problem phase) e.to d e.msg s.legal.cells ((e ∷ rest) ++ s.others)
  stands_for d read =
      let c = cell_there in
      let same : s.legal.phase ≡ phase = sym mine.0 ∙ is in
      record {
        here = c.1 ∙ (sym c.2 ∙ cell_is d read);
        waits = (0, omega arith, refl);
        valid = subst (λ z. holds (problem z s.legal.cells) s.legal.cells ((e ∷ rest) ++ s.others)) same s.legal.holding;
      }

  pub problem_is : st.problem ≡ problem phase s.legal.cells
  problem_is = mine.1 ∙ ap (λ z. problem z s.legal.cells) (sym mine.0 ∙ is)

module _ {P Q C M : Type 0} (react : Q → ℕ → C → M → Reaction C M) (owners : List ℕ) (shard : ℕ) where
  -- the envelopes in another order, before and after
  pub turns_perm : (st : Stood P Q C) (es0 es : List (Envelope M)) (sent h : ℕ) (st' : Stood P Q C) (es' : List (Envelope M)) → IsPermutation es0 es → Turns react owners shard st es sent h st' es' → Turns react owners shard st es0 sent h st' es'
  turns_perm st es0 es sent zero st' es' p t = (t.0, t.1, IsPermutation-trans _ _ _ p t.2)
  turns_perm st es0 es sent (suc h) st' es' p t = (t.0, t.1, t.2, t.3, IsPermutation-trans _ _ _ p t.4, t.5, t.6, t.7, t.8)

  pub turns_end : (st : Stood P Q C) (es : List (Envelope M)) (sent h : ℕ) (st' : Stood P Q C) (es' es2 : List (Envelope M)) → IsPermutation es' es2 → Turns react owners shard st es sent h st' es' → Turns react owners shard st es sent h st' es2
  turns_end st es sent zero st' es' es2 p t = (t.0, t.1, IsPermutation-trans _ _ _ t.2 p)
  turns_end st es sent (suc h) st' es' es2 p t = (t.0, t.1, t.2, t.3, t.4, t.5, t.6, t.7, turns_end (after react owners shard st t.0 t.2) (t.1 ++ (react st.problem t.0.to t.2 t.0.msg).sent) t.3 h st' es' es2 p t.8)

module _ {P Q C M : Type 0} (problem : P → List C → Q) (holds : Q → List C → List (Envelope M) → Type 0) (weight : Q → List C → List (Envelope M) → ℕ) (bound : Q → ℕ) (react : Q → ℕ → C → M → Reaction C M) (laws : Obeys problem holds weight bound react) (owners : List ℕ) (shard : ℕ) where
  abbrev Stays : Stood P Q C → List (Envelope M) → Type 0
  Stays = Standing problem holds weight bound owners shard

  -- what was handled leaves part of legal contents,
  pub stands_after : (st : Stood P Q C) (es : List (Envelope M)) (sent h : ℕ) (st' : Stood P Q C) (es' : List (Envelope M)) → Stays st es → Turns react owners shard st es sent h st' es' → Stays st' es'
  stands_after st es sent h st' es' s t =
      let r : Part P Q C = record { owners = owners; shard = shard; waits = s.waits; stood = Some st } in
      let r' : Part P Q C = record { owners = owners; shard = shard; waits = s.waits; stood = Some st' } in
      let l = keeps problem holds weight bound react laws s.rests shard r es s.others sent h r' es' s.total s.legal s.there (refl, refl, t) in
      let wide : length (slice_set s.rests shard r') ≡ length s.rests = length_put s.rests shard r' in
      record {
        rests = slice_set s.rests shard r';
        waits = s.waits;
        others = s.others;
        total = s.total + h;
        legal = l;
        within = rw wide s.within;
        there = get_set s.rests shard r' (get_within s.rests shard r s.there);
      }

  -- and numbers stay small
  pub few_after : (st : Stood P Q C) (es : List (Envelope M)) (sent h : ℕ) (st' : Stood P Q C) (es' : List (Envelope M)) → Stays st es → Turns react owners shard st es sent h st' es' → (h + length es' < 2 ^ 62) × (h + length es' ≤ bound st'.problem) × (sent < 2 ^ 62)
  few_after st es sent h st' es' s t =
      let r : Part P Q C = record { owners = owners; shard = shard; waits = s.waits; stood = Some st } in
      let r' : Part P Q C = record { owners = owners; shard = shard; waits = s.waits; stood = Some st' } in
      let l = keeps problem holds weight bound react laws s.rests shard r es s.others sent h r' es' s.total s.legal s.there (refl, refl, t) in
      let p = problem l.phase l.cells in
      let a = flight_weighs problem holds weight bound react laws (weight p l.cells (es' ++ s.others)) p l.cells (es' ++ s.others) (omega arith) l.holding in
      let b : bound p < 2 ^ 62 = laws.small p l.cells (es' ++ s.others) l.holding in
      let w = l.weighing in
      let n = length-append es' s.others in
      let balance = turns_balance react owners shard st es sent h st' es' t in
      let wide : length (slice_set s.rests shard r') ≡ length s.rests = length_put s.rests shard r' in
      let within : shard < l.shards = (let d = l.wide in let f = s.within in omega (arith, wide, d, f)) in
      let c = l.each_cell shard r' within (get_set s.rests shard r' (get_within s.rests shard r s.there)) in
      let q : c.stood ≡ st' = same_Some c.stood st' (sym c.is) in
      let of_problem : st'.problem ≡ p = ap (λ (z : Stood P Q C). z.problem) (sym q) ∙ c.of_problem in
      (omega (arith, a, b, w, n), rw of_problem (omega (arith, a, w, n)), omega (arith, a, b, w, n, balance))

  -- the same envelopes in another order
  pub stands_perm : (st : Stood P Q C) (es es' : List (Envelope M)) → IsPermutation es es' → Stays st es → Stays st es'
  stands_perm st es es' p s = record { rests = s.rests; waits = s.waits; others = s.others; total = s.total; legal = any_order problem holds weight bound react laws s.rests (es ++ s.others) (es' ++ s.others) s.total (IsPermutation-append_left s.others es es' p) s.legal; within = s.within; there = s.there }

  -- each envelope is for one of the cells, and each cell has an owner
  pub addressed_now : (st : Stood P Q C) (es : List (Envelope M)) → Stays st es → All (λ e. e.to < length owners) es
  addressed_now st es s =
      let low : shard < s.legal.shards = (let a = s.within in let b = s.legal.wide in omega arith) in
      let c = s.legal.each_cell shard (record { owners = owners; shard = shard; waits = s.waits; stood = Some st }) low s.there in
      let all : All (λ (e : Envelope M). e.to < length s.legal.cells) (es ++ s.others) = laws.addressed (problem s.legal.phase s.legal.cells) s.legal.cells (es ++ s.others) s.legal.holding in
      let same : length s.legal.cells ≡ length owners = sym s.legal.owned ∙ ap length (sym c.its_owners) in
      subst (λ n. All (λ (e : Envelope M). e.to < n) es) same (all_front (λ (e : Envelope M). e.to < length s.legal.cells) es s.others all)
