-- What legal contents say of a post that is closed.
use Rattle.std.proofs.Common.{◌≡◌, ℕ, zero, suc, ◌+◌, ◌<◌, ◌≤◌, List, [], ◌∷◌, ◌++◌, length, Some, map, refl, sym, ◌∙◌, ap, subst, arith, length-append}
use Rattle.std.specs.Prelude.{slice_get}
use Rattle.std.proofs.lemmas.Option.{none-some, same_Some}
use Rattle.phase_core.specs.declared.envelope.Envelope.{Envelope}
use Rattle.post_office.specs.declared.plain.Stood.{Stood}
use Rattle.post_office.specs.declared.plain.Part.{Part}
use Rattle.post_office.specs.declared.plain.About.{About}
use Rattle.post_office.specs.Shares.{of_shard}
use Rattle.post_office.specs.Posts.{about, IsLegal}
use Rattle.post_office.specs.Lemmas.Gathered.{Rows}
use Rattle.post_office.specs.Lemmas.Ended.{AtRest, Settles}
use Rattle.post_office.specs.Lemmas.PartLaws.{get_within}
use Rattle.post_office.proofs.Holding.{about_is}
use Rattle.post_office.proofs.Lists.{nothing}
use Rattle.post_office.proofs.DealtOut.{map_get, map_length, get_front, get_back}

-- what a list was mapped from
pub unmap : {X Y : Type 0} (f : X → Y) (xs : List X) (k : ℕ) (y : Y) → slice_get (map f xs) k ≡ Some y → (x : X) × (slice_get xs k ≡ Some x) × (f x ≡ y)
unmap f [] k y e = absurd (none-some y e)
unmap f (x ∷ xs) zero y e = (x, refl, same_Some (f x) y e)
unmap f (x ∷ xs) (suc k) y e = unmap f xs k y e

module _ {P Q C M : Type 0} (problem : P → List C → Q) (holds : Q → List C → List (Envelope M) → Type 0) (weight : Q → List C → List (Envelope M) → ℕ) (bound : Q → ℕ) where
  pub ends_about : (rests : List (Part P Q C)) (es : List (Envelope M)) (total : ℕ) (l : IsLegal problem holds weight bound rests es total) (a : About P Q) → 0 < length rests → about rests ≡ Some a → (l.phase ≡ a.phase) × (l.owners ≡ a.owners) × (problem l.phase l.cells ≡ a.problem)
  ends_about rests es total l a low is =
      let same = same_Some _ a (sym (about_is problem holds weight bound rests es total l low) ∙ is) in
      (ap (λ (z : About P Q). z.phase) same, ap (λ (z : About P Q). z.owners) same, ap (λ (z : About P Q). z.problem) same)

  -- each shard has the cells that it owns
  pub ends_rows : {X : Type 0} (xs : List X) (rest : X → Part P Q C) (row : X → List C) (boxes : List (Part P Q C)) (es : List (Envelope M)) (total : ℕ) (l : IsLegal problem holds weight bound (map rest xs ++ boxes) es total) (owners : List ℕ)
      → length boxes ≡ length xs → l.owners ≡ owners → ((x : X) → (s : Stood P Q C) × ((rest x).stood ≡ Some s) × (s.cells ≡ row x)) → Rows owners l.cells (map row xs)
  ends_rows xs rest row boxes es total l owners even own each k r at =
      let u = unmap row xs k r at in
      let low = get_within xs k u.0 u.1 in
      let n = length-append (map rest xs) boxes in let m = map_length rest xs in let w = l.wide in
      let c = l.each_cell k (rest u.0) (omega (arith, n, m, w, even, low)) (get_front (map rest xs) boxes k (omega (arith, m, low)) ∙ map_get rest xs k u.0 u.1) in
      let s = each u.0 in
      let q : s.0 ≡ c.stood = same_Some s.0 c.stood (sym s.1 ∙ c.is) in
      sym u.2 ∙ (sym s.2 ∙ (ap (λ (z : Stood P Q C). z.cells) q ∙ (c.its_cells ∙ ap (λ o. of_shard o k l.cells) own)))

  pub ends_box : {X : Type 0} (xs : List X) (rest : X → Part P Q C) (boxes : List (Part P Q C)) (es : List (Envelope M)) (total : ℕ) (l : IsLegal problem holds weight bound (map rest xs ++ boxes) es total) (owners : List ℕ)
      → length boxes ≡ length xs → l.owners ≡ owners → (r : Part P Q C) → slice_get boxes 0 ≡ Some r → (r.shard ≡ 0) × (r.owners ≡ owners)
  ends_box xs rest boxes es total l owners even own r at =
      let n = length-append (map rest xs) boxes in let m = map_length rest xs in let w = l.wide in
      let s : l.shards ≡ length (map rest xs) = omega (arith, n, m, w, even) in
      let b = l.each_box 0 r (subst (λ z. slice_get (map rest xs ++ boxes) (z + 0) ≡ Some r) (sym s) (get_back (map rest xs) boxes 0 ∙ at)) in
      (b.its_shard, b.its_owners ∙ own)

  pub at_rest : (phase : P) (first : List C) (owners : List ℕ) (rests : List (Part P Q C)) (es : List (Envelope M)) (handled more : ℕ) → IsLegal problem holds weight bound rests es (handled + more) → (length es ≡ 0) × (more ≡ 0) → 0 < length rests → about rests ≡ Some (record { phase = phase; problem = problem phase first; owners = owners }) → AtRest problem holds weight bound phase first owners rests handled
  at_rest phase first owners rests es handled more l none low is =
      let n : handled + more ≡ handled = (let m = none.1 in omega (arith, m)) in
      let l1 : IsLegal problem holds weight bound rests [] handled = subst (λ z. IsLegal problem holds weight bound rests z handled) (nothing es none.0) (subst (λ z. IsLegal problem holds weight bound rests es z) n l) in
      let e = ends_about rests [] handled l1 (record { phase = phase; problem = problem phase first; owners = owners }) low is in
      record { legal = l1; of_phase = e.0; of_owners = e.1; of_problem = e.2 }

  -- where these are all cells, they are the phase at rest
  pub settles : (phase : P) (first : List C) (owners : List ℕ) (rests : List (Part P Q C)) (handled : ℕ) (r : AtRest problem holds weight bound phase first owners rests handled) (cells : List C) → cells ≡ r.legal.cells → Settles problem holds bound phase first owners cells handled
  settles phase first owners rests handled r cells is =
      let l = r.legal in
      let back : l.cells ≡ cells = sym is in
      let same : problem l.phase l.cells ≡ problem phase cells = λ i. problem (r.of_phase i) (back i) in
      record {
        same_problem = sym same ∙ r.of_problem;
        holding = subst (λ z. holds z cells []) same (subst (λ z. holds (problem l.phase l.cells) z []) back l.holding);
        bounded = subst (λ z. handled ≤ bound z) same (let w = l.weighing in omega (arith, w));
        count = ap length is ∙ (sym l.owned ∙ ap length r.of_owners);
        handles_each = (let n = ap length is in let k = l.counting in omega (arith, n, k));
      }

  -- the cells that the shards have
  pub rest_rows : {X : Type 0} (phase : P) (first : List C) (owners : List ℕ) (xs : List X) (rest : X → Part P Q C) (row : X → List C) (boxes : List (Part P Q C)) (handled : ℕ) (r : AtRest problem holds weight bound phase first owners (map rest xs ++ boxes) handled)
      → length boxes ≡ length xs → ((x : X) → (s : Stood P Q C) × ((rest x).stood ≡ Some s) × (s.cells ≡ row x)) → (length owners ≡ length r.legal.cells) × Rows owners r.legal.cells (map row xs)
  rest_rows phase first owners xs rest row boxes handled r even each =
      (ap length (sym r.of_owners) ∙ r.legal.owned, ends_rows xs rest row boxes [] handled r.legal owners even r.of_owners each)
