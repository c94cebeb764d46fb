-- The words and contents of a new board keep the rule.
use Rattle.std.proofs.Common.{◌≡◌, ◌≢◌, ℕ, zero, suc, ◌+◌, ◌*◌, ◌/◌, ◌<◌, ◌≤◌, ◌⊎◌, Bool, true, false, List, [], ◌∷◌, ◌++◌, map, length, set, get_or, take, replicate, sym, refl, ap, ◌∙◌, subst, ⊎_elim, inl, inr, arith, Option, Some, length-append, length-set, get_or-set_other}
use Rattle.std.specs.Prelude.{ltb, slice_get, slice_set}
use Rattle.std.proofs.lemmas.Bool.{lt-ltb, le-ltb, ltb-true, ltb-false}
use mathlib.Core.Option.{some, some-injective, some-ne-none}
use lib.ListN.{get_elem?, length-map, length-replicate}
use Rattle.atomic_table.specs.Table.{opening}
use Rattle.quiet_table.specs.declared.view.Hand.{Hand}
use Rattle.quiet_table.specs.declared.view.View.{View}
use Rattle.quiet_table.specs.declared.item.Item.{Item}
use Rattle.quiet_table.specs.declared.item.Item.TheVariants.{Cell, Inbox}
use Rattle.quiet_table.specs.Contents.{Contents, rest_of, parcels_of, pool, is_cell, opening_contents}
use Rattle.quiet_table.specs.Words.{adds, span, FirstWords}
use Rattle.quiet_table.specs.Views.{first_view}
use Rattle.quiet_table.specs.BoardRule.{BoardRule, Waves}
use Rattle.quiet_table.proofs.Spans.{span_set_in, span_set_out}
use Rattle.quiet_table.proofs.Counting.{waves_new}
use Rattle.quiet_table.proofs.Claims.{true_false}

take_nothing : (n : ℕ) → adds (take n []) ≡ 0
take_nothing zero = refl
take_nothing (suc n) = refl

sum_zeros : (m n : ℕ) → adds (take n (replicate m 0)) ≡ 0
sum_zeros zero n = take_nothing n
sum_zeros (suc m) zero = refl
sum_zeros (suc m) (suc n) = let r = sum_zeros m n in omega (arith, r)

pub span_zeros : (m from n : ℕ) → span (replicate m 0) from n ≡ 0
span_zeros m zero n = sum_zeros m n
span_zeros zero (suc from) n = take_nothing n
span_zeros (suc m) (suc from) n = span_zeros m from n

pub zeros_at : (m i : ℕ) → get_or {A = ℕ} (replicate m 0) i 0 ≡ 0
zeros_at zero i = refl
zeros_at (suc m) zero = refl
zeros_at (suc m) (suc i) = zeros_at m i

double : (k n : ℕ) (b : Bool) → ltb k n ≡ b → ltb (2 * k) (2 * n) ≡ b
double k n true e = let h = ltb-true k n e in lt-ltb (2 * k) (2 * n) (omega arith)
double k n false e = let h = ltb-false k n e in le-ltb (2 * k) (2 * n) (omega arith)

less_suc : (k n : ℕ) (b : Bool) → ltb k n ≡ b → ltb (suc k) (suc n) ≡ b
less_suc k n true e = let h = ltb-true k n e in lt-ltb (suc k) (suc n) (omega arith)
less_suc k n false e = let h = ltb-false k n e in le-ltb (suc k) (suc n) (omega arith)

module _ {C B R E : Type 0} (contents : Item C B → Contents R E) where
  abbrev pub row : List C → List B → List (Option (Item C B))
  row cs bs = map (λ c. Some (Cell c)) cs ++ map (λ b. Some (Inbox b)) bs

  abbrev Laid : ℕ → List (Option (Item C B)) → ℕ → Type 0
  Laid cells slots k = (i : Item C B) × (get_elem? (map some slots) k ≡ some (some (Some i))) × (is_cell i ≡ ltb k cells) × (get_elem? (opening_contents contents slots) k ≡ some (contents i))

  laid : (cs : List C) (bs : List B) (k : ℕ) → k < length cs + length bs → Laid (length cs) (row cs bs) k
  laid [] [] k h = absurd (omega arith)
  laid [] (b ∷ bs) zero h = (Inbox b, refl, refl, refl)
  laid [] (b ∷ bs) (suc k) h = let r = laid [] bs k (omega arith) in (r.0, r.1, r.2 ∙ (le-ltb k 0 (omega arith) ∙ sym (le-ltb (suc k) 0 (omega arith))), r.3)
  laid (c ∷ cs) bs zero h = (Cell c, refl, sym (lt-ltb 0 (length (c ∷ cs)) (omega arith)), refl)
  laid (c ∷ cs) bs (suc k) h = let r = laid cs bs k (omega arith) in (r.0, r.1, r.2 ∙ sym (less_suc k (length cs) (ltb k (length cs)) refl), r.3)

  row_length : (cs : List C) (bs : List B) → length (row cs bs) ≡ length cs + length bs
  row_length [] [] = refl
  row_length [] (b ∷ bs) = let r = row_length [] bs in omega arith
  row_length (c ∷ cs) bs = let r = row_length cs bs in omega arith

  cargo_length : (cs : List C) (bs : List B) → length (opening_contents contents (row cs bs)) ≡ length cs + length bs
  cargo_length [] [] = refl
  cargo_length [] (b ∷ bs) = let r = cargo_length [] bs in omega arith
  cargo_length (c ∷ cs) bs = let r = cargo_length cs bs in omega arith

  pub rests_laid : (cs : List C) (bs : List B) → map rest_of (opening_contents contents (row cs bs)) ≡ map (λ c. (contents (Cell c)).rest) cs ++ map (λ b. (contents (Inbox b)).rest) bs
  rests_laid [] [] = refl
  rests_laid [] (b ∷ bs) = ap (λ l. (contents (Inbox b)).rest ∷ l) (rests_laid [] bs)
  rests_laid (c ∷ cs) bs = ap (λ l. (contents (Cell c)).rest ∷ l) (rests_laid cs bs)

  pub parcels_laid : (cs : List C) (bs : List B) → map parcels_of (opening_contents contents (row cs bs)) ≡ map (λ c. (contents (Cell c)).parcels) cs ++ map (λ b. (contents (Inbox b)).parcels) bs
  parcels_laid [] [] = refl
  parcels_laid [] (b ∷ bs) = ap (λ l. (contents (Inbox b)).parcels ∷ l) (parcels_laid [] bs)
  parcels_laid (c ∷ cs) bs = ap (λ l. (contents (Cell c)).parcels ∷ l) (parcels_laid cs bs)

  one_view : (j : ℕ) (v : View R E) → get_elem? (first_view ∷ []) j ≡ some v → (j ≡ 0) × (first_view ≡ v)
  one_view zero v e = (refl, some-injective _ _ e)
  one_view (suc zero) v e = absurd (some-ne-none v (sym e))
  one_view (suc (suc j)) v e = absurd (some-ne-none v (sym e))

  empty_hands : (a : ℕ) (h : Hand R E) → get_elem? {A = Hand R E} [] a ≡ some h → ⊥
  empty_hands zero h e = some-ne-none h (sym e)
  empty_hands (suc a) h e = some-ne-none h (sym e)

  module _ {O : Type 0} (legal : List R → List E → ℕ → Type 0) (origin : List R → O) where
    opens_at : (cs : List C) (bs : List B) (words : List ℕ) (n : ℕ) → 0 < n → FirstWords n words (length (pool (map (λ c. (contents (Cell c)).parcels) cs ++ map (λ b. (contents (Inbox b)).parcels) bs))) → length cs ≡ n → length bs ≡ n → legal (map (λ c. (contents (Cell c)).rest) cs ++ map (λ b. (contents (Inbox b)).rest) bs) (pool (map (λ c. (contents (Cell c)).parcels) cs ++ map (λ b. (contents (Inbox b)).parcels) bs)) 0
        → BoardRule contents legal origin n (origin (map rest_of (opening_contents contents (row cs bs)))) (opening words (row cs bs) first_view)
    opens_at cs bs words n some_shard w cn bn ok =
        let slots : List (Option (Item C B)) = row cs bs in record {
          settled = opening_contents contents slots;
          some_shard = some_shard;
          wide = w.wide;
          deep = length-map slots (λ (x : Option (Item C B)). some x) ∙ (row_length cs bs ∙ (omega arith));
          full = cargo_length cs bs ∙ (omega arith);
          numbered = record {
            most = 0;
            gone = 0;
            few = omega arith;
            among = λ j v e l. let o = one_view j v e in subst (λ (z : View R E). (z.number ≤ 0) × (z.number ≡ 0 → (z.splits ≡ 0) × (z.joins ≡ 0)) × (z.number ≢ 0 → (z.splits ≡ 0) × (0 < z.number))) o.1 ((omega arith), (λ _. (refl, refl)), (λ q. absurd (q refl)));
            spent = λ j v e l. absurd (true_false (ap (λ (z : View R E). z.live) (one_view j v e).1 ∙ l));
            apart = λ i j v w e f _ _ _. (one_view i v e).0 ∙ sym (one_view j w f).0;
          };
          each_slot = λ k l. let r = laid cs bs k (omega arith) in inl (r.0, w.turns k l, r.1, r.2 ∙ (ap (ltb k) cn ∙ sym (double k n (ltb k n) refl)), r.3);
          each_hand = λ j v a h e f. absurd (empty_hands a h (ap (λ (z : View R E). get_elem? z.hands a) (one_view j v e).1 ∙ f));
          apart = λ j v a b g h e f _ _. absurd (empty_hands a g (ap (λ (z : View R E). get_elem? z.hands a) (one_view j v e).1 ∙ f));
          legal_now = rw (rests_laid cs bs, parcels_laid cs bs, w.handled) ok;
          counts = rw (parcels_laid cs bs) (record {
            balanced = rw (w.sent, w.handled) (omega arith);
            verdict = rw w.verdict (omega arith);
            quiet = λ q. let z = w.verdict in absurd (omega arith);
            waves = λ j v e. subst (λ (z : View R E). Waves n words (length (pool (map (λ c. (contents (Cell c)).parcels) cs ++ map (λ b. (contents (Inbox b)).parcels) bs))) 0 z) (one_view j v e).1 (waves_new n words (length (pool (map (λ c. (contents (Cell c)).parcels) cs ++ map (λ b. (contents (Inbox b)).parcels) bs))) 0 first_view some_shard refl refl refl);
          });
          handled = w.handled;
          stopped = λ q. let z = w.verdict in absurd (omega arith);
          same_origin = refl;
        }

    pub opens : (cs : List C) (bs : List B) (slots : List (Option (Item C B))) (words : List ℕ) → slots ≡ row cs bs → length bs ≡ length cs → FirstWords (length cs) words (length (pool (map (λ c. (contents (Cell c)).parcels) cs ++ map (λ b. (contents (Inbox b)).parcels) bs))) → 0 < length cs → legal (map (λ c. (contents (Cell c)).rest) cs ++ map (λ b. (contents (Inbox b)).rest) bs) (pool (map (λ c. (contents (Cell c)).parcels) cs ++ map (λ b. (contents (Inbox b)).parcels) bs)) 0
        → BoardRule contents legal origin (length slots / 2) (origin (map rest_of (opening_contents contents slots))) (opening words slots first_view)
    opens cs bs slots words e same w some_shard ok = rw e (subst (λ n. BoardRule contents legal origin n (origin (map rest_of (opening_contents contents (row cs bs)))) (opening words (row cs bs) first_view))
        (let r = row_length cs bs in let q : length cs ≡ length (row cs bs) / 2 = omega arith in q) (opens_at cs bs words (length cs) some_shard w refl same ok))

snoc_get : {X : Type 0} (ys : List X) (x : X) (i : ℕ) (s : X) → slice_get (ys ++ x ∷ []) i ≡ Some s → (slice_get ys i ≡ Some s) ⊎ ((i ≡ length ys) × (x ≡ s))
snoc_get [] x zero s e = inr (refl, cc)
snoc_get [] x (suc i) s e = absurd cc
snoc_get (y ∷ ys) x zero s e = inl e
snoc_get (y ∷ ys) x (suc i) s e = ⊎_elim (λ (t : slice_get ys i ≡ Some s). inl t) (λ (t : (i ≡ length ys) × (x ≡ s)). let q = t.0 in inr ((omega arith), t.1)) (snoc_get ys x i s e)

-- one element more, and the first one changed
pub each_more : {X : Type 0} (P : ℕ → X → Type 0) (xs : List X) (f x : X) (n : ℕ) → length xs ≡ n → 0 < n → ((i : ℕ) (s : X) → slice_get xs i ≡ Some s → P i s) → P 0 f → P n x
    → (i : ℕ) (s : X) → slice_get (slice_set xs 0 f ++ x ∷ []) i ≡ Some s → P i s
each_more P [] f x n len some_there old first last i s e = absurd (omega arith)
each_more P (y ∷ ys) f x n len some_there old first last zero s e = subst (P 0) (let q : f ≡ s = cc in q) first
each_more P (y ∷ ys) f x n len some_there old first last (suc i) s e = ⊎_elim (λ (t : slice_get ys i ≡ Some s). old (suc i) s t)
    (λ (t : (i ≡ length ys) × (x ≡ s)). let q = t.0 in let at : n ≡ suc i = omega arith in subst (λ (z : ℕ). P z s) at (subst (P n) t.1 last)) (snoc_get ys x i s e)

pub first_is : {X : Type 0} (xs : List X) (f x s : X) → 0 < length xs → slice_get (slice_set xs 0 f ++ x ∷ []) 0 ≡ Some s → f ≡ s
first_is [] f x s h e = absurd (omega arith)
first_is (y ∷ ys) f x s h e = cc

pub zero_words : (n : ℕ) → FirstWords n (replicate (4 * n + 1) 0) 0
zero_words n = record { wide = length-replicate (4 * n + 1) 0; turns = λ k _. zeros_at (4 * n + 1) k; sent = span_zeros (4 * n + 1) (2 * n) n; handled = span_zeros (4 * n + 1) (3 * n) n; verdict = zeros_at (4 * n + 1) (4 * n) }

-- one shard's envelopes more
pub words_more : (n k x f : ℕ) (words : List ℕ) → FirstWords n words f → k < n → get_or words (2 * n + k) 0 ≡ 0 → FirstWords n (set words (2 * n + k) x) (f + x)
words_more n k x f words w low blank = let wide = w.wide in record {
  wide = length-set words (2 * n + k) x ∙ w.wide;
  turns = λ j l. get_or-set_other words (2 * n + k) j x 0 (λ q. omega arith) ∙ w.turns j l;
  sent = let r = span_set_in words (2 * n) n (2 * n + k) x (omega arith) (omega arith) (omega arith) in let s = w.sent in omega arith;
  handled = span_set_out words (3 * n) n (2 * n + k) x (inl (omega arith)) ∙ w.handled;
  verdict = get_or-set_other words (2 * n + k) (4 * n) x 0 (λ q. omega arith) ∙ w.verdict;
}

-- the envelopes of one list more
pub lots_more : {E : Type 0} (ess : List (List E)) (k : ℕ) → k < length ess → length (pool (take (k + 1) ess)) ≡ length (pool (take k ess)) + length (get_or ess k [])
lots_more [] k h = absurd (omega arith)
lots_more (es ∷ ess) zero h = let q = length-append es [] in omega arith
lots_more (es ∷ ess) (suc k) h =
    let q : suc k + 1 ≡ suc (k + 1) = omega arith in
    let r = lots_more ess k (omega arith) in
    let a = length-append es (pool (take (k + 1) ess)) in
    let b = length-append es (pool (take k ess)) in
    rw q (omega arith)

pub lots_both : {E : Type 0} (xs ys : List (List E)) → length (pool (xs ++ ys)) ≡ length (pool xs) + length (pool ys)
lots_both [] ys = let q : length (pool ys) ≡ 0 + length (pool ys) = omega arith in q
lots_both (es ∷ xs) ys = let r = lots_both xs ys in let a = length-append es (pool (xs ++ ys)) in let b = length-append es (pool xs) in omega arith

pub lot_at : {X E : Type 0} (f : X → List E) (xs : List X) (k : ℕ) (x : X) → k < length xs → x ≡ get_or xs k x → get_or (map f xs) k [] ≡ f x
lot_at f [] k x h e = absurd (omega arith)
lot_at f (y ∷ ys) zero x h e = ap f (sym e)
lot_at f (y ∷ ys) (suc k) x h e = lot_at f ys k x (omega arith) e

pub lot_within : {E : Type 0} (ess : List (List E)) (k : ℕ) → k < length ess → length (get_or ess k []) ≤ length (pool ess)
lot_within [] k h = absurd (omega arith)
lot_within (es ∷ ess) zero h = let a = length-append es (pool ess) in omega arith
lot_within (es ∷ ess) (suc k) h = let a = length-append es (pool ess) in let r = lot_within ess k (omega arith) in omega arith

pub take_all : {X : Type 0} (xs : List X) (k : ℕ) → length xs ≤ k → take k xs ≡ xs
take_all [] zero h = refl
take_all [] (suc k) h = refl
take_all (x ∷ xs) zero h = absurd (omega arith)
take_all (x ∷ xs) (suc k) h = ap (λ l. x ∷ l) (take_all xs k (omega arith))
