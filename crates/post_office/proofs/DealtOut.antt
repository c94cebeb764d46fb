-- Lists of rests and envelopes by shard, as cells are dealt out.
use Rattle.std.proofs.Common.{◌≡◌, ℕ, zero, suc, ◌+◌, ◌<◌, List, [], ◌∷◌, ◌++◌, length, Some, map, refl, sym, ◌∙◌, ap, subst, arith, length-append, append_assoc, append-nil, replicate, inl, inr}
use Rattle.std.specs.Prelude.{slice_get, slice_set, IsPermutation, All}
use Rattle.std.proofs.lemmas.Bool.{cases_eq}
use Rattle.std.proofs.lemmas.Option.{none-some, same_Some}
use Rattle.std.proofs.lemmas.List.Sorted.{length_permutation, IsPermutation-refl, IsPermutation-sym, IsPermutation-trans, IsPermutation-append_left, IsPermutation-append_right, IsPermutation-append_comm}
use Rattle.phase_core.specs.declared.envelope.Envelope.{Envelope}
use Rattle.phase_core.specs.Machine.{start_flight}
use Rattle.phase_core.specs.Lemmas.Starts.{start_flight-more, length-start_flight}
use Rattle.quiet_table.specs.Contents.{pool}
use Rattle.post_office.specs.declared.plain.Stood.{Stood}
use Rattle.post_office.specs.declared.plain.Part.{Part}
use Rattle.post_office.specs.Shares.{IsFor, Sorted, of_shard}
use Rattle.post_office.specs.Posts.{IsCell, IsBox, IsLegal, about, about_part, stood}
use Rattle.phase_core.specs.PhaseLaws.{HoldsInAnyOrder, WeighsInAnyOrder}
use Rattle.std.proofs.lemmas.List.Elements.{All-nil}
use Rattle.post_office.specs.Lemmas.PartLaws.{get_set, get_else, length_put, get_within}
use Rattle.post_office.specs.Lemmas.Dealt.{Added, Dealt, Bare}
use Rattle.post_office.proofs.Lists.{pool_front, pool_at, pool_put}
use Rattle.post_office.proofs.Ranks.{of_shard_same, of_shard_other}

module _ {X Y : Type 0} (f : X → Y) where
  pub map_set : (xs : List X) (i : ℕ) (x : X) → map f (slice_set xs i x) ≡ slice_set (map f xs) i (f x)
  map_set [] i x = refl
  map_set (y ∷ ys) zero x = refl
  map_set (y ∷ ys) (suc i) x = ap (λ l. f y ∷ l) (map_set ys i x)

  pub map_get : (xs : List X) (i : ℕ) (x : X) → slice_get xs i ≡ Some x → slice_get (map f xs) i ≡ Some (f x)
  map_get [] i x e = absurd (none-some x e)
  map_get (y ∷ ys) zero x e = ap (λ z. Some (f z)) (same_Some y x e)
  map_get (y ∷ ys) (suc i) x e = map_get ys i x e

  pub map_length : (xs : List X) → length (map f xs) ≡ length xs
  map_length [] = refl
  map_length (y ∷ ys) = ap suc (map_length ys)

  pub map_more : (xs : List X) (x : X) → map f (xs ++ x ∷ []) ≡ map f xs ++ f x ∷ []
  map_more [] x = refl
  map_more (y ∷ ys) x = ap (λ l. f y ∷ l) (map_more ys x)

-- a list with one element more
pub more_length : {X : Type 0} (xs : List X) (x : X) → length (xs ++ x ∷ []) ≡ length xs + 1
more_length xs x = length-append xs (x ∷ [])

pub get_more : {X : Type 0} (F : ℕ → X → Type 0) (xs : List X) (x : X) → ((k : ℕ) (y : X) → slice_get xs k ≡ Some y → F k y) → F (length xs) x → (k : ℕ) (y : X) → slice_get (xs ++ x ∷ []) k ≡ Some y → F k y
get_more F [] x each last zero y e = subst (F 0) (same_Some x y e) last
get_more F [] x each last (suc k) y e = absurd (none-some y e)
get_more F (z ∷ zs) x each last zero y e = each zero y e
get_more F (z ∷ zs) x each last (suc k) y e = get_more (λ k. F (suc k)) zs x (λ j w a. each (suc j) w a) last k y e

pub pool_more_none : {E : Type 0} (ess : List (List E)) (es : List E) → pool ess ≡ [] → es ≡ [] → pool (ess ++ es ∷ []) ≡ []
pool_more_none [] es p e = ap (λ l. l ++ []) e
pool_more_none ([] ∷ ess) es p e = pool_more_none ess es p e
pool_more_none ((x ∷ xs) ∷ ess) es p e = absurd (cc)

pub pool_replicate : {E : Type 0} (n : ℕ) → pool {E = E} (replicate n []) ≡ []
pool_replicate zero = refl
pool_replicate (suc n) = pool_replicate n

pub of_none : {C : Type 0} (owners : List ℕ) (s : ℕ) → of_shard {C = C} owners s [] ≡ []
of_none [] s = refl
of_none (o ∷ os) s = refl

-- an envelope more in one of the lists
pub pool_added : {E : Type 0} (ess : List (List E)) (k : ℕ) (es es' : List E) (e : E) → slice_get ess k ≡ Some es → IsPermutation (e ∷ es) es' → IsPermutation (e ∷ pool ess) (pool (slice_set ess k es'))
pool_added ess k es es' e at more =
    let others = pool (slice_set ess k []) in
    IsPermutation-trans _ _ _ (IsPermutation-append_right (e ∷ []) (pool ess) (es ++ others) (pool_at ess k es at))
    (IsPermutation-trans _ _ _ (IsPermutation-append_left others (e ∷ es) es' more) (IsPermutation-sym _ _ (pool_front ess k es' (get_within ess k es at))))

module _ {P Q C M : Type 0} (phase : P) (problem : Q) (owners : List ℕ) (start : ℕ → M) (shards : ℕ) where
  -- one cell more is dealt
  pub deal_more : (done : List C) (rests : List (Part P Q C)) (ess : List (List (Envelope M))) (o : ℕ) (r : Part P Q C) (es : List (Envelope M)) (r' : Part P Q C) (es' : List (Envelope M)) (cell : C)
      → Dealt phase problem owners start shards done rests ess → slice_get owners (length done) ≡ Some o → slice_get rests o ≡ Some r → slice_get ess o ≡ Some es → Added r es r' es' cell (record { to = length done; msg = start (length done) })
      → Dealt phase problem owners start shards (done ++ cell ∷ []) (slice_set rests o r') (slice_set ess o es')
  deal_more done rests ess o r es r' es' cell d own at there a = record {
    count = length_put rests o r' ∙ d.count;
    counts = length_put ess o es' ∙ d.counts;
    each = each;
    flight = rw (more_length done cell) (rw (start_flight-more start (length done)) (IsPermutation-trans _ _ _ (IsPermutation-append_comm (start_flight start (length done)) (e ∷ [])) (IsPermutation-trans _ _ _ (IsPermutation-append_right (e ∷ []) (start_flight start (length done)) (pool ess) d.flight) (pool_added ess o es es' e there a.more))));
  }
    where
      e : Envelope M
      e = record { to = length done; msg = start (length done) }

      each : (k : ℕ) (q : Part P Q C) → slice_get (slice_set rests o r') k ≡ Some q → IsCell phase problem owners (done ++ cell ∷ []) k q
      each k q get = elim (cases_eq k o) [
        | inl same ↦
            let c = d.each o r at in
            let s : c.stood ≡ a.stood = same_Some c.stood a.stood (sym c.is ∙ a.was) in
            let q_is : r' ≡ q = same_Some r' q (sym (get_set rests o r' (get_within rests o r at)) ∙ subst (λ z. slice_get (slice_set rests o r') z ≡ Some q) same get) in
            subst (λ z. IsCell phase problem owners (done ++ cell ∷ []) z q) (sym same) (subst (IsCell phase problem owners (done ++ cell ∷ []) o) q_is (record {
              stood = record a.stood { cells = a.stood.cells ++ cell ∷ [] };
              is = a.is;
              of_phase = ap (λ (z : Stood P Q C). z.phase) (sym s) ∙ c.of_phase;
              of_problem = ap (λ (z : Stood P Q C). z.problem) (sym s) ∙ c.of_problem;
              its_cells = ap (λ l. l ++ cell ∷ []) (ap (λ (z : Stood P Q C). z.cells) (sym s) ∙ c.its_cells) ∙ sym (of_shard_same owners o done cell own);
              its_owners = a.same_owners ∙ c.its_owners;
              its_shard = a.same_shard ∙ c.its_shard;
            }))
        | inr other ↦
            let c = d.each k q (sym (get_else rests o k r' other) ∙ get) in
            record {
              stood = c.stood;
              is = c.is;
              of_phase = c.of_phase;
              of_problem = c.of_problem;
              its_cells = c.its_cells ∙ sym (of_shard_other owners k o done cell own other);
              its_owners = c.its_owners;
              its_shard = c.its_shard;
            }
      ]

  -- before a cell was dealt
  pub begin_more : (rests : List (Part P Q C)) (ess : List (List (Envelope M))) (r : Part P Q C) (es : List (Envelope M)) (count : ℕ)
      → Dealt phase problem owners start count [] rests ess → IsCell phase problem owners [] count r → es ≡ [] → Dealt phase problem owners start (count + 1) [] (rests ++ r ∷ []) (ess ++ es ∷ [])
  begin_more rests ess r es count d c none = record {
    count = more_length rests r ∙ ap (λ n. n + 1) d.count;
    counts = more_length ess es ∙ ap (λ n. n + 1) d.counts;
    each = get_more (IsCell phase problem owners []) rests r d.each (subst (λ n. IsCell phase problem owners [] n r) (sym d.count) c);
    flight = subst (IsPermutation []) (sym (pool_more_none ess es (nothing (pool ess) (length_permutation [] (pool ess) d.flight)) none)) (IsPermutation-refl []);
  }
    where
      nothing : (l : List (Envelope M)) → length l ≡ 0 → l ≡ []
      nothing [] e = refl
      nothing (x ∷ xs) e = absurd (omega (arith, e))

module _ {P Q C M : Type 0} (owners : List ℕ) where
  pub bare_more : (rests : List (Part P Q C)) (ess : List (List (Envelope M))) (r : Part P Q C) (es : List (Envelope M)) (count : ℕ)
      → Bare owners count rests ess → IsBox owners count r → es ≡ [] → Bare owners (count + 1) (rests ++ r ∷ []) (ess ++ es ∷ [])
  bare_more rests ess r es count b x none = record {
    count = more_length rests r ∙ ap (λ n. n + 1) b.count;
    each = get_more (IsBox owners) rests r b.each (subst (λ n. IsBox owners n r) (sym b.count) x);
    none = pool_more_none ess es b.none none;
  }

pub length_none : (E : Type 0) (n : ℕ) → length (replicate {A = List E} n []) ≡ n
length_none E zero = refl
length_none E (suc n) = ap suc (length_none E n)

none_there : {E : Type 0} (n t : ℕ) (es : List E) → slice_get (replicate n []) t ≡ Some es → [] ≡ es
none_there zero t es at = absurd (none-some es at)
none_there (suc n) zero es at = same_Some [] es at
none_there (suc n) (suc t) es at = none_there n t es at

pub sorted_none : {M : Type 0} (owners : List ℕ) (n : ℕ) → Sorted {M = M} owners (replicate n [])
sorted_none {M} owners n t es at = subst (All (λ (e : Envelope M). IsFor owners t e)) (none_there n t es at) (All-nil (λ e. IsFor owners t e))

pub none_parcels : {E : Type 0} (mail : List (List E)) (fresh : List E) (n : ℕ) → mail ≡ replicate n [] → fresh ≡ [] → pool mail ++ fresh ≡ []
none_parcels mail fresh n m f = ap (λ l. pool l ++ fresh) m ∙ (ap (λ l. l ++ fresh) (pool_replicate n) ∙ f)

pub few_none : {E : Type 0} (mail : List (List E)) (fresh : List E) (n : ℕ) → mail ≡ replicate n [] → fresh ≡ [] → length (pool mail) + length fresh ≡ 0
few_none mail fresh n m f = let a = ap length (ap pool m ∙ pool_replicate n) in let b = ap length f in omega (arith, a, b)

-- an envelope more behind those of a shard
pub added_one : {E : Type 0} (mail : List (List E)) (fresh : List E) (k : ℕ) (es : List E) (e : E) → slice_get mail k ≡ Some es → IsPermutation (e ∷ (pool mail ++ fresh)) (pool (slice_set mail k (es ++ e ∷ [])) ++ fresh)
added_one mail fresh k es e at =
    IsPermutation-trans _ _ _ (IsPermutation-append_comm (e ∷ []) (pool mail ++ fresh))
    (subst (λ l. IsPermutation l (pool (slice_set mail k (es ++ e ∷ [])) ++ fresh)) (sym (append_assoc (pool mail) fresh (e ∷ []))) (pool_put mail k es fresh e at))

module _ {P Q C : Type 0} (problem : P → List C → Q) where
  pub cell_begins : (phase phase' : P) (first first' cells : List C) (owners owners' : List ℕ) (shard shard' waits : ℕ) → phase' ≡ phase → first' ≡ first → owners' ≡ owners → shard' ≡ shard → cells ≡ []
      → IsCell phase (problem phase first) owners [] shard (record { owners = owners'; shard = shard'; waits = waits; stood = Some (stood problem phase' first' cells) })
  cell_begins phase phase' first first' cells owners owners' shard shard' waits p f o s c = record {
    stood = stood problem phase' first' cells;
    is = refl;
    of_phase = p;
    of_problem = λ i. problem (p i) (f i);
    its_cells = c ∙ sym (of_none owners shard);
    its_owners = o;
    its_shard = s;
  }

module _ {P Q C M X : Type 0} (phase : P) (problem : Q) (owners : List ℕ) (start : ℕ → M) (rest : X → Part P Q C) (parcels : X → List (Envelope M)) where
  pub deal_begin : (xs : List X) → xs ≡ [] → Dealt phase problem owners start 0 [] (map rest xs) (map parcels xs)
  deal_begin xs none = subst (λ (l : List X). Dealt phase problem owners start 0 [] (map rest l) (map parcels l)) (sym none) (record {
    count = refl;
    counts = refl;
    each = λ k r at. absurd (none-some r at);
    flight = IsPermutation-refl [];
  })

  pub begin_push : (xs xs' : List X) (x : X) (count : ℕ) → Dealt phase problem owners start count [] (map rest xs) (map parcels xs) → xs' ≡ xs ++ x ∷ [] → IsCell phase problem owners [] count (rest x) → parcels x ≡ []
      → Dealt phase problem owners start (count + 1) [] (map rest xs') (map parcels xs')
  begin_push xs xs' x count d is c none =
      subst (λ (l : List X). Dealt phase problem owners start (count + 1) [] (map rest l) (map parcels l)) (sym is)
      (rw (map_more rest xs x, map_more parcels xs x) (begin_more phase problem owners start count (map rest xs) (map parcels xs) (rest x) (parcels x) count d c none))

module _ {P Q C M X : Type 0} (owners : List ℕ) (rest : X → Part P Q C) (parcels : X → List (Envelope M)) where
  pub bare_begin : (xs : List X) → xs ≡ [] → Bare owners 0 (map rest xs) (map parcels xs)
  bare_begin xs none = subst (λ (l : List X). Bare owners 0 (map rest l) (map parcels l)) (sym none) (record { count = refl; each = λ k r at. absurd (none-some r at); none = refl })

  pub bare_push : (xs xs' : List X) (x : X) (count : ℕ) → Bare owners count (map rest xs) (map parcels xs) → xs' ≡ xs ++ x ∷ [] → IsBox owners count (rest x) → parcels x ≡ [] → Bare owners (count + 1) (map rest xs') (map parcels xs')
  bare_push xs xs' x count b is c none =
      subst (λ (l : List X). Bare owners (count + 1) (map rest l) (map parcels l)) (sym is)
      (rw (map_more rest xs x, map_more parcels xs x) (bare_more owners (map rest xs) (map parcels xs) (rest x) (parcels x) count b c none))

pub get_front : {X : Type 0} (xs ys : List X) (k : ℕ) → k < length xs → slice_get (xs ++ ys) k ≡ slice_get xs k
get_front [] ys k h = absurd (omega arith)
get_front (x ∷ xs) ys zero h = refl
get_front (x ∷ xs) ys (suc k) h = get_front xs ys k (omega arith)

pub get_back : {X : Type 0} (xs ys : List X) (k : ℕ) → slice_get (xs ++ ys) (length xs + k) ≡ slice_get ys k
get_back [] ys k = let n : 0 + k ≡ k = omega arith in rw n refl
get_back (x ∷ xs) ys k = let n : suc (length xs) + k ≡ suc (length xs + k) = omega arith in rw n (get_back xs ys k)

pub pool_append : {E : Type 0} (a b : List (List E)) → pool (a ++ b) ≡ pool a ++ pool b
pool_append [] b = refl
pool_append (es ∷ a) b = ap (λ l. es ++ l) (pool_append a b) ∙ sym (append_assoc es (pool a) (pool b))

module _ {P Q C M : Type 0} (problem : P → List C → Q) (holds : Q → List C → List (Envelope M) → Type 0) (weight : Q → List C → List (Envelope M) → ℕ) (bound : Q → ℕ) where
  -- all cells are dealt, and nothing lies in a box
  pub opens_legal : (phase : P) (cells : List C) (owners owners' : List ℕ) (start : ℕ → M) (shards shards' : ℕ) (rests boxes : List (Part P Q C)) (ess none : List (List (Envelope M)))
      → Dealt phase (problem phase cells) owners start shards cells rests ess → Bare owners' shards' boxes none → owners' ≡ owners → shards ≡ shards' → length owners ≡ length cells
      → holds (problem phase cells) cells (start_flight start (length cells)) → weight (problem phase cells) cells (start_flight start (length cells)) ≡ bound (problem phase cells)
      → HoldsInAnyOrder (holds (problem phase cells)) → WeighsInAnyOrder (weight (problem phase cells))
      → IsLegal problem holds weight bound (rests ++ boxes) (pool (ess ++ none)) 0
  opens_legal phase cells owners owners' start shards shards' rests boxes ess none d b own wide owned h w order same = rw flat (record {
    phase = phase;
    cells = cells;
    owners = owners;
    shards = shards;
    wide = (let n = length-append rests boxes in omega (arith, n, d.count, b.count, wide));
    owned = owned;
    each_cell = λ k r low at. d.each k r (sym (get_front rests boxes k (omega (arith, low, d.count))) ∙ at);
    each_box = λ k r at. (let x = b.each k r (sym (get_back rests boxes k) ∙ subst (λ n. slice_get (rests ++ boxes) (n + k) ≡ Some r) (sym d.count) at) in record { bare = x.bare; its_owners = x.its_owners ∙ own; its_shard = x.its_shard });
    holding = order cells (start_flight start (length cells)) (pool ess) d.flight h;
    weighing = (let e = same cells (start_flight start (length cells)) (pool ess) d.flight in omega (arith, e, w));
    counting = (let n = length_permutation (start_flight start (length cells)) (pool ess) d.flight in let m = length-start_flight start (length cells) in omega (arith, n, m));
  })
    where
      flat : pool (ess ++ none) ≡ pool ess
      flat = pool_append ess none ∙ (ap (λ l. pool ess ++ l) b.none ∙ append-nil (pool ess))

module _ {P Q C M X : Type 0} where
  -- one of the shards got a cell and an envelope
  pub added_at : (xs : List X) (k : ℕ) (x x' : X) (rest : X → Part P Q C) (parcels : X → List (Envelope M)) (cell : C) (e : Envelope M) → slice_get xs k ≡ Some x → Added (rest x) (parcels x) (rest x') (parcels x') cell e
      → (r : Part P Q C) × (es : List (Envelope M)) × (r' : Part P Q C) × (es' : List (Envelope M)) × (slice_get (map rest xs) k ≡ Some r) × (slice_get (map parcels xs) k ≡ Some es) × (map rest (slice_set xs k x') ≡ slice_set (map rest xs) k r') × (map parcels (slice_set xs k x') ≡ slice_set (map parcels xs) k es') × Added r es r' es' cell e
  added_at xs k x x' rest parcels cell e at a = (rest x, parcels x, rest x', parcels x', map_get rest xs k x at, map_get parcels xs k x at, map_set rest xs k x', map_set parcels xs k x', a)

module _ {P Q C M : Type 0} (phase : P) (problem : Q) (owners : List ℕ) (start : ℕ → M) (shards : ℕ) where
  pub deal_step : (done : List C) (rests rests' : List (Part P Q C)) (ess ess' : List (List (Envelope M))) (o : ℕ) (cell : C) (at : ℕ) (msg : M)
      → Dealt phase problem owners start shards done rests ess → slice_get owners at ≡ Some o → at ≡ length done → msg ≡ start at
      → ((r : Part P Q C) × (es : List (Envelope M)) × (r' : Part P Q C) × (es' : List (Envelope M)) × (slice_get rests o ≡ Some r) × (slice_get ess o ≡ Some es) × (rests' ≡ slice_set rests o r') × (ess' ≡ slice_set ess o es') × Added r es r' es' cell (record { to = at; msg = msg }))
      → Dealt phase problem owners start shards (done ++ cell ∷ []) rests' ess'
  deal_step done rests rests' ess ess' o cell at msg d own is said t =
      let e : Envelope M = record { to = at; msg = msg } in
      let e' : Envelope M = record { to = length done; msg = start (length done) } in
      let said' : msg ≡ start (length done) = said ∙ ap start is in
      let e_is : e ≡ e' = (λ i. record { to = is i; msg = said' i }) in
      subst (λ l. Dealt phase problem owners start shards (done ++ cell ∷ []) l ess') (sym t.6) (subst (λ l. Dealt phase problem owners start shards (done ++ cell ∷ []) (slice_set rests o t.2) l) (sym t.7)
      (deal_more phase problem owners start shards done rests ess o t.0 t.1 t.2 t.3 cell d (subst (λ n. slice_get owners n ≡ Some o) is own) t.4 t.5 (subst (Added t.0 t.1 t.2 t.3 cell) e_is t.8)))

pub dealt_count : {X Y : Type 0} (f : X → Y) (xs : List X) (n : ℕ) → length (map f xs) ≡ n → length xs ≡ n
dealt_count f xs n e = sym (map_length f xs) ∙ e

module _ {P Q C M : Type 0} (phase : P) (q : Q) (owners : List ℕ) (start : ℕ → M) (shards : ℕ) where
  -- what the contents are about
  pub opens_about : (cells : List C) (rests boxes : List (Part P Q C)) (ess : List (List (Envelope M))) → Dealt phase q owners start shards cells rests ess → 0 < shards → about (rests ++ boxes) ≡ Some (record { phase = phase; problem = q; owners = owners })
  opens_about cells [] boxes ess d low = let n = d.count in absurd (omega (arith, n, low))
  opens_about cells (r ∷ rests) boxes ess d low =
      let c = d.each 0 r refl in
      ap (λ z. about_part r.owners z (about (rests ++ boxes))) c.is ∙ (λ i. Some (record { phase = c.of_phase i; problem = c.of_problem i; owners = c.its_owners i }))

pub some_mapped : {X Y : Type 0} (f : X → Y) (xs : List X) (ys : List Y) → 0 < length xs → 0 < length (map f xs ++ ys)
some_mapped f [] ys low = absurd (omega arith)
some_mapped f (x ∷ xs) ys low = omega arith
