-- The laws of a post's contents, over any phase.
use Rattle.std.proofs.Common.{◌≡◌, ◌≢◌, ℕ, zero, suc, ◌+◌, ◌<◌, List, [], ◌∷◌, ◌++◌, length, Option, Some, None, refl, sym, ◌∙◌, ap, arith, length-append, append_assoc}
use Rattle.std.specs.Prelude.{slice_get, slice_set, IsPermutation}
use Rattle.std.proofs.lemmas.List.Sorted.{length_permutation, IsPermutation-append_right, IsPermutation-append_comm}
use Rattle.std.proofs.lemmas.Option.{none-some, same_Some}
use Rattle.phase_core.specs.declared.envelope.Envelope.{Envelope}
use Rattle.phase_core.specs.Machine.{Reaction}
use Rattle.post_office.specs.declared.plain.Stood.{Stood}
use Rattle.post_office.specs.declared.plain.Part.{Part}
use Rattle.post_office.specs.declared.plain.About.{About}
use Rattle.post_office.specs.Posts.{about, about_part, after, Turns, StoodTurn, PartTurn}

pub there : {X : Type 0} (xs : List X) (i : ℕ) → i < length xs → (x : X) × (slice_get xs i ≡ Some x)
there [] i h = absurd (omega arith)
there (x ∷ xs) zero h = (x, refl)
there (x ∷ xs) (suc i) h = there xs i (omega arith)

pub get_within : {X : Type 0} (xs : List X) (i : ℕ) (x : X) → slice_get xs i ≡ Some x → i < length xs
get_within [] i x e = absurd (none-some x e)
get_within (y ∷ ys) zero x e = omega arith
get_within (y ∷ ys) (suc i) x e = let r = get_within ys i x e in omega arith

pub get_set : {X : Type 0} (xs : List X) (i : ℕ) (x : X) → i < length xs → slice_get (slice_set xs i x) i ≡ Some x
get_set [] i x h = absurd (omega arith)
get_set (y ∷ ys) zero x h = refl
get_set (y ∷ ys) (suc i) x h = get_set ys i x (omega arith)

pub get_else : {X : Type 0} (xs : List X) (i j : ℕ) (x : X) → j ≢ i → slice_get (slice_set xs i x) j ≡ slice_get xs j
get_else [] i j x n = refl
get_else (y ∷ ys) zero zero x n = absurd (n refl)
get_else (y ∷ ys) zero (suc j) x n = refl
get_else (y ∷ ys) (suc i) zero x n = refl
get_else (y ∷ ys) (suc i) (suc j) x n = get_else ys i j x (λ e. n (ap suc e))

pub length_put : {X : Type 0} (xs : List X) (i : ℕ) (x : X) → length (slice_set xs i x) ≡ length xs
length_put [] i x = refl
length_put (y ∷ ys) zero x = refl
length_put (y ∷ ys) (suc i) x = let r = length_put ys i x in omega (arith, r)

pub put_same : {X : Type 0} (xs : List X) (i : ℕ) (x : X) → slice_get xs i ≡ Some x → slice_set xs i x ≡ xs
put_same [] i x e = refl
put_same (y ∷ ys) zero x e = ap (λ z. z ∷ ys) (sym (same_Some y x e))
put_same (y ∷ ys) (suc i) x e = ap (λ l. y ∷ l) (put_same ys i x e)

pub put_twice : {X : Type 0} (xs : List X) (i : ℕ) (x y : X) → slice_set (slice_set xs i x) i y ≡ slice_set xs i y
put_twice [] i x y = refl
put_twice (z ∷ zs) zero x y = refl
put_twice (z ∷ zs) (suc i) x y = ap (λ l. z ∷ l) (put_twice zs i x y)

-- the part that goes out comes before the others
pub out_first : {X : Type 0} (rest others out : List X) → IsPermutation ((rest ++ others) ++ out) ((rest ++ out) ++ others)
out_first rest others out = rw (append_assoc rest others out, append_assoc rest out others) (IsPermutation-append_right rest (others ++ out) (out ++ others) (IsPermutation-append_comm others out))

module _ {P Q C M : Type 0} (react : Q → ℕ → C → M → Reaction C M) where
  pub turns_balance : (owners : List ℕ) (s : ℕ) (st : Stood P Q C) (es : List (Envelope M)) (sent h : ℕ) (st' : Stood P Q C) (es' : List (Envelope M)) → Turns react owners s st es sent h st' es' → length es + sent ≡ length es' + h
  turns_balance owners s st es sent zero st' es' t = let a = t.0 in let b = length_permutation es es' t.2 in omega arith
  turns_balance owners s st es sent (suc h) st' es' t =
      let out = (react st.problem t.0.to t.2 t.0.msg).sent in
      let r = turns_balance owners s (after react owners s st t.0 t.2) (t.1 ++ out) t.3 h st' es' t.8 in
      let a = length_permutation es (t.0 ∷ t.1) t.4 in let b = length-append t.1 out in let c = t.7 in omega (arith, r, a, b, c)

  pub balanced : (r : Part P Q C) (es : List (Envelope M)) (sent h : ℕ) (r' : Part P Q C) (es' : List (Envelope M)) → PartTurn react r es sent h r' es' → length es + sent ≡ length es' + h
  balanced r es sent h r' es' t = go r.stood r'.stood t.2
    where
      go : (x y : Option (Stood P Q C)) → StoodTurn react r.owners r.shard x es sent h y es' → length es + sent ≡ length es' + h
      go None y u = absurd u
      go (Some st) None u = absurd u
      go (Some st) (Some st') u = turns_balance r.owners r.shard st es sent h st' es' u

  pub idle : (r : Part P Q C) (sent h : ℕ) (r' : Part P Q C) (es' : List (Envelope M)) → PartTurn react r [] sent h r' es' → h ≡ 0
  idle r sent h r' es' t = go h r.stood r'.stood t.2
    where
      go : (h : ℕ) (x y : Option (Stood P Q C)) → StoodTurn react r.owners r.shard x [] sent h y es' → h ≡ 0
      go h None y u = absurd u
      go h (Some st) None u = absurd u
      go zero (Some st) (Some st') u = refl
      go (suc h) (Some st) (Some st') u = let a = length_permutation [] (u.0 ∷ u.1) u.4 in absurd (omega arith)

  pub sends_after : (r : Part P Q C) (es : List (Envelope M)) (sent h : ℕ) (r' : Part P Q C) (es' : List (Envelope M)) → PartTurn react r es sent h r' es' → 0 < sent → 0 < h
  sends_after r es sent h r' es' t low = go h r.stood r'.stood t.2
    where
      go : (h : ℕ) (x y : Option (Stood P Q C)) → StoodTurn react r.owners r.shard x es sent h y es' → 0 < h
      go h None y u = absurd u
      go h (Some st) None u = absurd u
      go zero (Some st) (Some st') u = let a = u.0 in absurd (omega arith)
      go (suc h) (Some st) (Some st') u = omega arith

  pub turns_same : (owners : List ℕ) (s : ℕ) (st : Stood P Q C) (es : List (Envelope M)) (sent h : ℕ) (st' : Stood P Q C) (es' : List (Envelope M)) → Turns react owners s st es sent h st' es' → (st'.phase ≡ st.phase) × (st'.problem ≡ st.problem)
  turns_same owners s st es sent zero st' es' t = (ap (λ (z : Stood P Q C). z.phase) t.1, ap (λ (z : Stood P Q C). z.problem) t.1)
  turns_same owners s st es sent (suc h) st' es' t = turns_same owners s (after react owners s st t.0 t.2) (t.1 ++ (react st.problem t.0.to t.2 t.0.msg).sent) t.3 h st' es' t.8

  -- parts that tell the same
  abbrev Same : Part P Q C → Part P Q C → Type 0
  Same r r' = (others : Option (About P Q)) → about_part r'.owners r'.stood others ≡ about_part r.owners r.stood others

  same_turn : (r : Part P Q C) (es : List (Envelope M)) (sent h : ℕ) (r' : Part P Q C) (es' : List (Envelope M)) → PartTurn react r es sent h r' es' → Same r r'
  same_turn r es sent h r' es' t = go r.stood r'.stood t.2
    where
      go : (x y : Option (Stood P Q C)) → StoodTurn react r.owners r.shard x es sent h y es' → (others : Option (About P Q)) → about_part r'.owners y others ≡ about_part r.owners x others
      go None y u others = absurd u
      go (Some st) None u others = absurd u
      go (Some st) (Some st') u others =
          let same = turns_same r.owners r.shard st es sent h st' es' u in
          let owners = t.0 in
          λ i. Some (record { phase = same.0 i; problem = same.1 i; owners = owners i })

  pub same_origin : (rests : List (Part P Q C)) (k : ℕ) (r : Part P Q C) (es : List (Envelope M)) (sent h : ℕ) (r' : Part P Q C) (es' : List (Envelope M)) → slice_get rests k ≡ Some r → PartTurn react r es sent h r' es' → about (slice_set rests k r') ≡ about rests
  same_origin rests k r es sent h r' es' at t = put rests k at
    where
      put : (rests : List (Part P Q C)) (k : ℕ) → slice_get rests k ≡ Some r → about (slice_set rests k r') ≡ about rests
      put [] k at = refl
      put (x ∷ xs) zero at = same_turn r es sent h r' es' t (about xs) ∙ ap (λ (z : Part P Q C). about_part z.owners z.stood (about xs)) (sym (same_Some x r at))
      put (x ∷ xs) (suc k) at = ap (about_part x.owners x.stood) (put xs k at)
