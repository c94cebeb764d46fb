-- The cells of one shard among all cells: look-ups and writes.
use Rattle.std.proofs.Common.{◌≡◌, ◌≢◌, ℕ, zero, suc, List, [], ◌∷◌, Some, nat_eq, cond, eq-eqb, ne_eqb, true, false, Bool, refl, sym, ◌∙◌, ap}
use Rattle.std.specs.Prelude.{slice_get, slice_set}
use Rattle.std.proofs.lemmas.Option.{none-some, same_Some}
use Rattle.post_office.specs.Shares.{of_shard, rank}

module _ {C : Type 0} where
  kept : (o s : ℕ) (b : Bool) → nat_eq o s ≡ b → (c : C) (os : List ℕ) (cs : List C) → of_shard (o ∷ os) s (c ∷ cs) ≡ cond b (c ∷ of_shard os s cs) (of_shard os s cs)
  kept o s b e c os cs = ap (λ z. cond z (c ∷ of_shard os s cs) (of_shard os s cs)) e

  -- cell i of a shard stands at its rank
  pub get_of_shard : (owners : List ℕ) (s : ℕ) (cells : List C) (i : ℕ) (c : C) → slice_get owners i ≡ Some s → slice_get cells i ≡ Some c → slice_get (of_shard owners s cells) (rank owners s i) ≡ Some c
  get_of_shard [] s cells i c o h = absurd (none-some s o)
  get_of_shard (o ∷ os) s [] i c w h = absurd (none-some c h)
  get_of_shard (o ∷ os) s (d ∷ cs) zero c w h =
      let same : o ≡ s = same_Some o s w in
      ap (λ l. slice_get l 0) (kept o s true (eq-eqb o s same) d os cs) ∙ h
  get_of_shard (o ∷ os) s (d ∷ cs) (suc i) c w h = by (nat_eq o s) (get_of_shard os s cs i c w h)
    where
      by : (b : Bool) → slice_get (of_shard os s cs) (rank os s i) ≡ Some c → slice_get (cond b (d ∷ of_shard os s cs) (of_shard os s cs)) (cond b (suc (rank os s i)) (rank os s i)) ≡ Some c
      by true r = r
      by false r = r

  -- a write to cell i is one to the shard's list,
  pub set_of_shard : (owners : List ℕ) (s : ℕ) (cells : List C) (i : ℕ) (c d : C) → slice_get owners i ≡ Some s → slice_get cells i ≡ Some c → of_shard owners s (slice_set cells i d) ≡ slice_set (of_shard owners s cells) (rank owners s i) d
  set_of_shard [] s cells i c d o h = absurd (none-some s o)
  set_of_shard (o ∷ os) s [] i c d w h = absurd (none-some c h)
  set_of_shard (o ∷ os) s (x ∷ cs) zero c d w h =
      let same : o ≡ s = same_Some o s w in
      let e = eq-eqb o s same in
      kept o s true e d os cs ∙ sym (ap (λ l. slice_set l 0 d) (kept o s true e x os cs))
  set_of_shard (o ∷ os) s (x ∷ cs) (suc i) c d w h = by (nat_eq o s) (set_of_shard os s cs i c d w h)
    where
      by : (b : Bool) → of_shard os s (slice_set cs i d) ≡ slice_set (of_shard os s cs) (rank os s i) d → cond b (x ∷ of_shard os s (slice_set cs i d)) (of_shard os s (slice_set cs i d)) ≡ slice_set (cond b (x ∷ of_shard os s cs) (of_shard os s cs)) (cond b (suc (rank os s i)) (rank os s i)) d
      by true r = ap (λ l. x ∷ l) r
      by false r = r

  -- and none to another shard's
  pub set_of_other : (owners : List ℕ) (s t : ℕ) (cells : List C) (i : ℕ) (d : C) → slice_get owners i ≡ Some s → t ≢ s → of_shard owners t (slice_set cells i d) ≡ of_shard owners t cells
  set_of_other [] s t cells i d o n = absurd (none-some s o)
  set_of_other (o ∷ os) s t [] i d w n = refl
  set_of_other (o ∷ os) s t (x ∷ cs) zero d w n =
      let same : o ≡ s = same_Some o s w in
      let e : nat_eq o t ≡ false = ne_eqb o t (λ q. n (sym q ∙ same)) in
      kept o t false e d os cs ∙ sym (kept o t false e x os cs)
  set_of_other (o ∷ os) s t (x ∷ cs) (suc i) d w n = by (nat_eq o t) (set_of_other os s t cs i d w n)
    where
      by : (b : Bool) → of_shard os t (slice_set cs i d) ≡ of_shard os t cs → cond b (x ∷ of_shard os t (slice_set cs i d)) (of_shard os t (slice_set cs i d)) ≡ cond b (x ∷ of_shard os t cs) (of_shard os t cs)
      by true r = ap (λ l. x ∷ l) r
      by false r = r
