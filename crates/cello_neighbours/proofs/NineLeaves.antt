-- A mesh of unlike levels for tests: of two roots along x the first as its eight children, then the second.
use Rattle.std.proofs.Common.{◌≡◌, ℕ, zero, suc, ◌+◌, ◌^◌, ◌<◌, ◌≤◌, Bool, List, [], ◌∷◌, Some, slice_get, refl, sym, ap, subst, arith}
use Rattle.std.proofs.lemmas.Option.{none-some, same_Some}
use Rattle.block_index.specs.Places.{Cube, Grid, IsInside, child_of, grid_of}
use Rattle.block_index.specs.Order.{rank, path_of, IsBefore}
use Rattle.leaf_set.specs.Meshes.{cover_count}
use Rattle.leaf_set.specs.Tiling.{IsTiling}
use Rattle.leaf_set.proofs.Containment.{same_cube}

abbrev pub cube : ℕ → ℕ → ℕ → ℕ → Cube
cube l x y z = record { level = l; x = x; y = y; z = z }

abbrev pub nine : List Cube
nine =
    cube 1 0 0 0 ∷ cube 1 1 0 0 ∷ cube 1 0 1 0 ∷ cube 1 1 1 0 ∷ cube 1 0 0 1 ∷ cube 1 1 0 1 ∷ cube 1 0 1 1 ∷ cube 1 1 1 1 ∷ cube 0 1 0 0 ∷ []

abbrev pub two_roots : Bool → Grid
two_roots w = grid_of (2 ∷ 1 ∷ 1 ∷ []) (w ∷ w ∷ w ∷ []) 1

-- what holds of each of the nine holds of every leaf
each : (P : Cube → Type 0) → P (cube 1 0 0 0) → P (cube 1 1 0 0) → P (cube 1 0 1 0) → P (cube 1 1 1 0) → P (cube 1 0 0 1) → P (cube 1 1 0 1) → P (cube 1 0 1 1) → P (cube 1 1 1 1) → P (cube 0 1 0 0) → (i : ℕ) (c : Cube) → slice_get nine i ≡ Some c → P c
each P a b c d e f g h r zero q s = subst P (same_Some (cube 1 0 0 0) q s) a
each P a b c d e f g h r (suc zero) q s = subst P (same_Some (cube 1 1 0 0) q s) b
each P a b c d e f g h r (suc (suc zero)) q s = subst P (same_Some (cube 1 0 1 0) q s) c
each P a b c d e f g h r (suc (suc (suc zero))) q s = subst P (same_Some (cube 1 1 1 0) q s) d
each P a b c d e f g h r (suc (suc (suc (suc zero)))) q s = subst P (same_Some (cube 1 0 0 1) q s) e
each P a b c d e f g h r (suc (suc (suc (suc (suc zero))))) q s = subst P (same_Some (cube 1 1 0 1) q s) f
each P a b c d e f g h r (suc (suc (suc (suc (suc (suc zero)))))) q s = subst P (same_Some (cube 1 0 1 1) q s) g
each P a b c d e f g h r (suc (suc (suc (suc (suc (suc (suc zero))))))) q s = subst P (same_Some (cube 1 1 1 1) q s) h
each P a b c d e f g h r (suc (suc (suc (suc (suc (suc (suc (suc zero)))))))) q s = subst P (same_Some (cube 0 1 0 0) q s) r
each P a b c d e f g h r (suc (suc (suc (suc (suc (suc (suc (suc (suc i))))))))) q s = absurd (none-some q s)

inside_1 : (w : Bool) (x y z : ℕ) → x < 4 → y < 2 → z < 2 → IsInside (two_roots w) (cube 1 x y z)
inside_1 w x y z h k n = record { level = omega arith; x = omega arith; y = omega arith; z = omega arith }

inside : (w : Bool) (i : ℕ) (c : Cube) → slice_get nine i ≡ Some c → IsInside (two_roots w) c
inside w =
    each (IsInside (two_roots w)) (inside_1 w 0 0 0 (omega arith) (omega arith) (omega arith)) (inside_1 w 1 0 0 (omega arith) (omega arith) (omega arith))
    (inside_1 w 0 1 0 (omega arith) (omega arith) (omega arith))
    (inside_1 w 1 1 0 (omega arith) (omega arith) (omega arith))
    (inside_1 w 0 0 1 (omega arith) (omega arith) (omega arith))
    (inside_1 w 1 0 1 (omega arith) (omega arith) (omega arith))
    (inside_1 w 0 1 1 (omega arith) (omega arith) (omega arith))
    (inside_1 w 1 1 1 (omega arith) (omega arith) (omega arith))
    (record { level = omega arith; x = omega arith; y = omega arith; z = omega arith })

level_below : (i : ℕ) (c : Cube) → slice_get nine i ≡ Some c → c.level ≤ 1
level_below =
    each (λ c. c.level ≤ 1) (omega arith) (omega arith) (omega arith) (omega arith) (omega arith) (omega arith) (omega arith) (omega arith) (omega arith)

step : (p q a c : Cube) → rank p < rank q → Some p ≡ Some a → Some q ≡ Some c → IsBefore a c
step p q a c h s t = subst (λ x. IsBefore x c) (same_Some p a s) (subst (λ x. IsBefore p x) (same_Some q c t) h)

later : (i : ℕ) (a c : Cube) → slice_get nine i ≡ Some a → slice_get nine (suc i) ≡ Some c → IsBefore a c
unfolding rank path_of
later zero a c s t = step (cube 1 0 0 0) (cube 1 1 0 0) a c (omega arith) s t
later (suc zero) a c s t = step (cube 1 1 0 0) (cube 1 0 1 0) a c (omega arith) s t
later (suc (suc zero)) a c s t = step (cube 1 0 1 0) (cube 1 1 1 0) a c (omega arith) s t
later (suc (suc (suc zero))) a c s t = step (cube 1 1 1 0) (cube 1 0 0 1) a c (omega arith) s t
later (suc (suc (suc (suc zero)))) a c s t = step (cube 1 0 0 1) (cube 1 1 0 1) a c (omega arith) s t
later (suc (suc (suc (suc (suc zero))))) a c s t = step (cube 1 1 0 1) (cube 1 0 1 1) a c (omega arith) s t
later (suc (suc (suc (suc (suc (suc zero)))))) a c s t = step (cube 1 0 1 1) (cube 1 1 1 1) a c (omega arith) s t
later (suc (suc (suc (suc (suc (suc (suc zero))))))) a c s t = step (cube 1 1 1 1) (cube 0 1 0 0) a c (omega arith) s t
later (suc (suc (suc (suc (suc (suc (suc (suc i)))))))) a c s t = absurd (none-some c t)

ordered : (i : ℕ) (a c : Cube) → slice_get nine i ≡ Some a → slice_get nine (i + 1) ≡ Some c → IsBefore a c
ordered i a c s t = later i a c s (subst (λ n. slice_get nine n ≡ Some c) (let e : i + 1 ≡ suc i = omega arith in e) t)

two : (P : ℕ → Type 0) → P 0 → P 1 → (n : ℕ) → n < 2 → P n
two P a b zero h = a
two P a b (suc zero) h = b
two P a b (suc (suc n)) h = absurd (omega arith)

four : (P : ℕ → Type 0) → P 0 → P 1 → P 2 → P 3 → (n : ℕ) → n < 4 → P n
four P a b c d zero h = a
four P a b c d (suc zero) h = b
four P a b c d (suc (suc zero)) h = c
four P a b c d (suc (suc (suc zero))) h = d
four P a b c d (suc (suc (suc (suc n)))) h = absurd (omega arith)

Once : ℕ → ℕ → ℕ → Type 0
Once x y z = cover_count nine (cube 1 x y z) ≡ 1

counted : (x : ℕ) → x < 4 → (y : ℕ) → y < 2 → (z : ℕ) → z < 2 → Once x y z
unfolding Once
counted =
    four (λ x. (y : ℕ) → y < 2 → (z : ℕ) → z < 2 → Once x y z)
    (two (λ y. (z : ℕ) → z < 2 → Once 0 y z) (two (Once 0 0) refl refl) (two (Once 0 1) refl refl))
    (two (λ y. (z : ℕ) → z < 2 → Once 1 y z) (two (Once 1 0) refl refl) (two (Once 1 1) refl refl))
    (two (λ y. (z : ℕ) → z < 2 → Once 2 y z) (two (Once 2 0) refl refl) (two (Once 2 1) refl refl))
    (two (λ y. (z : ℕ) → z < 2 → Once 3 y z) (two (Once 3 0) refl refl) (two (Once 3 1) refl refl))

covered : (w : Bool) (c : Cube) → IsInside (two_roots w) c → c.level ≡ 1 → cover_count nine c ≡ 1
unfolding Once
covered w c h e =
    let p : 2 ^ c.level ≡ 2 = ap (λ l. 2 ^ l) e in
    let same : c ≡ cube 1 c.x c.y c.z = same_cube c (cube 1 c.x c.y c.z) e refl refl refl in
    subst (λ q. cover_count nine q ≡ 1) (sym same)
    (counted c.x (omega (arith, h.x)) c.y (omega (arith, h.y)) c.z (omega (arith, h.z)))

pub IsTiling-nine : (w : Bool) → IsTiling (record { grid = two_roots w; places = nine })
IsTiling-nine w = record {
  domain = record {
    some_x = omega arith;
    some_y = omega arith;
    some_z = omega arith;
    most_x = omega arith;
    most_y = omega arith;
    most_z = omega arith;
    finest = omega arith;
  };
  mesh = record { inside = inside w; ordered = ordered; covered = covered w };
  balanced = λ i j a c s t h. omega (arith, level_below i a s);
}

pub IsTiling-children : (w : Bool) (grid : Grid) (first second : Cube) (places : List Cube) (a b c d e f g h : Cube) → grid ≡ two_roots w → first ≡ cube 0 0 0 0 → second ≡ cube 0 1 0 0
    → a ≡ child_of first 0 → b ≡ child_of first 1 → c ≡ child_of first 2 → d ≡ child_of first 3 → e ≡ child_of first 4 → f ≡ child_of first 5 → g ≡ child_of first 6 → h ≡ child_of first 7
    → places ≡ a ∷ b ∷ c ∷ d ∷ e ∷ f ∷ g ∷ h ∷ second ∷ [] → IsTiling (record { grid = grid; places = places })
IsTiling-children w grid first second places a b c d e f g h p q r sa sb sc sd se sf sg sh t =
    let same : places ≡ nine = rw (t, sa, sb, sc, sd, se, sf, sg, sh, q, r) in
    subst (λ n. IsTiling (record { grid = grid; places = n })) (sym same)
    (subst (λ n. IsTiling (record { grid = n; places = nine })) (sym p) (IsTiling-nine w))
