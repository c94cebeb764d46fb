-- Places that stand in order: they rise, and there are fewer than 2 ^ 31 of them.
use Rattle.std.proofs.Common.{◌≡◌, ℕ, zero, suc, ◌+◌, ◌-◌, ◌*◌, ◌/◌, ◌%◌, ◌^◌, ◌<◌, ◌≤◌, List, Some, length, slice_get, get_or, ap, subst, arith, inl, inr, pow-suc}
use Rattle.std.proofs.lemmas.Bool.{cases_lt}
use Rattle.std.proofs.lemmas.Option.{slice_get_within, slice_get-get_or}
use Rattle.block_index.specs.Places.{Cube, IsPlace}
use Rattle.block_index.specs.Order.{rank, IsBefore, tree_number, filled_path}
use Rattle.block_index.proofs.Ranks.{tree_below}
use Rattle.block_index.proofs.Widths.{filled_path_below}
use Rattle.leaf_set.specs.LeafFaults.{BreaksOrder, StandInOrder}
use Rattle.leaf_set.proofs.Spots.{spot, start, start-spot, rank-start}

-- the first n places stand in order
abbrev pub InOrderBelow : ℕ → List Cube → Type 0
InOrderBelow n places = (at : ℕ) → at < n → BreaksOrder places at → ⊥

-- and are places
abbrev pub ArePlacesBelow : ℕ → List Cube → Type 0
ArePlacesBelow n places = (i : ℕ) → i < n → (c : Cube) → slice_get places i ≡ Some c → IsPlace c

-- one place after another
next_rises : (n : ℕ) (places : List Cube) → InOrderBelow n places → (i : ℕ) (a c : Cube) → i + 1 < n → slice_get places i ≡ Some a → slice_get places (i + 1) ≡ Some c → rank a < rank c
next_rises n places h i a c l s t =
    elim (cases_lt (rank a) (rank c)) [
      | inl less ↦ less
      | inr more ↦
          let none : rank a < rank c → ⊥ = λ less. omega arith in
          absurd
          (h (i + 1) l (record {
            before = a;
            place = c;
            later = omega arith;
            is_before = subst (λ k. slice_get places k ≡ Some a) (let e : i ≡ i + 1 - 1 = omega arith in e) s;
            is_place = t;
            unordered = none;
          }))
    ]

rising : (n : ℕ) (places : List Cube) → InOrderBelow n places → (d i : ℕ) (a c : Cube) → i + 1 + d < n → slice_get places i ≡ Some a → slice_get places (i + 1 + d) ≡ Some c → rank a < rank c
rising n places h zero i a c l s t =
    next_rises n places h i a c (omega arith) s (subst (λ k. slice_get places k ≡ Some c) (let e : i + 1 + 0 ≡ i + 1 = omega arith in e) t)
rising n places h (suc d) i a c l s t =
    let b = get_or places (i + 1 + d) c in
    let w = slice_get_within places (i + 1 + suc d) c t in
    let at : slice_get places (i + 1 + d) ≡ Some b = slice_get-get_or places (i + 1 + d) c (omega arith) in
    let low : rank a < rank b = rising n places h d i a b (omega arith) s at in
    let high : rank b < rank c = next_rises n places h (i + 1 + d) b c (omega arith) at (subst (λ k. slice_get places k ≡ Some c) (let e : i + 1 + suc d ≡ i + 1 + d + 1 = omega arith in e) t) in
    omega arith

-- of two places the later stands after the earlier
pub ranks_rise : (n : ℕ) (places : List Cube) → InOrderBelow n places → (i j : ℕ) (a c : Cube) → i < j → j < n → slice_get places i ≡ Some a → slice_get places j ≡ Some c → rank a < rank c
ranks_rise n places h i j a c l m s t =
    rising n places h (j - (i + 1)) i a c (omega arith) s (subst (λ k. slice_get places k ≡ Some c) (let e : j ≡ i + 1 + (j - (i + 1)) = omega arith in e) t)

pub in_order : (places : List Cube) → StandInOrder places → (i j : ℕ) (a c : Cube) → i < j → slice_get places i ≡ Some a → slice_get places j ≡ Some c → IsBefore a c
in_order places h i j a c l s t = ranks_rise (j + 1) places (λ at m. h at) i j a c l (omega arith) s t

-- ---- how many there can be

-- A number for each place that rises with the order: of eight spots next to one another seven places can begin at
-- the first, one of each level, and one of level 6 at each of the others.
dense : Cube → ℕ
dense c = start c / 8 * 14 + start c % 8 + c.level

eighth : (n l : ℕ) → l < 6 → (n * 8 ^ (6 - l)) % 8 ≡ 0
eighth n l h =
    let e : 6 - l ≡ suc (5 - l) = omega arith in
    let f : 8 ^ (6 - l) ≡ 8 ^ (5 - l) * 8 = subst (λ k. 8 ^ k ≡ 8 ^ (5 - l) * 8) (let g : suc (5 - l) ≡ 6 - l = omega arith in g) (pow-suc 8 (5 - l)) in
    let p : n * 8 ^ (6 - l) ≡ n * (8 ^ (5 - l) * 8) = ap (λ w. n * w) f in
    omega arith

-- only the finest places begin between two eighths
finest_between : (c : Cube) → c.level ≤ 6 → 0 < start c % 8 → 6 ≤ c.level
finest_between c h between =
    elim (cases_lt c.level 6) [
      | inl less ↦ absurd (let e = eighth (spot c) c.level less in let f = start-spot c in omega arith)
      | inr more ↦ more
    ]

numbers_rise : (s l t m : ℕ) → l ≤ 6 → m ≤ 6 → (0 < s % 8 → 6 ≤ l) → (0 < t % 8 → 6 ≤ m) → s * 7 + l < t * 7 + m → s / 8 * 14 + s % 8 + l < t / 8 * 14 + t % 8 + m
numbers_rise s l t m hl hm a c h =
    elim (cases_lt 0 (s % 8)) [
      | inl first ↦ elim (cases_lt 0 (t % 8)) [ inl second ↦ let p = a first in let q = c second in omega arith | inr none ↦ omega arith ]
      | inr none ↦ elim (cases_lt 0 (t % 8)) [ inl second ↦ let q = c second in omega arith | inr neither ↦ omega arith ]
    ]

dense_rises : (a c : Cube) → a.level ≤ 6 → c.level ≤ 6 → rank a < rank c → dense a < dense c
unfolding dense
dense_rises a c l m h =
    numbers_rise (start a) a.level (start c) c.level l m (finest_between a l) (finest_between c m)
    (let e = rank-start a l in let f = rank-start c m in omega arith)

start_below : (c : Cube) → IsPlace c → start c < 2 ^ 30
unfolding rank
start_below c h =
    let x = tree_below c.level c.x h.x in
    let y = tree_below c.level c.y h.y in
    let z = tree_below c.level c.z h.z in
    let path = filled_path_below c h.level in
    let e : rank c ≡ (tree_number c * 8 ^ 6 + filled_path c) * 7 + c.level = omega arith in
    omega (arith, rank-start c h.level)

dense_below : (c : Cube) → IsPlace c → dense c < 2 ^ 31
unfolding dense
dense_below c h = let s = start_below c h in let l = h.level in omega arith

index_below : (n : ℕ) (places : List Cube) → InOrderBelow n places → ArePlacesBelow n places → (i : ℕ) (c : Cube) → i < n → slice_get places i ≡ Some c → i ≤ dense c
index_below n places h p zero c l s = omega arith
index_below n places h p (suc i) c l s =
    let b = get_or places i c in
    let w = slice_get_within places (suc i) c s in
    let at : slice_get places i ≡ Some b = slice_get-get_or places i c (omega arith) in
    let ih : i ≤ dense b = index_below n places h p i b (omega arith) at in
    let r : rank b < rank c = ranks_rise n places h i (suc i) b c (omega arith) l at s in
    let d = dense_rises b c (p i (omega arith) b at).level (p (suc i) l c s).level r in
    omega arith

-- so that each index of such places fits 32 bits
pub few_in_order : (n : ℕ) (places : List Cube) → n ≤ length places → InOrderBelow n places → ArePlacesBelow n places → n ≤ 2 ^ 31
few_in_order zero places l h p = omega arith
few_in_order (suc i) places l h p =
    let none : Cube = record { level = 0; x = 0; y = 0; z = 0 } in
    let c = get_or places i none in
    let at : slice_get places i ≡ Some c = slice_get-get_or places i none (omega arith) in
    let b = index_below (suc i) places h p i c (omega arith) at in
    let d = dense_below c (p i (omega arith) c at) in
    omega arith
