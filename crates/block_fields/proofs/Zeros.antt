-- Blocks of zeros.
use Rattle.std.proofs.Common.{◌≡◌, ℕ, zero, suc, ◌*◌, ◌%◌, ◌≤◌, refl, sym, ap, ◌∙◌, arith, List, [], ◌∷◌, ◌++◌, length, map, drop, sum, replicate}
use Rattle.std.specs.List.{range_with_len}
use Rattle.std.proofs.lemmas.List.{length-replicate, replicate-append-replicate, take_at, drop_at}
use Rattle.std.proofs.lemmas.List.Sums.{sum_by-cons}
use Rattle.std.proofs.lemmas.Simd.{map-map}
use Rattle.std.proofs.lemmas.Option.{none-some, same_Some}
use Rattle.block_index.specs.Places.{Cube}
use Rattle.block_fields.specs.Blocks.{zero_block}
use Rattle.block_fields.specs.Layout.{HaveLength, IsLaidOut, cut, laid_out}
use Rattle.block_fields.specs.Shells.{ghost_count, ghost_size, ghost_sizes}

pub map-replicate : {A B : Type 0} (h : A → B) (n : ℕ) (a : A) → map h (replicate n a) ≡ replicate n (h a)
map-replicate h zero a = refl
map-replicate h (suc n) a = ap (λ xs. h a ∷ xs) (map-replicate h n a)

pub HaveLength-replicate : (m n : ℕ) (q : List ℕ) → length q ≡ n → HaveLength n (replicate m q)
HaveLength-replicate zero n q l f p e = absurd (none-some p e)
HaveLength-replicate (suc m) n q l zero p e = ap length (sym (same_Some q p e)) ∙ l
HaveLength-replicate (suc m) n q l (suc f) p e = HaveLength-replicate m n q l f p e

cut-zeros : (sizes : List ℕ) → cut sizes (replicate (sum sizes) 0) ≡ map (λ s. replicate s 0) sizes
cut-zeros [] = refl
cut-zeros (s ∷ sizes) =
    let zeros : List ℕ = replicate s 0 in
    let rest : List ℕ = replicate (sum sizes) 0 in
    let e : replicate (sum (s ∷ sizes)) 0 ≡ zeros ++ rest = ap (λ n. replicate n 0) (sum_by-cons (λ x. x) s sizes) ∙ sym (replicate-append-replicate s (sum sizes) 0) in
    ap (cut (s ∷ sizes)) e
    ∙ ap (λ p. p ∷ cut sizes (drop s (zeros ++ rest))) (take_at zeros rest s (length-replicate s 0))
    ∙ ap (λ r. zeros ∷ cut sizes r) (drop_at zeros rest s (length-replicate s 0))
    ∙ ap (λ r. zeros ∷ r) (cut-zeros sizes)

shell-zeros : (n g : ℕ) → cut (ghost_sizes n g) (replicate (ghost_count n g) 0) ≡ map (λ d. replicate (ghost_size n g d) 0) (range_with_len 0 27)
unfolding ghost_sizes
shell-zeros n g = cut-zeros (map (ghost_size n g) (range_with_len 0 27)) ∙ map-map (λ s. replicate s 0) (ghost_size n g) (range_with_len 0 27)

pub laid_out-zeros : (place : Cube) (n g fields : ℕ)
    → laid_out place n g (replicate fields (replicate (n * n * n) 0)) (replicate fields (replicate (n * n * n) 0)) (replicate fields (replicate (ghost_count n g) 0))
    ≡ zero_block place n fields g
laid_out-zeros place n g fields =
    ap (λ l. record { place = place; edge = n; depth = g; amounts = replicate fields (replicate (n * n * n) 0); before = replicate fields (replicate (n * n * n) 0); ghosts = l })
    (map-replicate (cut (ghost_sizes n g)) fields (replicate (ghost_count n g) 0) ∙ ap (replicate fields) (shell-zeros n g))

pub IsLaidOut-zeros : (n g fields : ℕ) → n % 2 ≡ 0 → 4 ≤ n → n ≤ 16 → 1 ≤ g → g ≤ 2 → fields ≤ 4
    → IsLaidOut n g (replicate fields (replicate (n * n * n) 0)) (replicate fields (replicate (n * n * n) 0)) (replicate fields (replicate (ghost_count n g) 0))
IsLaidOut-zeros n g fields even least most shallowest deepest few =
    let cells : List ℕ = replicate (n * n * n) 0 in
    let ghosts : List ℕ = replicate (ghost_count n g) 0 in
    let a = length-replicate fields cells in
    let b = length-replicate fields ghosts in
    record {
      even = even;
      least = least;
      most = most;
      shallowest = shallowest;
      deepest = deepest;
      few = omega arith;
      one_before_each = refl;
      one_shell_each = b ∙ sym a;
      all_cells = HaveLength-replicate fields (n * n * n) cells (length-replicate (n * n * n) 0);
      all_before = HaveLength-replicate fields (n * n * n) cells (length-replicate (n * n * n) 0);
      all_ghosts = HaveLength-replicate fields (ghost_count n g) ghosts (length-replicate (ghost_count n g) 0);
    }
