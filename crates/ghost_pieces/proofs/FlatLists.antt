-- Lists of one length, one after another in one list: where each lies, lists of zeros, and writing over one.
use Rattle.std.proofs.Common.{◌≡◌, ℕ, zero, suc, ◌+◌, ◌*◌, ◌<◌, ◌≤◌, refl, sym, ap, ◌∙◌, arith, List, [], ◌∷◌, ◌++◌, get_or, length, set, take, drop, replicate, sum, mul-le-mul, length-append, length-drop, length-take-le}
use Rattle.std.proofs.lemmas.List.{get_or-replicate, length-replicate, replicate-append-replicate, take-replicate, take_at, drop_at}
use Rattle.std.proofs.lemmas.List.Folds.{sum_by-replicate}
use Rattle.block_fields.specs.Layout.{cut}
use Rattle.block_fields.proofs.Cuts.{start, cut-splice, get_or-cut, length-cut}

-- where list d of k lists of n elements begins
pub start-alike : (k n d : ℕ) → d ≤ k → start (replicate k n) d ≡ d * n
start-alike k n d h = ap sum (take-replicate d k n h) ∙ sum_by-replicate (λ x. x) d n

pub how-many : (k n : ℕ) (q : List ℕ) → length (cut (replicate k n) q) ≡ k
how-many k n q = length-cut (replicate k n) q ∙ length-replicate k n

-- it ends within all of them
pub ends-within : (k n d : ℕ) → d < k → d * n + n ≤ k * n
ends-within k n d h =
    let m : (d + 1) * n ≤ k * n = mul-le-mul (omega arith) (omega arith) in
    omega (arith, m)

pub list-at : (k n d : ℕ) (q : List ℕ) → d < k → get_or (cut (replicate k n) q) d [] ≡ take n (drop (d * n) q)
list-at k n d q h =
    get_or-cut (replicate k n) q d (omega (arith, length-replicate k n))
    ∙ (λ i. take (get_or-replicate k d n 0 h i) (drop (start-alike k n d (omega arith) i) q))

pub zeros-alike : (k n : ℕ) → cut (replicate k n) (replicate (k * n) 0) ≡ replicate k (replicate n 0)
zeros-alike zero n = refl
zeros-alike (suc k) n =
    let first : List ℕ = replicate n 0 in
    let rest : List ℕ = replicate (k * n) 0 in
    let more : suc k * n ≡ n + k * n = omega arith in
    let e : replicate (suc k * n) 0 ≡ first ++ rest = ap (λ m. replicate m 0) more ∙ sym (replicate-append-replicate n (k * n) 0) in
    ap (cut (n ∷ replicate k n)) e
    ∙ ap (λ p. p ∷ cut (replicate k n) (drop n (first ++ rest))) (take_at first rest n (length-replicate n 0))
    ∙ ap (λ r. first ∷ cut (replicate k n) r) (drop_at first rest n (length-replicate n 0))
    ∙ ap (λ r. first ∷ r) (zeros-alike k n)

-- a list in place of another
pub written-at : (k n d : ℕ) (q w : List ℕ) → d < k → length q ≡ k * n → length w ≡ n →
    cut (replicate k n) (take (d * n) q ++ (w ++ drop (length w) (drop (d * n) q))) ≡ set (cut (replicate k n) q) d w
written-at k n d q w h long l =
    let all : sum (replicate k n) ≡ k * n = sum_by-replicate (λ x. x) k n in
    ap (λ s. cut (replicate k n) (take s q ++ (w ++ drop (length w) (drop s q)))) (sym (start-alike k n d (omega arith)))
    ∙ cut-splice (replicate k n) q w d (omega (arith, length-replicate k n)) (omega (arith, all, long)) (l ∙ sym (get_or-replicate k d n 0 h))

pub length-list : (k n d : ℕ) (q : List ℕ) → d < k → length q ≡ k * n → length (take n (drop (d * n) q)) ≡ n
length-list k n d q h long =
    let ends = ends-within k n d h in
    length-take-le n (drop (d * n) q) (let l = length-drop (d * n) q in omega (arith, ends, long))

pub length-over : (k n d : ℕ) (q w : List ℕ) → d < k → length q ≡ k * n → length w ≡ n → length (take (d * n) q ++ (w ++ drop (length w) (drop (d * n) q))) ≡ length q
length-over k n d q w h long l =
    let ends = ends-within k n d h in
    let rest = drop (d * n) q in
    let first : length (take (d * n) q) ≡ d * n = length-take-le (d * n) q (omega (arith, ends, long)) in
    omega (arith, ends, long, l, first, length-drop (d * n) q, length-drop (length w) rest, length-append w (drop (length w) rest), length-append (take (d * n) q) (w ++ drop (length w) rest))
