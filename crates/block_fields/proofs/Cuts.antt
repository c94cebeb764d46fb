-- Lists that are cut into pieces of given sizes: what the pieces hold, and writing into one of them.
use Rattle.std.proofs.Common.{◌≡◌, ℕ, zero, suc, ◌+◌, ◌<◌, ◌≤◌, refl, sym, ap, ◌∙◌, arith, List, [], ◌∷◌, ◌++◌, Some, slice_get, get_or, length, set, take, drop, sum, length-append, length-drop, length-take-le, take-append-drop, take-add, append_assoc}
use Rattle.std.specs.List.{flat_map}
use Rattle.std.proofs.lemmas.List.{take-set-le, drop-set-lt, drop-set-add, drop-drop, take_at, drop_at}
use Rattle.std.proofs.lemmas.List.Sums.{sum_by-cons}
use Rattle.std.proofs.lemmas.Option.{none-some, same_Some}
use Rattle.std.proofs.Math.Seq.{take-set-lt}
use Rattle.block_fields.specs.Layout.{cut}

-- what comes before the piece d
abbrev pub start : List ℕ → ℕ → ℕ
start sizes d = sum (take d sizes)

pub start-suc : (s d : ℕ) (sizes : List ℕ) → start (s ∷ sizes) (suc d) ≡ s + start sizes d
start-suc s d sizes = sum_by-cons (λ x. x) s (take d sizes)

-- a piece ends within all of them
pub start-within : (sizes : List ℕ) (d : ℕ) → start sizes d + get_or sizes d 0 ≤ sum sizes
start-within [] zero = omega arith
start-within [] (suc d) = omega arith
start-within (s ∷ sizes) zero = let e : sum (s ∷ sizes) ≡ s + sum sizes = sum_by-cons (λ x. x) s sizes in omega arith
start-within (s ∷ sizes) (suc d) =
    let e : sum (s ∷ sizes) ≡ s + sum sizes = sum_by-cons (λ x. x) s sizes in
    omega (arith, start-suc s d sizes, start-within sizes d)

pub length-cut : (sizes q : List ℕ) → length (cut sizes q) ≡ length sizes
length-cut [] q = refl
length-cut (s ∷ sizes) q = ap suc (length-cut sizes (drop s q))

-- a piece
pub get_or-cut : (sizes q : List ℕ) (d : ℕ) → d < length sizes → get_or (cut sizes q) d [] ≡ take (get_or sizes d 0) (drop (start sizes d) q)
get_or-cut [] q d h = absurd (omega arith)
get_or-cut (s ∷ sizes) q zero h = refl
get_or-cut (s ∷ sizes) q (suc d) h =
    get_or-cut sizes (drop s q) d (omega arith)
    ∙ ap (take (get_or sizes d 0)) (drop-drop (start sizes d) s q ∙ ap (λ k. drop k q) (sym (start-suc s d sizes)))

-- each piece has its size
pub length-piece : (sizes q : List ℕ) (d : ℕ) (p : List ℕ) → sum sizes ≤ length q → slice_get (cut sizes q) d ≡ Some p → length p ≡ get_or sizes d 0
length-piece [] q d p long e = absurd (none-some p e)
length-piece (s ∷ sizes) q zero p long e =
    let k : sum (s ∷ sizes) ≡ s + sum sizes = sum_by-cons (λ x. x) s sizes in
    ap length (sym (same_Some (take s q) p e)) ∙ length-take-le s q (omega arith)
length-piece (s ∷ sizes) q (suc d) p long e =
    let k : sum (s ∷ sizes) ≡ s + sum sizes = sum_by-cons (λ x. x) s sizes in
    length-piece sizes (drop s q) d p (omega (arith, length-drop s q)) e

-- the pieces together
pub flat_map-cut : (sizes q : List ℕ) → length q ≡ sum sizes → flat_map (λ p. p) (cut sizes q) ≡ q
flat_map-cut [] [] l = refl
flat_map-cut [] (x ∷ q) l = absurd (omega arith)
flat_map-cut (s ∷ sizes) q l =
    let k : sum (s ∷ sizes) ≡ s + sum sizes = sum_by-cons (λ x. x) s sizes in
    ap (λ r. take s q ++ r) (flat_map-cut sizes (drop s q) (omega (arith, length-drop s q))) ∙ take-append-drop s q

-- a write into a piece
pub cut-set : (sizes q : List ℕ) (d j v : ℕ) → d < length sizes → j < get_or sizes d 0 → cut sizes (set q (start sizes d + j) v) ≡ set (cut sizes q) d (set (get_or (cut sizes q) d []) j v)
cut-set [] q d j v h k = absurd (omega arith)
cut-set (s ∷ sizes) q zero j v h k =
    ap (λ i. cut (s ∷ sizes) (set q i v)) (let e : start (s ∷ sizes) zero + j ≡ j = omega arith in e)
    ∙ ap (λ p. p ∷ cut sizes (drop s (set q j v))) (take-set-lt s q j v k)
    ∙ ap (λ r. set (take s q) j v ∷ cut sizes r) (drop-set-lt s q j v k)
cut-set (s ∷ sizes) q (suc d) j v h k =
    ap (λ i. cut (s ∷ sizes) (set q i v)) (let e : start (s ∷ sizes) (suc d) + j ≡ s + (start sizes d + j) = omega (arith, start-suc s d sizes) in e)
    ∙ ap (λ p. p ∷ cut sizes (drop s (set q (s + (start sizes d + j)) v))) (take-set-le s q (s + (start sizes d + j)) v (omega arith))
    ∙ ap (λ r. take s q ∷ cut sizes r) (drop-set-add s q (start sizes d + j) v)
    ∙ ap (λ r. take s q ∷ r) (cut-set sizes (drop s q) d j v (omega arith) k)

-- lists of these sizes are the pieces of what they are together
pub cut-flat_map : (sizes : List ℕ) (ps : List (List ℕ)) → length ps ≡ length sizes → ((d : ℕ) (p : List ℕ) → slice_get ps d ≡ Some p → length p ≡ get_or sizes d 0) → cut sizes (flat_map (λ p. p) ps) ≡ ps
cut-flat_map [] [] l h = refl
cut-flat_map [] (p ∷ ps) l h = absurd (omega arith)
cut-flat_map (s ∷ sizes) [] l h = absurd (omega arith)
cut-flat_map (s ∷ sizes) (p ∷ ps) l h =
    let rest = flat_map (λ p. p) ps in
    let size : length p ≡ s = h zero p refl in
    ap (λ q. q ∷ cut sizes (drop s (p ++ rest))) (take_at p rest s size)
    ∙ ap (λ r. p ∷ cut sizes r) (drop_at p rest s size)
    ∙ ap (λ r. p ∷ r) (cut-flat_map sizes ps (omega arith) (λ d q e. h (suc d) q e))

pub length-flat_map : (sizes : List ℕ) (ps : List (List ℕ)) → length ps ≡ length sizes → ((d : ℕ) (p : List ℕ) → slice_get ps d ≡ Some p → length p ≡ get_or sizes d 0) → length (flat_map (λ p. p) ps) ≡ sum sizes
length-flat_map [] [] l h = refl
length-flat_map [] (p ∷ ps) l h = absurd (omega arith)
length-flat_map (s ∷ sizes) [] l h = absurd (omega arith)
length-flat_map (s ∷ sizes) (p ∷ ps) l h =
    let k : sum (s ∷ sizes) ≡ s + sum sizes = sum_by-cons (λ x. x) s sizes in
    omega (arith, length-append p (flat_map (λ p. p) ps), h zero p refl, length-flat_map sizes ps (omega arith) (λ d q e. h (suc d) q e))

-- a piece in place of another of its length
pub cut-splice : (sizes q w : List ℕ) (d : ℕ) → d < length sizes → sum sizes ≤ length q → length w ≡ get_or sizes d 0 → cut sizes (take (start sizes d) q ++ (w ++ drop (length w) (drop (start sizes d) q))) ≡ set (cut sizes q) d w
cut-splice [] q w d h long l = absurd (omega arith)
cut-splice (s ∷ sizes) q w zero h long l =
    let rest = drop (length w) q in
    ap (λ p. p ∷ cut sizes (drop s (w ++ rest))) (take_at w rest s l)
    ∙ ap (λ r. w ∷ cut sizes r) (drop_at w rest s l ∙ ap (λ k. drop k q) l)
cut-splice (s ∷ sizes) q w (suc d) h long l =
    let e : sum (s ∷ sizes) ≡ s + sum sizes = sum_by-cons (λ x. x) s sizes in
    let k = start sizes d in
    let tail = drop s q in
    let rest = take k tail ++ (w ++ drop (length w) (drop k tail)) in
    let first : length (take s q) ≡ s = length-take-le s q (omega arith) in
    let split : take (s + k) q ++ (w ++ drop (length w) (drop (s + k) q)) ≡ take s q ++ rest =
    (λ i. take-add s k q i ++ (w ++ drop (length w) (sym (drop-drop k s q) i)))
    ∙ append_assoc (take s q) (take k tail) (w ++ drop (length w) (drop k tail)) in
    ap (λ n. cut (s ∷ sizes) (take n q ++ (w ++ drop (length w) (drop n q)))) (start-suc s d sizes)
    ∙ ap (cut (s ∷ sizes)) split
    ∙ ap (λ p. p ∷ cut sizes (drop s (take s q ++ rest))) (take_at (take s q) rest s first)
    ∙ ap (λ r. take s q ∷ cut sizes r) (drop_at (take s q) rest s first)
    ∙ ap (λ r. take s q ∷ r) (cut-splice sizes tail w d (omega arith) (omega (arith, length-drop s q)) l)
