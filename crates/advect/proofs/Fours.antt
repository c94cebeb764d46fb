-- The four faces that make up a coarser one.
use Rattle.std.proofs.Common.{◌≡◌, ℕ, ◌+◌, ◌*◌, ◌/◌, ◌%◌, ◌<◌, ◌≤◌, List, slice_index, arith, sym, ◌∙◌}
use Rattle.std.proofs.lemmas.Nat.{mul-le, div-mul-add, mod-mul-add}
use Rattle.advect.specs.Coordinates.{face_number}
use Rattle.advect.specs.FluxPieces.{sum_of_four}

pub four-room : (n i j : ℕ) → n % 2 ≡ 0 → i < n / 2 → j < n / 2 → 2 * j * n + 2 * i + n + 1 < n * n
four-room n i j even hi hj =
    let a : (2 * j + 2) * n ≤ n * n = mul-le (2 * j + 2) n n n (omega arith) (omega arith) in
    omega arith

-- their sum, by the coordinates of the coarser one
pub four-sum : (n i j : ℕ) (q : List ℕ) → i < n / 2 →
    slice_index q (2 * j * n + 2 * i) + slice_index q (2 * j * n + 2 * i + 1) + slice_index q (2 * j * n + 2 * i + n) + slice_index q (2 * j * n + 2 * i + n + 1)
    ≡ sum_of_four n q (j * (n / 2) + i)
four-sum n i j q hi =
    let h = n / 2 in
    let m : (j * h + i) % h ≡ i = mod-mul-add j h i hi in
    let d : (j * h + i) / h ≡ j = div-mul-add j h i hi in
    let b : 2 * j * n + 2 * i + 1 ≡ face_number n (2 * i + 1) (2 * j) = omega arith in
    let c : 2 * j * n + 2 * i + n ≡ face_number n (2 * i) (2 * j + 1) = omega arith in
    let e : 2 * j * n + 2 * i + n + 1 ≡ face_number n (2 * i + 1) (2 * j + 1) = omega arith in
    (λ t. slice_index q (2 * j * n + 2 * i) + slice_index q (b t) + slice_index q (c t) + slice_index q (e t))
    ∙ (λ t. slice_index q (face_number n (2 * sym m t) (2 * sym d t)) + slice_index q (face_number n (2 * sym m t + 1) (2 * sym d t))
    + slice_index q (face_number n (2 * sym m t) (2 * sym d t + 1)) + slice_index q (face_number n (2 * sym m t + 1) (2 * sym d t + 1)))

pub four-most : (n k : ℕ) (q : List ℕ) (most : ℕ) → ((k : ℕ) → slice_index q k ≤ most) → sum_of_four n q k ≤ 4 * most
four-most n k q most h =
    let h' = n / 2 in
    let a = h (face_number n (2 * (k % h')) (2 * (k / h'))) in
    let b = h (face_number n (2 * (k % h') + 1) (2 * (k / h'))) in
    let c = h (face_number n (2 * (k % h')) (2 * (k / h') + 1)) in
    let d = h (face_number n (2 * (k % h') + 1) (2 * (k / h') + 1)) in
    omega arith
