-- Numbers of 8 bytes, one after another.
use Rattle.std.proofs.Common.{◌≡◌, ℕ, ◌+◌, ◌*◌, ◌^◌, ◌<◌, ◌≤◌, List, [], ◌∷◌, ◌++◌, length, take, drop, slice_set, sum, take-append-drop, length-take-le, sym, ap, ◌∙◌, arith}
use Rattle.std.specs.Int.{bytes_high_first}
use Rattle.std.proofs.Math.Seq.{take-append-add}
use Rattle.std.proofs.lemmas.List.{take_more_set, append-nil}
use Rattle.std.proofs.lemmas.List.Concat.{flat_map-append}
use Rattle.std.proofs.lemmas.List.Elements.{All-append, All-cons, All-nil}
use Rattle.std.proofs.lemmas.List.Sums.{sum_by_push}
use Rattle.checkpoint.specs.Lemmas.AmountSteps.{NumbersRead}
use Rattle.checkpoint.specs.Reading.{AreNumber, AreWords}
use Rattle.checkpoint.specs.Spelling.{numbers_bytes}

-- the first elements, and as many after them
pub take-seam : (n m : ℕ) (l : List ℕ) → n ≤ length l → take (n + m) l ≡ take n l ++ take m (drop n l)
take-seam n m l h =
    ap (λ (k : ℕ). take (k + m) l) (sym (length-take-le n l h))
    ∙ ap (λ (q : List ℕ). take (length (take n l) + m) q) (sym (take-append-drop n l))
    ∙ take-append-add (take n l) (drop n l) m

-- one part after another
pub AreWords-append : (v w a b : List ℕ) → AreWords v a → AreWords w b → AreWords (v ++ w) (a ++ b)
AreWords-append v w a b hv hw = record {
  fit = All-append (λ n. n < 2 ^ 64) v w hv.fit hw.fit;
  bytes_are = ap (λ (l : List ℕ). l ++ b) hv.bytes_are ∙ ap (λ (l : List ℕ). numbers_bytes v ++ l) hw.bytes_are ∙ sym (flat_map-append (bytes_high_first 8) v w);
}

pub AreWords-one : (word : ℕ) (bytes : List ℕ) → AreNumber 8 word bytes → AreWords (word ∷ []) bytes
AreWords-one word bytes h = record {
  fit = All-cons (λ n. n < 2 ^ 64) word [] h.fits (All-nil (λ n. n < 2 ^ 64));
  bytes_are = h.bytes_are ∙ sym (append-nil (bytes_high_first 8 word));
}

-- one number more
pub NumbersRead-more : (bytes numbers : List ℕ) (j total word : ℕ) → NumbersRead bytes numbers j total → j < length numbers → 8 * j + 8 ≤ length bytes
    → AreNumber 8 word (take 8 (drop (8 * j) bytes)) → NumbersRead bytes (slice_set numbers j word) (j + 1) (total + word)
NumbersRead-more bytes numbers j total word h below within is =
    let list : take (j + 1) (slice_set numbers j word) ≡ take j numbers ++ word ∷ [] = take_more_set numbers j word below in
    let next : 8 * (j + 1) ≡ 8 * j + 8 = omega arith in
    let here : take (8 * (j + 1)) bytes ≡ take (8 * j) bytes ++ take 8 (drop (8 * j) bytes) = ap (λ (n : ℕ). take n bytes) next ∙ take-seam (8 * j) 8 bytes (omega arith) in
    record {
      words = rw (list, here) (AreWords-append (take j numbers) (word ∷ []) (take (8 * j) bytes) (take 8 (drop (8 * j) bytes)) h.words (AreWords-one word (take 8 (drop (8 * j) bytes)) is));
      sum_is = ap (λ (n : ℕ). n + word) h.sum_is ∙ sym (sum_by_push (λ x. x) (take j numbers) word) ∙ ap sum (sym list);
      limit = omega (arith, h.limit, is.fits);
    }
