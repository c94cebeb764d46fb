-- Bytes are a number, and bytes of which there are eight for each are numbers.
use Rattle.std.proofs.Common.{◌≡◌, ℕ, zero, suc, ◌+◌, ◌*◌, ◌/◌, ◌%◌, ◌^◌, ◌<◌, ◌≤◌, All, List, [], ◌∷◌, length, take, drop, take-append-drop, length-take-le, length-drop, refl, sym, ap, subst, ◌∙◌, arith}
use Rattle.std.specs.Int.{byte_at, bytes_high_first}
use Rattle.std.proofs.Math.Nat.{add-mul, div-one, mod-eq_of_lt, mul-add-div_right, mul-add-mod_self_right, mul_assoc, mul_comm, mul-le-mul_right, one-le-pow, pow-suc}
use Rattle.std.proofs.lemmas.List.Elements.{All-drop, All-head, All-nil, All-tail, All-take}
use Rattle.std.proofs.lemmas.Nat.{div-mul-add}
use Rattle.checkpoint.specs.Reading.{AreNumber, AreWords}
use Rattle.checkpoint.proofs.WordLists.{AreWords-append, AreWords-one}

-- a byte of a number, by its place
byte-is : (k x : ℕ) → byte_at k x ≡ x / 256 ^ k % 256
byte-is zero x = ap (λ (y : ℕ). y % 256) (sym (div-one x))
byte-is (suc k) x = refl

positive : (k : ℕ) → 0 < 256 ^ k
positive k = let h = one-le-pow k 256 (omega arith) in omega (arith, h)

next-power : (k c : ℕ) → c * 256 ^ suc k ≡ c * 256 * 256 ^ k
next-power k c = ap (λ (n : ℕ). c * n) (pow-suc 256 k ∙ mul_comm (256 ^ k) 256) ∙ sym (mul_assoc c 256 (256 ^ k))

-- the low bytes of a number don't see what stands above them
low-bytes : (k c n : ℕ) → bytes_high_first k (c * 256 ^ k + n) ≡ bytes_high_first k n
low-bytes zero c n = refl
low-bytes (suc k) c n =
    let p = 256 ^ k in
    let x = c * 256 * p + n in
    let same : c * 256 ^ suc k + n ≡ x = ap (λ (m : ℕ). m + n) (next-power k c) in
    let here : byte_at k x ≡ byte_at k n =
    byte-is k x ∙ ap (λ (m : ℕ). m % 256) (mul-add-div_right (positive k) (c * 256) n) ∙ mul-add-mod_self_right c 256 (n / p) ∙ sym (byte-is k n) in
    let rest : bytes_high_first k x ≡ bytes_high_first k n = low-bytes k (c * 256) n in
    ap (bytes_high_first (suc k)) same ∙ (λ i. here i ∷ rest i)

-- a number, and a byte in front of it
number-more : (k b n : ℕ) (bytes : List ℕ) → b < 256 → AreNumber k n bytes → AreNumber (suc k) (b * 256 ^ k + n) (b ∷ bytes)
number-more k b n bytes small h =
    let p = 256 ^ k in
    let x = b * p + n in
    let front : byte_at k x ≡ b = byte-is k x ∙ ap (λ (m : ℕ). m % 256) (div-mul-add b p n h.fits) ∙ mod-eq_of_lt small in
    let rest : bytes_high_first k x ≡ bytes = low-bytes k b n ∙ sym h.bytes_are in
    record {
      fits =
          let top : (b + 1) * p ≤ 256 * p = mul-le-mul_right p (omega (arith, small)) in
          let split : (b + 1) * p ≡ b * p + 1 * p = add-mul b 1 p in
          let all : 256 ^ suc k ≡ 256 * p = pow-suc 256 k ∙ mul_comm p 256 in
          let f = h.fits in
          omega (arith, top, split, all, f);
      bytes_are = λ i. sym front i ∷ sym rest i;
    }

-- bytes are a number
pub number-of : (k : ℕ) (bytes : List ℕ) → length bytes ≡ k → All (λ b. b < 256) bytes → (n : ℕ) × AreNumber k n bytes
number-of zero [] long h = (0, record { fits = omega arith; bytes_are = refl })
number-of zero (b ∷ bytes) long h = absurd (omega (arith, long))
number-of (suc k) [] long h = absurd (omega (arith, long))
number-of (suc k) (b ∷ bytes) long h =
    let P : ℕ → Type 0 = λ b. b < 256 in
    let r = number-of k bytes (omega (arith, long)) (All-tail P b bytes h) in
    (b * 256 ^ k + r.0, number-more k b r.0 bytes (All-head P b bytes h) r.1)

-- numbers of 8 bytes, as many as these
pub record Words (count : ℕ) (bytes : List ℕ) : Type 0 where
  pub words : List ℕ
  pub are : AreWords words bytes
  pub many : length words ≡ count

pub words-of : (count : ℕ) (bytes : List ℕ) → length bytes ≡ 8 * count → All (λ b. b < 256) bytes → Words count bytes
words-of zero [] long h = record { words = []; are = record { fit = All-nil (λ n. n < 2 ^ 64); bytes_are = refl }; many = refl }
words-of zero (b ∷ bytes) long h = absurd (omega (arith, long))
words-of (suc count) bytes long h =
    let P : ℕ → Type 0 = λ b. b < 256 in
    let here = take 8 bytes in
    let after = drop 8 bytes in
    let one = number-of 8 here (length-take-le 8 bytes (omega (arith, long))) (All-take P 8 bytes h) in
    let less = length-drop 8 bytes in
    let rest = words-of count after (omega (arith, less, long)) (All-drop P 8 bytes h) in
    let m = rest.many in
    record {
      words = one.0 ∷ rest.words;
      are = subst (AreWords (one.0 ∷ rest.words)) (take-append-drop 8 bytes) (AreWords-append (one.0 ∷ []) rest.words here after (AreWords-one one.0 here one.1) rest.are);
      many = omega (arith, m);
    }
