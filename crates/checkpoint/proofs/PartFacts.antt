-- What each part of a file tells, by what the parts before it told.
use Rattle.std.proofs.Common.{◌≡◌, ℕ, ◌*◌, ◌^◌, ◌<◌, All, List, ◌++◌, length, map, refl, sym, ap, subst, ◌∙◌, arith}
use Rattle.std.proofs.Math.Nat.{mul_left_comm}
use Rattle.std.proofs.lemmas.List.{length-map}
use Rattle.byteorder.specs.Numbers.{length-bytes_high_first}
use Rattle.block_index.specs.Places.{Cube, IsPlace, packed}
use Rattle.params_check.specs.Parameters.{IsParameters, Parameters}
use Rattle.params_check.proofs.NoFaults.{accepted-limits}
use Rattle.checkpoint.specs.Reading.{AreAccepted, IsSound, size, state_in}
use Rattle.checkpoint.specs.SavedStates.{SavedState}
use Rattle.checkpoint.specs.Spelling.{all_amounts, part_bytes}
use Rattle.checkpoint.specs.declared.part.Part.{Part}
use Rattle.checkpoint.specs.declared.part.Part.TheVariants as parts
use Rattle.checkpoint.proofs.OneState.{IsShaped, are-places, are-shaped, length-blocks, places-fit, same-blocks, same-number, same-places, same-words, split-same}
use Rattle.checkpoint.proofs.StageParts.{length-numbers_bytes}

-- what two states share whose parts before this one are the same
abbrev pub Agree : Part → SavedState → SavedState → Type 0
Agree parts.Magic s t = Unit {0}
Agree parts.Version s t = Unit {0}
Agree parts.TextLength s t = Unit {0}
Agree parts.Text s t = length s.params.text ≡ length t.params.text
Agree parts.Cycle s t = s.params ≡ t.params
Agree parts.LeafCount s t = s.params ≡ t.params
Agree parts.Places s t = (s.params ≡ t.params) × (length s.places ≡ length t.places)
Agree parts.Amounts s t = (s.params ≡ t.params) × (s.places ≡ t.places)
Agree parts.Totals s t = (s.params ≡ t.params) × (s.places ≡ t.places) × (s.amounts ≡ t.amounts)
Agree parts.Gone s t = (s.params ≡ t.params) × (s.places ≡ t.places) × (s.amounts ≡ t.amounts) × (s.totals ≡ t.totals)

pub limits-of : (p : Parameters) → AreAccepted p → IsParameters p
limits-of p a = accepted-limits a.groups p a.limits a.accepted

-- ---- how long parts are

block-bytes : ℕ → Parameters → ℕ
block-bytes count p = count * (length p.fields * (8 * (p.block * p.block * p.block)))

pub size-same : (next : Part) (s t : SavedState) → Agree next s t → size s next ≡ size t next
unfolding block-bytes
size-same parts.Magic s t h = refl
size-same parts.Version s t h = refl
size-same parts.TextLength s t h = refl
size-same parts.Text s t h = h
size-same parts.Cycle s t h = refl
size-same parts.LeafCount s t h = refl
size-same parts.Places s t h = ap (λ (n : ℕ). 8 * n) h.1
size-same parts.Amounts s t h = ap (λ (n : ℕ). block-bytes n s.params) (ap length h.1) ∙ ap (block-bytes (length t.places)) h.0
size-same parts.Totals s t h = ap (λ (p : Parameters). 8 * length p.fields) h.0
size-same parts.Gone s t h = ap (λ (p : Parameters). 8 * length p.fields) h.0

pub eight-times : (l f c : ℕ) → 8 * (l * (f * c)) ≡ l * (f * (8 * c))
eight-times l f c = mul_left_comm 8 l (f * c) ∙ ap (λ (n : ℕ). l * n) (mul_left_comm 8 f c)

pub length-part : (next : Part) (s : SavedState) → IsSound s next → length (part_bytes s next) ≡ size s next
length-part parts.Magic s h = refl
length-part parts.Version s h = length-bytes_high_first 2 1
length-part parts.TextLength s h = length-bytes_high_first 4 (length s.params.text)
length-part parts.Text s h = refl
length-part parts.Cycle s h = length-bytes_high_first 4 s.cycle
length-part parts.LeafCount s h = length-bytes_high_first 4 (length s.places)
length-part parts.Places s h = length-numbers_bytes (map packed s.places) ∙ ap (λ (n : ℕ). 8 * n) (length-map s.places packed)
length-part parts.Amounts s h =
    let f = length s.params.fields in
    let c = s.params.block * s.params.block * s.params.block in
    length-numbers_bytes (all_amounts s.amounts)
    ∙ ap (λ (n : ℕ). 8 * n) (length-blocks f c s.amounts (are-shaped (state_in s) h.0) ∙ ap (λ (n : ℕ). n * (f * c)) h.0.one_each)
    ∙ eight-times (length s.places) f c
length-part parts.Totals s h = length-numbers_bytes s.totals ∙ ap (λ (n : ℕ). 8 * n) h.stated.one_each
length-part parts.Gone s h = length-numbers_bytes s.gone ∙ ap (λ (n : ℕ). 8 * n) h.stated.one_each

-- the bytes of a part, and those after it
pub peel : (next : Part) (s t : SavedState) (a b : List ℕ) → Agree next s t → IsSound s next → IsSound t next → part_bytes s next ++ a ≡ part_bytes t next ++ b
    → (part_bytes s next ≡ part_bytes t next) × (a ≡ b)
peel next s t a b h p q e =
    split-same (part_bytes s next) a (part_bytes t next) b (length-part next s p ∙ size-same next s t h ∙ sym (length-part next t q)) e

-- ---- what they tell

pub tells-length : (s t : SavedState) → IsSound s parts.TextLength → IsSound t parts.TextLength → part_bytes s parts.TextLength ≡ part_bytes t parts.TextLength → Agree parts.Text s t
tells-length s t h k e = same-number 4 (length s.params.text) (length t.params.text) (omega (arith, h)) (omega (arith, k)) e

pub few-leaves : (s : SavedState) → AreAccepted s.params → IsSound s parts.LeafCount → length s.places < 256 ^ 4
few-leaves s a h = let most = (limits-of s.params a).most_blocks in omega (arith, h, most)

pub tells-count : (s t : SavedState) → AreAccepted s.params → AreAccepted t.params → IsSound s parts.LeafCount → IsSound t parts.LeafCount
    → part_bytes s parts.LeafCount ≡ part_bytes t parts.LeafCount → length s.places ≡ length t.places
tells-count s t a b h k e = same-number 4 (length s.places) (length t.places) (few-leaves s a h) (few-leaves t b k) e

pub tells-places : (one : (a c : Cube) → IsPlace a → IsPlace c → packed a ≡ packed c → a ≡ c) (s t : SavedState) → IsSound s parts.Places → IsSound t parts.Places
    → part_bytes s parts.Places ≡ part_bytes t parts.Places → s.places ≡ t.places
tells-places one s t h k e =
    let in_s = are-places (record { grid = s.params.grid; places = s.places }) h in
    let in_t = are-places (record { grid = t.params.grid; places = t.places }) k in
    same-places one s.places t.places in_s in_t (same-words (map packed s.places) (map packed t.places) (places-fit s.places in_s) (places-fit t.places in_t) e)

pub tells-amounts : (s t : SavedState) → Agree parts.Amounts s t → IsSound s parts.Amounts → IsSound t parts.Amounts → part_bytes s parts.Amounts ≡ part_bytes t parts.Amounts → s.amounts ≡ t.amounts
tells-amounts s t agree h k e =
    let cells : Parameters → ℕ = λ p. p.block * p.block * p.block in
    let f = length s.params.fields in
    let shaped : All (IsShaped f (cells s.params)) s.amounts = are-shaped (state_in s) h.0 in
    let shaped' : All (IsShaped f (cells s.params)) t.amounts =
    subst (λ (p : Parameters). All (IsShaped (length p.fields) (cells p)) t.amounts) (sym agree.0) (are-shaped (state_in t) k.0) in
    let blocks : length s.amounts ≡ length t.amounts = h.0.one_each ∙ ap length agree.1 ∙ sym k.0.one_each in
    same-blocks f (cells s.params) s.amounts t.amounts blocks shaped shaped' (same-words (all_amounts s.amounts) (all_amounts t.amounts) h.1 k.1 e)

pub tells-totals : (s t : SavedState) → IsSound s parts.Totals → IsSound t parts.Totals → part_bytes s parts.Totals ≡ part_bytes t parts.Totals → s.totals ≡ t.totals
tells-totals s t h k e = same-words s.totals t.totals h.stated.fit k.stated.fit e
