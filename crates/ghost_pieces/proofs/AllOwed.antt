-- The lists of what all leaves owe.
use Rattle.std.proofs.Common.{◌≡◌, ℕ, zero, suc, ◌+◌, ◌↔◌, inl, inr, refl, sym, subst, arith, List, [], ◌∷◌, Some, slice_get, get_or, length}
use Rattle.std.proofs.lemmas.Option.{none-some, same_Some, slice_get_within, slice_get-get_or}
use Rattle.block_index.specs.Places.{Cube, Grid}
use Rattle.ghost_pieces.specs.Regions.{Region, IsRegion, Member, Once, AreOwed, joined}
use Rattle.ghost_pieces.proofs.Lists.{member-none, member-left, member-right, member-split, once-none, once-append}

member-concat : {A : Type 0} (lists : List (List A)) (i : ℕ) (xs : List A) (x : A) → slice_get lists i ≡ Some xs → Member xs x → Member (joined lists) x
member-concat [] i xs x e m = absurd (none-some xs e)
member-concat (l ∷ ls) zero xs x e m = member-left l (joined ls) x (subst (λ u. Member u x) (sym (same_Some l xs e)) m)
member-concat (l ∷ ls) (suc i) xs x e m = member-right l (joined ls) x (member-concat ls i xs x e m)

member-unconcat : {A : Type 0} (lists : List (List A)) (x : A) → Member (joined lists) x → (i : ℕ) × (xs : List A) × (slice_get lists i ≡ Some xs) × Member xs x
member-unconcat [] x m = absurd (member-none x m)
member-unconcat (l ∷ ls) x m =
    elim (member-split l (joined ls) x m) [
      | inl n ↦ (zero, l, refl, n)
      | inr n ↦ let r = member-unconcat ls x n in (suc r.0, r.1, r.2, r.3)
    ]

-- a key that tells which list an element stands in
once-concat : {A : Type 0} (key : A → ℕ) (lists : List (List A)) (from : ℕ) → ((i : ℕ) (xs : List A) → slice_get lists i ≡ Some xs → Once xs) → ((i : ℕ) (xs : List A) (x : A) → slice_get lists i ≡ Some xs → Member xs x → key x ≡ from + i) → Once (joined lists)
once-concat key [] from o k = once-none
once-concat key (l ∷ ls) from o k =
    once-append l (joined ls) (o zero l refl)
    (once-concat key ls (from + 1) (λ i xs e. o (suc i) xs e) (λ i xs x e m. let f = k (suc i) xs x e m in omega arith))
    (λ x m n.
    let r = member-unconcat ls x n in
    let a = k zero l x refl m in
    let b = k (suc r.0) r.1 x r.2 r.3 in
    omega arith)

pub all_owed : (grid : Grid) (leaves : List Cube) (n d : ℕ) (lists : List (List Region)) → length lists ≡ length leaves → ((i : ℕ) (rs : List Region) → slice_get lists i ≡ Some rs → AreOwed grid n d leaves i rs) → Once (joined lists) × ((r : Region) → Member (joined lists) r ↔ IsRegion grid n d leaves r)
all_owed grid leaves n d lists l each = (
  once-concat (λ (r : Region). r.sender) lists 0 (λ i xs e. (each i xs e).once) (λ i xs r e m. let f = (each i xs e).own r m in omega arith),
  λ r. (there r, back r),
)
  where
    there : (r : Region) → Member (joined lists) r → IsRegion grid n d leaves r
    there r m = let q = member-unconcat lists r m in (each q.0 q.1 q.2).regions r q.3

    back : (r : Region) → IsRegion grid n d leaves r → Member (joined lists) r
    back r x =
        let w = slice_get_within leaves r.sender x.1.source x.1.sends in
        let rs = get_or lists r.sender [] in
        let at : slice_get lists r.sender ≡ Some rs = slice_get-get_or lists r.sender [] (omega arith) in
        member-concat lists r.sender rs r at ((each r.sender rs at).all r x refl)
