-- Fields that are kept as vectors, seen as lists of lists.
use Rattle.std.proofs.Common.{◌≡◌, ℕ, zero, suc, ◌<◌, sym, ap, ◌∙◌, arith, List, [], ◌∷◌, ◌⊎◌, Some, slice_get, get_or, set, length, map, inl, inr, Vec, Global}
use Rattle.std.specs.Vec.{with_items}
use Rattle.std.proofs.lemmas.List.{length-map, length-set, map-set, get_or-map, with_items_is}
use Rattle.std.proofs.lemmas.Option.{slice_get-get_or, get_or_from_slice_get, same_Some}
use Rattle.block_fields.specs.Layout.{HaveLength}

-- an element of a list after a write is what was written, or stood there
pub slice_get-set_of : {A : Type 0} (xs : List A) (i : ℕ) (a : A) (j : ℕ) (x : A) → slice_get (set xs i a) j ≡ Some x → (a ≡ x) ⊎ (slice_get xs j ≡ Some x)
slice_get-set_of [] i a j x e = inr e
slice_get-set_of (y ∷ ys) zero a zero x e = inl (same_Some a x e)
slice_get-set_of (y ∷ ys) zero a (suc j) x e = inr e
slice_get-set_of (y ∷ ys) (suc i) a zero x e = inr e
slice_get-set_of (y ∷ ys) (suc i) a (suc j) x e = slice_get-set_of ys i a j x e

pub HaveLength-set : (n : ℕ) (lists : List (List ℕ)) (f : ℕ) (q : List ℕ) → HaveLength n lists → length q ≡ n → HaveLength n (set lists f q)
HaveLength-set n lists f q all l g p e =
    elim (slice_get-set_of lists f q g p e) [ inl new ↦ ap length (sym new) ∙ l | inr old ↦ all g p old ]

-- ---- vectors and their elements

module _ (V : Type 0) (items : V → List ℕ) (fs : List V) (f : ℕ) (v : V) (read : v ≡ get_or fs f v) where
  pub field-at : f < length (map items fs) → slice_get (map items fs) f ≡ Some (items v)
  field-at h =
      let l = length-map fs items in
      slice_get-get_or (map items fs) f (items v) h ∙ ap Some (get_or-map items fs f v (items v) (omega arith) ∙ ap items (sym read))

  pub field-is : f < length (map items fs) → get_or (map items fs) f [] ≡ items v
  field-is h = get_or_from_slice_get (map items fs) f (items v) [] (field-at h)

-- a written field
pub field-set : (V : Type 0) (items : V → List ℕ) (fs : List V) (f : ℕ) (u : V) (ws : List ℕ) → items u ≡ ws → map items (set fs f u) ≡ set (map items fs) f ws
field-set V items fs f u ws e = map-set items fs f u ∙ ap (set (map items fs) f) e

-- a field of which one element was written
pub element-set : (fs : List (Vec ℕ Global)) (f i q : ℕ) (v : Vec ℕ Global) (ws : List ℕ) → length ws ≡ v.len → map (λ (v : Vec ℕ Global). v.items) (set fs f (with_items v (set ws i q))) ≡ set (map (λ (v : Vec ℕ Global). v.items) fs) f (set ws i q)
element-set fs f i q v ws l =
    field-set (Vec ℕ Global) (λ v. v.items) fs f (with_items v (set ws i q)) (set ws i q) (with_items_is v (set ws i q) (length-set ws i q ∙ l))
