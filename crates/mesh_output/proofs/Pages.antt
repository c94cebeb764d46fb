-- The text of a mesh, gathered in pages and written one page after another.
use Rattle.std.proofs.Common.{◌≡◌, ℕ, ◌+◌, ◌<◌, ◌≤◌, List, [], ◌∷◌, ◌++◌, length, take, drop, get_or, take_all, Option, Result, Ok, Err, refl, ap, sym, subst, ◌∙◌, append_assoc, append-nil, take-append-drop}
use Rattle.std.specs.Prelude.{IsErrAnd, codes, decimal}
use Rattle.std.specs.List.{flat_map}
use Rattle.std.specs.Io.KnownBytes.{append_known}
use Rattle.std.proofs.lemmas.List.{take_more}
use Rattle.std.proofs.lemmas.List.Concat.{flat_map-append}
use Rattle.cello_io.specs.Writes.{GrewByPart, Wrote}
use Rattle.cello_io.proofs.WriteLemmas.{append_known-nil, grew_less, grew_then, written_then, wrote_then}
use Rattle.block_index.specs.Places.{Cube}
use Rattle.text_line.specs.Shown.{shown_place}
use Rattle.mesh_output.specs.Lines.{count_line, leaf_line, mesh_text}
use Rattle.mesh_output.specs.Pages.{Holds}

-- a result that is an error comes where a part was written
pub Wrote-from_err : {T E : Type 0} (Q : E → Type 0) (old new : Option (List ℕ)) (bytes : List ℕ) (r : Result T E) → IsErrAnd r Q → GrewByPart old new bytes → Wrote old new r bytes
Wrote-from_err Q old new bytes (Ok x) is some = absurd is
Wrote-from_err Q old new bytes (Err e) is some = some

-- ---- what a page holds

pub Holds-all : (known : Option (List ℕ)) (bytes : List ℕ) → Holds known known bytes bytes
Holds-all known bytes = record { part = []; full = refl; grew = sym (append_known-nil known) }

pub Holds-none : (old new : Option (List ℕ)) (bytes page : List ℕ) → new ≡ append_known old bytes → page ≡ [] → Holds old new bytes page
Holds-none old new bytes page grew none = record { part = bytes; full = ap (λ l. bytes ++ l) none ∙ append-nil bytes; grew = grew }

-- a part of the page was written too, and then the page got more bytes
pub Holds-next : (old mid new : Option (List ℕ)) (bytes page left more : List ℕ) → Holds old mid bytes page → Holds mid new page left
    → Holds old new (bytes ++ more) (left ++ more)
Holds-next old mid new bytes page left more h k = record {
  part = h.part ++ k.part;
  full = sym (append_assoc (h.part ++ k.part) left more) ∙ ap (λ (l : List ℕ). l ++ more) (append_assoc h.part k.part left ∙ ap (λ (l : List ℕ). h.part ++ l) k.full ∙ h.full);
  grew = written_then old mid new h.part k.part h.grew k.grew;
}

pub Holds-grew : (old mid new : Option (List ℕ)) (bytes page : List ℕ) → Holds old mid bytes page → GrewByPart mid new page → GrewByPart old new bytes
Holds-grew old mid new bytes page h some = subst (GrewByPart old new) h.full (grew_then old mid new h.part page h.grew some)

pub Holds-wrote : {T E : Type 0} (old mid new : Option (List ℕ)) (bytes page : List ℕ) (r : Result T E) → Holds old mid bytes page → Wrote mid new r page → Wrote old new r bytes
Holds-wrote old mid new bytes page r h wrote = subst (Wrote old new r) h.full (wrote_then old mid new h.part page r h.grew wrote)

-- ---- the front of a mesh's text

abbrev pub mesh_front : List Cube → ℕ → List ℕ
mesh_front mesh i = count_line (length mesh) ++ flat_map leaf_line (take i mesh)

-- the line of the count
pub mesh_front-begins : (mesh : List Cube) (n : ℕ) (l0 l1 page : List ℕ) → n ≡ length mesh → l0 ≡ codes "mesh " → l1 ≡ l0 ++ decimal n → page ≡ l1 ++ codes "\n" → page ≡ mesh_front mesh 0
unfolding count_line
mesh_front-begins mesh n l0 l1 page is e0 e1 e = cc (is, e0, e1, e, append-nil (count_line (length mesh)))

-- a leaf's line
pub leaf_line-pieces : (c : Cube) (page l0 l1 : List ℕ) → l0 ≡ page ++ shown_place c → l1 ≡ l0 ++ codes "\n" → l1 ≡ page ++ leaf_line c
unfolding leaf_line
leaf_line-pieces c page l0 l1 e0 e1 = e1 ∙ ap (λ l. l ++ codes "\n") e0 ∙ append_assoc page (shown_place c) (codes "\n")

-- one leaf more
pub mesh_front-next : (mesh : List Cube) (i : ℕ) (c : Cube) → i < length mesh → c ≡ get_or mesh i c → mesh_front mesh (i + 1) ≡ mesh_front mesh i ++ leaf_line c
mesh_front-next mesh i c below is =
    let more = take_more mesh i c below in
    let leaves = flat_map-append leaf_line (take i mesh) (c ∷ []) in
    cc (is, more, leaves, append-nil (leaf_line c), append_assoc (count_line (length mesh)) (flat_map leaf_line (take i mesh)) (leaf_line c))

pub mesh_front-all : (mesh : List Cube) (i : ℕ) → length mesh ≤ i → mesh_front mesh i ≡ mesh_text mesh
unfolding mesh_text
mesh_front-all mesh i end = ap (λ l. count_line (length mesh) ++ flat_map leaf_line l) (take_all i mesh end)

-- a part of the front is a part of the whole
pub mesh_front-grew : (old new : Option (List ℕ)) (mesh : List Cube) (i : ℕ) → GrewByPart old new (mesh_front mesh i) → GrewByPart old new (mesh_text mesh)
unfolding mesh_text
mesh_front-grew old new mesh i some =
    let count = count_line (length mesh) in
    let leaves = flat_map-append leaf_line (take i mesh) (drop i mesh) in
    subst (GrewByPart old new)
    (append_assoc count _ _ ∙ ap (λ l. count ++ l) (sym leaves ∙ ap (flat_map leaf_line) (take-append-drop i mesh)))
    (grew_less old new (mesh_front mesh i) (flat_map leaf_line (drop i mesh)) some)
