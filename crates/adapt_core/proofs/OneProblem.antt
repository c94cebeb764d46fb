-- There is one problem for a domain, a mesh and its wishes: the opening levels, and the lists of touching leaves with
-- their places, follow from them.
use Rattle.std.proofs.Common.{◌≡◌, ℕ, List, Some, map, length, sym, ap, ◌∙◌, subst, arith}
use Rattle.std.specs.Prelude.{slice_get}
use Rattle.std.proofs.lemmas.List.{length-map}
use Rattle.std.proofs.lemmas.Option.{same_Some}
use Rattle.block_index.specs.Places.{Cube, Grid}
use Rattle.block_index.specs.declared.wish.Wish.{Wish}
use Rattle.leaf_set.specs.Opening.{IsOpening}
use Rattle.leaf_set.specs.TouchingLeaves.{AreTouching}
use Rattle.leaf_set.proofs.Solutions.{same_levels}
use Rattle.adapt_core.specs.Cells.{LeafPart, LeafState, AdaptProblem}
use Rattle.adapt_core.specs.Problem.{mesh_of, wishes_of, openings_of, siblings_among, IsAdaptProblem, AdaptBegins, unopened}
use Rattle.cello_neighbours.proofs.AscendingLists.{same_ascending}
use Rattle.phase_core.specs.Lemmas.Lookups.{get-map}
use Rattle.phase_core.specs.Lemmas.ListsByPlaces.{same_list}

-- ---- what follows from the mesh

pub IsOpening-one : (grid : Grid) (mesh : List Cube) (wishes : List Wish) (ds es : List ℕ) → IsOpening grid mesh wishes ds → IsOpening grid mesh wishes es → ds ≡ es
IsOpening-one grid mesh wishes ds es p q =
    same_levels ds es (p.one_each ∙ sym q.one_each) (λ i.
    let a = p.least es q.own i in
    let b = q.least ds p.own i in
    omega arith)

pub AreTouching-one : (grid : Grid) (mesh : List Cube) (b : ℕ) (a : Cube) (js ks : List ℕ) → slice_get mesh b ≡ Some a → AreTouching grid mesh b js → AreTouching grid mesh b ks → js ≡ ks
AreTouching-one grid mesh b a js ks at p q =
    same_ascending js ks p.ascending q.ascending
    (λ j h. let leaf = p.touch j a h at in q.all j a leaf.0 at leaf.1 leaf.2)
    (λ j h. let leaf = q.touch j a h at in p.all j a leaf.0 at leaf.1 leaf.2)

-- ---- the problem

module _ (p q : AdaptProblem) (first : IsAdaptProblem p) (second : IsAdaptProblem q) (grids : p.grid ≡ q.grid) (meshes : mesh_of p ≡ mesh_of q) (wishes : wishes_of p ≡ wishes_of q) where
  openings : openings_of p ≡ openings_of q
  openings =
      IsOpening-one p.grid (mesh_of p) (wishes_of p) (openings_of p) (openings_of q) first.opening
      (subst (λ g. IsOpening g (mesh_of p) (wishes_of p) (openings_of q)) (sym grids)
      (subst (λ m. IsOpening q.grid m (wishes_of p) (openings_of q)) (sym meshes)
      (subst (λ w. IsOpening q.grid (mesh_of q) w (openings_of q)) (sym wishes) second.opening)))

  -- one field of the parts at one position
  field : {B : Type 0} (f : LeafPart → B) → map f p.parts ≡ map f q.parts → (i : ℕ) (x y : LeafPart) → slice_get p.parts i ≡ Some x → slice_get q.parts i ≡ Some y → f x ≡ f y
  field {B} f same i x y here there =
      same_Some (f x) (f y) (sym (get-map f p.parts i x here) ∙ (ap (λ (xs : List B). slice_get xs i) same ∙ get-map f q.parts i y there))

  neighbours : (i : ℕ) (x y : LeafPart) → slice_get p.parts i ≡ Some x → slice_get q.parts i ≡ Some y → x.neighbours ≡ y.neighbours
  neighbours i x y here there =
      let ours = (first.parts i x here).touching in
      let theirs = (second.parts i y there).touching in
      AreTouching-one p.grid (mesh_of p) i x.place x.neighbours y.neighbours (get-map (λ (z : LeafPart). z.place) p.parts i x here) ours
      (subst (λ g. AreTouching g (mesh_of p) i y.neighbours) (sym grids) (subst (λ m. AreTouching q.grid m i y.neighbours) (sym meshes) theirs))

  same_part : (i : ℕ) (x y : LeafPart) → slice_get p.parts i ≡ Some x → slice_get q.parts i ≡ Some y → x ≡ y
  same_part i x y here there =
      let index : x.index ≡ y.index = (first.parts i x here).index ∙ sym (second.parts i y there).index in
      let place = field (λ (z : LeafPart). z.place) meshes i x y here there in
      let wish = field (λ (z : LeafPart). z.wish) wishes i x y here there in
      let opening = field (λ (z : LeafPart). z.opening) openings i x y here there in
      let touching = neighbours i x y here there in
      let among : siblings_among (mesh_of p) x.place x.neighbours ≡ siblings_among (mesh_of q) y.place y.neighbours = λ k. siblings_among (meshes k) (place k) (touching k) in
      let siblings = (first.parts i x here).siblings ∙ (among ∙ sym (second.parts i y there).siblings) in
      λ k. record { index = index k; place = place k; wish = wish k; opening = opening k; neighbours = touching k; siblings = siblings k }

  same_parts : p.parts ≡ q.parts
  same_parts =
      let place : LeafPart → Cube = λ x. x.place in
      same_list p.parts q.parts (sym (length-map p.parts place) ∙ (ap length meshes ∙ length-map q.parts place)) same_part

  pub same_problem : p ≡ q
  same_problem = λ k. record { grid = grids k; parts = same_parts k }

-- and so are the cells with which its phase begins
pub same_cells : (p q : AdaptProblem) (cells others : List LeafState) → AdaptBegins p cells → AdaptBegins q others → p ≡ q → cells ≡ others
same_cells p q cells others a b same = a.begun ∙ (ap (λ (x : AdaptProblem). map unopened x.parts) same ∙ sym b.begun)
