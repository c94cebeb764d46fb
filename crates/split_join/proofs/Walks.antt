-- How far the walk along the old blocks and the new places has come.
use Rattle.std.proofs.Common.{◌≡◌, ℕ, zero, suc, ◌+◌, ◌<◌, List, [], ◌∷◌, ◌++◌, Some, length, drop, map, slice_get, slice_index, refl, sym, ap, ◌∙◌, subst, arith, append_assoc, append-nil, length-append, length-drop, inl, inr}
use Rattle.std.specs.List.{range_with_len}
use Rattle.std.proofs.lemmas.Bool.{cases_eq, cases_lt}
use Rattle.std.proofs.lemmas.List.{length-map, map-append}
use Rattle.std.proofs.lemmas.Option.{same_Some, slice_get_within, none-some}
use Rattle.block_index.specs.Places.{Cube, Grid, IsDomain, child_of, parent_of}
use Rattle.block_index.specs.declared.wish.Wish.{Wish}
use Rattle.leaf_set.specs.Meshes.{IsMesh}
use Rattle.leaf_set.specs.LevelRules.{IsSolution}
use Rattle.leaf_set.specs.NextMesh.{next_mesh}
use Rattle.block_fields.specs.Blocks.{BlockState}
use Rattle.block_fields.specs.BlockStates.{AreBlocksOf, IsBlockOf}
use Rattle.block_fields.proofs.FilledStates.{at-map, map-at}
use Rattle.split_join.specs.Lemmas.NewBlocks.{IsFamily, child_block, children_blocks, joined_block}
use Rattle.split_join.specs.Lemmas.Steps.{Steps}
use Rattle.split_join.proofs.Lists.{nothing_left, element_there, slice_get-drop, drop_past, slice_get-before, slice_get-middle, slice_get-either, range-below}
use Rattle.split_join.proofs.FamilyRuns.{Aligned, Aligned-first, family_run}
use Rattle.split_join.proofs.NextPlaces.{Front, front_rises, front_stays, front_falls, front}

-- A block of the next mesh is an old one, or a child of one, or the parent of eight.
pub data ComesFrom (mesh : List Cube) (blocks : List BlockState) (b : BlockState) : Type 0 where
  kept : (i : ℕ) → slice_get blocks i ≡ Some b → ComesFrom mesh blocks b
  split : (i k : ℕ) (a : BlockState) → slice_get blocks i ≡ Some a → k < 8 → b ≡ child_block a k → ComesFrom mesh blocks b
  joined : (p : Cube) (family : List BlockState) → length family ≡ 8 → ((k : ℕ) (x : BlockState) → slice_get family k ≡ Some x → (x.place ≡ child_of p k) × ((i : ℕ) × (slice_get blocks i ≡ Some x))) → ((n fields depth : ℕ) → AreBlocksOf mesh n fields depth blocks → b ≡ joined_block n fields depth p family) → ComesFrom mesh blocks b

-- The new blocks so far stand on the first new places, the family is what waits to be joined, and the rest comes yet.
pub record Walk (mesh : List Cube) (levels : List ℕ) (blocks : List BlockState) (new : List Cube) (family next rest : List BlockState) : Type 0 where
  pub at : ℕ
  pub left : family ++ rest ≡ drop at blocks
  pub news : map (λ b. b.place) next ++ next_mesh (drop at mesh) (drop at levels) ≡ new
  pub origins : (j : ℕ) (b : BlockState) → slice_get next j ≡ Some b → ComesFrom mesh blocks b
  pub aligned : Aligned mesh levels at
  pub few : length family < 8
  pub waits : 0 < length family → (a : Cube) → slice_get mesh at ≡ Some a → slice_index levels at < a.level

-- the same block of two sizes
same_size : (n fields depth e f d : ℕ) (p : Cube) (family : List BlockState) (b : BlockState) → IsBlockOf n fields depth b → IsBlockOf e f d b → joined_block n fields depth p family ≡ joined_block e f d p family
same_size n fields depth e f d p family b v w =
    ap (λ n. joined_block n fields depth p family) (sym v.same_edge ∙ w.same_edge)
    ∙ ap (λ x. joined_block e x depth p family) (sym v.same_fields ∙ w.same_fields)
    ∙ ap (λ x. joined_block e f x p family) (sym v.same_depth ∙ w.same_depth)

module _ (grid : Grid) (mesh : List Cube) (g : IsDomain grid) (m : IsMesh grid mesh) (wishes : List Wish) (levels : List ℕ) (s : IsSolution grid mesh wishes levels) (blocks : List BlockState) (new : List Cube) where
  pub Walk-begin : new ≡ next_mesh mesh levels → Walk mesh levels blocks new [] [] blocks
  Walk-begin e = record {
    at = 0;
    left = refl;
    news = sym e;
    origins = λ j b h. absurd (none-some b h);
    aligned = Aligned-first grid mesh g m wishes levels s;
    few = omega arith;
    waits = λ h. absurd (omega arith);
  }

  module _ (places : map (λ b. b.place) blocks ≡ mesh) where
    leaf_of : (i : ℕ) (b : BlockState) → slice_get blocks i ≡ Some b → slice_get mesh i ≡ Some b.place
    leaf_of i b e = ap (λ (l : List Cube). slice_get l i) (sym places) ∙ at-map (λ (b : BlockState). b.place) blocks i b e

    block_of_leaf : (i : ℕ) (a : Cube) → slice_get mesh i ≡ Some a → (b : BlockState) × (slice_get blocks i ≡ Some b) × (a ≡ b.place)
    block_of_leaf i a e = map-at (λ (b : BlockState). b.place) blocks i a (ap (λ (l : List Cube). slice_get l i) places ∙ e)

    module _ (family next rest : List BlockState) (b : BlockState) (w : Walk mesh levels blocks new family next (b ∷ rest)) where
      own_at : slice_get blocks (w.at + length family) ≡ Some b
      own_at =
          sym (slice_get-drop blocks w.at (length family))
          ∙ ap (λ (l : List BlockState). slice_get l (length family)) (sym w.left)
          ∙ slice_get-middle family rest b

      -- each block that waits, and b after them, stands among the old ones
      pub waiting_at : (k : ℕ) (x : BlockState) → slice_get (family ++ b ∷ []) k ≡ Some x → slice_get blocks (w.at + k) ≡ Some x
      waiting_at k x e =
          sym (slice_get-drop blocks w.at k)
          ∙ ap (λ (l : List BlockState). slice_get l k) (sym w.left ∙ sym (append_assoc family (b ∷ []) rest))
          ∙ slice_get-before (family ++ b ∷ []) rest k x e

      first_leaf : (a : Cube) × (slice_get mesh w.at ≡ Some a)
      first_leaf =
          let h = slice_get_within mesh (w.at + length family) b.place (leaf_of (w.at + length family) b own_at) in
          element_there mesh w.at (omega arith)

      found : (p : Cube) × Front mesh levels w.at (length family) b.place p
      found =
          front grid mesh g m wishes levels s w.at (length family) b.place w.aligned w.few (leaf_of (w.at + length family) b own_at) w.waits first_leaf.0 first_leaf.1

      head_place : (p : Cube) (xs : List Cube) → next_mesh (drop w.at mesh) (drop w.at levels) ≡ p ∷ xs → slice_get new (length next) ≡ Some p
      head_place p xs e =
          let before = map (λ (b : BlockState). b.place) next in
          ap (λ (l : List Cube). slice_get l (length next)) (sym w.news ∙ ap (λ l. before ++ l) e)
          ∙ ap (slice_get (before ++ (p ∷ xs))) (sym (length-map next (λ (b : BlockState). b.place)))
          ∙ slice_get-middle before xs p

      place_of_front : (p : Cube) → Front mesh levels w.at (length family) b.place p → slice_get new (length next) ≡ Some p
      place_of_front p (front_rises none room e eq al) =
          subst (λ p. slice_get new (length next) ≡ Some p) (sym e) (head_place (child_of b.place 0) _ eq)
      place_of_front p (front_stays none e eq al) =
          subst (λ p. slice_get new (length next) ≡ Some p) (sym e) (head_place b.place _ eq)
      place_of_front p (front_falls fall run e eq al) = head_place p _ eq

      pub next_within : length next < length new
      next_within = slice_get_within new (length next) found.0 (place_of_front found.0 found.1)

      module _ (q : Cube) (at_q : slice_get new (length next) ≡ Some q) where
        facing : Front mesh levels w.at (length family) b.place q
        facing = subst (Front mesh levels w.at (length family) b.place) (same_Some found.0 q (sym (place_of_front found.0 found.1) ∙ at_q)) found.1

        -- where b completes its family
        pub IsFamily-waiting : q.level < b.place.level → length family ≡ 7 → (n fields depth : ℕ) → AreBlocksOf mesh n fields depth blocks → IsFamily q n fields depth (family ++ b ∷ [])
        IsFamily-waiting h seven n fields depth each = from facing
          where
            from : Front mesh levels w.at (length family) b.place q → IsFamily q n fields depth (family ++ b ∷ [])
            from (front_rises none room e eq al) = absurd (omega arith)
            from (front_stays none e eq al) = absurd (omega arith)
            from (front_falls fall run e eq al) = record {
              eight = (let l = length-append family (b ∷ []) in omega arith);
              places = λ k x t.
                  let within = slice_get_within (family ++ b ∷ []) k x t in
                  let l = length-append family (b ∷ []) in
                  same_Some x.place (child_of q k) (sym (leaf_of (w.at + k) x (waiting_at k x t)) ∙ run k (omega arith));
              sizes = λ k x t. each.each (w.at + k) x (waiting_at k x t);
            }

        -- ---- one turn

        module _ (family2 next2 : List BlockState) (st : Steps q b family next family2 next2) (n fields depth : ℕ) (each : AreBlocksOf mesh n fields depth blocks) where
          left_alone : length family ≡ 0 → rest ≡ drop (w.at + 1) blocks
          left_alone none =
              sym (drop_past blocks w.at (b ∷ []) rest (ap (λ f. f ++ (b ∷ rest)) (sym (nothing_left family none)) ∙ w.left))

          -- what the new places are with more blocks
          news_with : (more : List BlockState) (xs : List Cube) → next_mesh (drop w.at mesh) (drop w.at levels) ≡ map (λ b. b.place) more ++ xs → map (λ b. b.place) (next ++ more) ++ xs ≡ new
          news_with more xs e =
              let place : BlockState → Cube = λ b. b.place in
              ap (λ l. l ++ xs) (map-append place next more)
              ∙ append_assoc (map place next) (map place more) xs
              ∙ ap (λ l. map place next ++ l) (sym e)
              ∙ w.news

          origins_with : (more : List BlockState) → ((j : ℕ) (x : BlockState) → slice_get more j ≡ Some x → ComesFrom mesh blocks x) → (j : ℕ) (x : BlockState) → slice_get (next ++ more) j ≡ Some x → ComesFrom mesh blocks x
          origins_with more new_ones j x e =
              elim (slice_get-either next more j x e) [ inl o ↦ w.origins o.0 x o.1 | inr o ↦ new_ones o.0 x o.1 ]

          of_one : (y : BlockState) → ComesFrom mesh blocks y → (j : ℕ) (x : BlockState) → slice_get (y ∷ []) j ≡ Some x → ComesFrom mesh blocks x
          of_one y o zero x e = subst (ComesFrom mesh blocks) (same_Some y x e) o
          of_one y o (suc j) x e = absurd (none-some x e)

          of_children : (j : ℕ) (x : BlockState) → slice_get (children_blocks b) j ≡ Some x → ComesFrom mesh blocks x
          of_children j x e =
              let o = map-at (child_block b) (range_with_len 0 8) j x e in
              split (w.at + length family) o.0 b own_at (range-below 8 j o.0 o.1) o.2

          -- the walk with no family waiting, one or eight old blocks further
          further : (i : ℕ) (more : List BlockState) (xs : List Cube) → rest ≡ drop i blocks → xs ≡ next_mesh (drop i mesh) (drop i levels) → next_mesh (drop w.at mesh) (drop w.at levels) ≡ map (λ b. b.place) more ++ xs → ((j : ℕ) (x : BlockState) → slice_get more j ≡ Some x → ComesFrom mesh blocks x) → Aligned mesh levels i → Walk mesh levels blocks new [] (next ++ more) rest
          further i more xs l x e o al = record {
            at = i;
            left = l;
            news = ap (λ xs. map (λ (b : BlockState). b.place) (next ++ more) ++ xs) (sym x) ∙ news_with more xs e;
            origins = origins_with more o;
            aligned = al;
            few = omega arith;
            waits = λ h. absurd (omega arith);
          }

          turned : (more : List BlockState) → Walk mesh levels blocks new [] (next ++ more) rest → family2 ≡ [] → next2 ≡ next ++ more → Walk mesh levels blocks new family2 next2 rest
          turned more v f x =
              subst (λ f. Walk mesh levels blocks new f next2 rest) (sym f) (subst (λ x. Walk mesh levels blocks new [] x rest) (sym x) v)

          pub Walk-turn : Walk mesh levels blocks new family2 next2 rest
          Walk-turn = from facing
            where
              from : Front mesh levels w.at (length family) b.place q → Walk mesh levels blocks new family2 next2 rest
              from (front_rises none room e eq al) =
                  let up : b.place.level < q.level = let l = ap (λ (c : Cube). c.level) e in omega arith in
                  turned (children_blocks b) (further (w.at + 1) (children_blocks b) _ (left_alone none) refl eq of_children al)
                  (st.split_family up ∙ nothing_left family none) (st.split_next up)
              from (front_stays none e eq al) =
                  let same : q.level ≡ b.place.level = ap (λ (c : Cube). c.level) e in
                  turned (b ∷ []) (further (w.at + 1) (b ∷ []) _ (left_alone none) refl eq (of_one b (kept (w.at + length family) own_at)) al)
                  (st.kept_family same ∙ nothing_left family none) (st.kept_next same)
              from (front_falls fall run e eq al) =
                  let down : q.level < b.place.level = let l = ap (λ (c : Cube). c.level) e in omega arith in
                  let gathers = st.gathers down in
                  let h = w.few in
                  elim (cases_lt (length family) 7) [
                    | inl few ↦
                        let v : Walk mesh levels blocks new (family ++ b ∷ []) next rest = record {
                          at = w.at;
                          left = append_assoc family (b ∷ []) rest ∙ w.left;
                          news = w.news;
                          origins = w.origins;
                          aligned = w.aligned;
                          few = (let l = length-append family (b ∷ []) in omega arith);
                          waits = λ _. fall;
                        } in
                        subst (λ f. Walk mesh levels blocks new f next2 rest) (sym (gathers.waits_family few)) (subst (λ x. Walk mesh levels blocks new (family ++ b ∷ []) x rest) (sym (gathers.waits_next few)) v)
                    | inr full ↦
                        let seven : length family ≡ 7 = omega arith in
                        let all = IsFamily-waiting down seven n fields depth each in
                        let parent = joined_block n fields depth q (family ++ b ∷ []) in
                        let l = length-append family (b ∷ []) in
                        let gone : rest ≡ drop (w.at + 8) blocks =
                        sym (drop_past blocks w.at (family ++ b ∷ []) rest (append_assoc family (b ∷ []) rest ∙ w.left))
                        ∙ ap (λ i. drop i blocks) (let t : w.at + length (family ++ b ∷ []) ≡ w.at + 8 = omega arith in t) in
                        let origin : ComesFrom mesh blocks parent =
                        joined q (family ++ b ∷ []) all.eight (λ k x t. (all.places k x t, (w.at + k, waiting_at k x t))) (λ e f d o. same_size n fields depth e f d q (family ++ b ∷ []) b (each.each (w.at + length family) b own_at) (o.each (w.at + length family) b own_at)) in
                        turned (parent ∷ []) (further (w.at + 8) (parent ∷ []) _ gone refl eq (of_one parent origin) al)
                        (gathers.joins_family seven) (gathers.joins_next n fields depth seven all)
                  ]

    -- ---- the end

    module _ (family next : List BlockState) (w : Walk mesh levels blocks new family next []) where
      all_left : drop w.at blocks ≡ family
      all_left = sym w.left ∙ append-nil family

      still_there : (k : ℕ) (x : BlockState) → slice_get blocks (w.at + k) ≡ Some x → slice_get family k ≡ Some x
      still_there k x e = ap (λ (l : List BlockState). slice_get l k) (sym all_left) ∙ slice_get-drop blocks w.at k ∙ e

      -- a family that waits would have eight members
      whole_family : (b : BlockState) → slice_get family 0 ≡ Some b → 7 < length family
      whole_family b e =
          let here : slice_get blocks (w.at + 0) ≡ Some b = sym (slice_get-drop blocks w.at 0) ∙ ap (λ (l : List BlockState). slice_get l 0) all_left ∙ e in
          let at : slice_get mesh w.at ≡ Some b.place = leaf_of w.at b (subst (λ i. slice_get blocks i ≡ Some b) (let e : w.at + 0 ≡ w.at = omega arith in e) here) in
          let some = slice_get_within family 0 b e in
          let fall = w.waits some b.place at in
          let run = family_run grid mesh g m wishes levels s w.at b.place at fall (w.aligned b.place at fall) 7 (omega arith) in
          last (block_of_leaf (w.at + 7) (child_of (parent_of b.place) 7) run.0)
        where
          last : {a : Cube} → ((x : BlockState) × (slice_get blocks (w.at + 7) ≡ Some x) × (a ≡ x.place)) → 7 < length family
          last o = slice_get_within family 7 o.0 (still_there 7 o.0 o.1)

      no_family : length family ≡ 0
      no_family =
          elim (cases_eq (length family) 0) [
            | inl e ↦ e
            | inr n ↦
                let b = element_there family 0 (omega arith) in
                let few = w.few in
                absurd (omega (arith, whole_family b.0 b.1))
          ]

      pub places_of_next : map (λ b. b.place) next ≡ new
      places_of_next =
          let none : drop w.at blocks ≡ [] = sym w.left ∙ append-nil family ∙ nothing_left family no_family in
          let gone = ap length none in
          let d = length-drop w.at blocks in
          let l = ap length places in
          let k = length-map blocks (λ (b : BlockState). b.place) in
          let e = length-drop w.at mesh in
          let mesh_gone : drop w.at mesh ≡ [] = nothing_left (drop w.at mesh) (omega arith) in
          sym (append-nil (map (λ (b : BlockState). b.place) next))
          ∙ ap (λ m. map (λ (b : BlockState). b.place) next ++ next_mesh m (drop w.at levels)) (sym mesh_gone)
          ∙ w.news
