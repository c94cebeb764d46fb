-- What the cells and boxes of a closed board say of its contents.
use Rattle.std.proofs.Common.{◌≡◌, ℕ, ◌+◌, ◌*◌, ◌<◌, true, false, List, ◌++◌, map, length, get_or, take, drop, sym, ◌∙◌, arith, Option, Some}
use Rattle.std.specs.Prelude.{ltb}
use Rattle.std.proofs.lemmas.Bool.{lt-ltb, le-ltb}
use Rattle.std.proofs.lemmas.List.{take-append-drop}
use mathlib.Core.Option.{some}
use lib.ListN.{get_elem?}
use Rattle.quiet_table.specs.declared.item.Item.{Item}
use Rattle.quiet_table.specs.declared.item.Item.TheVariants.{Cell, Inbox}
use Rattle.quiet_table.specs.Contents.{Contents, pool, is_cell}
use Rattle.quiet_table.specs.Words.{span}
use Rattle.quiet_table.specs.Shut.{Shut}
use Rattle.quiet_table.proofs.Openings.{rests_laid, parcels_laid}

true_false2 : true ≡ false → ⊥
true_false2 e = cc

module _ {C B : Type 0} where
  pub cell_there : (slots : List (Option (Item C B))) (k n : ℕ) → k < n → (i : Item C B) → get_elem? slots k ≡ some (Some i) → is_cell i ≡ ltb (2 * k) (2 * n) → (c : C) × (get_elem? slots k ≡ some (Some (Cell c)))
  cell_there slots k n low (Cell c) at kind = (c, at)
  cell_there slots k n low (Inbox b) at kind = absurd (true_false2 (sym (kind ∙ lt-ltb (2 * k) (2 * n) (omega arith))))

  pub box_there : (slots : List (Option (Item C B))) (k n : ℕ) (i : Item C B) → get_elem? slots (n + k) ≡ some (Some i) → is_cell i ≡ ltb (2 * (n + k)) (2 * n) → (b : B) × (get_elem? slots (n + k) ≡ some (Some (Inbox b)))
  box_there slots k n (Inbox b) at kind = (b, at)
  box_there slots k n (Cell c) at kind = absurd (true_false2 (kind ∙ le-ltb (2 * (n + k)) (2 * n) (omega arith)))

  pub row_is : (cs : List C) (bs : List B) (slots : List (Option (Item C B))) (n : ℕ) → map (λ c. Some (Cell c)) cs ≡ take n slots → map (λ b. Some (Inbox b)) bs ≡ drop n slots → map (λ c. Some (Cell c)) cs ++ map (λ b. Some (Inbox b)) bs ≡ slots
  row_is cs bs slots n e f = rw (e, f) (take-append-drop n slots)

module _ {C B R E O : Type 0} (contents : Item C B → Contents R E) (legal : List R → List E → ℕ → Type 0) (origin : List R → O) where
  pub left_legal : (n : ℕ) (from : O) (words : List ℕ) (slots : List (Option (Item C B))) (seen stopped counted : ℕ) → Shut contents legal origin n from words slots seen stopped counted → (cs : List C) (bs : List B) → map (λ c. Some (Cell c)) cs ++ map (λ b. Some (Inbox b)) bs ≡ slots → (handled verdict : ℕ) → handled ≡ span words (3 * n) n → verdict ≡ get_or words (4 * n) 0
      → (more : ℕ) × legal (map (λ c. (contents (Cell c)).rest) cs ++ map (λ b. (contents (Inbox b)).rest) bs) (pool (map (λ c. (contents (Cell c)).parcels) cs ++ map (λ b. (contents (Inbox b)).parcels) bs)) (handled + more)
      × (verdict ≡ 1 → (length (pool (map (λ c. (contents (Cell c)).parcels) cs ++ map (λ b. (contents (Inbox b)).parcels) bs)) ≡ 0) × (more ≡ 0))
  left_legal n from words slots seen stopped counted s cs bs same handled verdict h v =
      let rests = rests_laid contents cs bs in let parcels = parcels_laid contents cs bs in
      (s.more, rw (sym rests, sym parcels, same, h) s.legal_now, rw (v, sym parcels, same) s.quiet)

  pub left_origin : (n : ℕ) (from : O) (words : List ℕ) (slots : List (Option (Item C B))) (seen stopped counted : ℕ) → Shut contents legal origin n from words slots seen stopped counted → (cs : List C) (bs : List B) → map (λ c. Some (Cell c)) cs ++ map (λ b. Some (Inbox b)) bs ≡ slots
      → origin (map (λ c. (contents (Cell c)).rest) cs ++ map (λ b. (contents (Inbox b)).rest) bs) ≡ from
  left_origin n from words slots seen stopped counted s cs bs same = let rests = rests_laid contents cs bs in rw (sym rests, same) s.same_origin
