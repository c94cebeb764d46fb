-- A name's bytes written over zeros.
use Rattle.std.proofs.Common.{◌≡◌, ℕ, ◌-◌, ◌≤◌, List, ◌++◌, length, drop, replicate, refl, ◌∙◌, arith, length-append, length-drop}
use Rattle.std.proofs.lemmas.List.{drop_at, drop-replicate, length-replicate}

pub padded_copy : (xs : List ℕ) (m : ℕ) → length xs ≤ m
    → (length (xs ++ drop (length xs) (replicate {A = ℕ} m 0)) ≡ m) × (drop (length xs) (xs ++ drop (length xs) (replicate {A = ℕ} m 0)) ≡ replicate {A = ℕ} (m - length xs) 0)
padded_copy xs m short =
    let zeros : List ℕ = replicate m 0 in (
      omega (arith, length-append xs (drop (length xs) zeros), length-drop (length xs) zeros, length-replicate {A = ℕ} m 0),
      drop_at xs (drop (length xs) zeros) (length xs) refl ∙ drop-replicate (length xs) m 0,
    )
