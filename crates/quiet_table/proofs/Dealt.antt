-- The views of the seats of a new board.
use Rattle.std.proofs.Common.{◌≡◌, ◌≢◌, ◌≤◌, ◌+◌, ◌-◌, ℕ, zero, suc, arith, ap, ◌∙◌, refl, []}
use Rattle.quiet_table.specs.declared.view.View.{View}
use Rattle.quiet_table.specs.Views.{dealt_view, first_view, split_left, split_right}

module _ {R E : Type 0} where
  -- a split of seat 0 gives it the view for one seat more
  pub split_left-dealt : (n : ℕ) (v w : View R E) → 1 ≤ n → v ≡ dealt_view n 0 → w ≡ split_left v → w ≡ dealt_view (n + 1) 0
  split_left-dealt n v w some was is =
      let same : (n - 1) + 1 ≡ (n + 1) - 1 = omega arith in
      is ∙ (ap split_left was ∙ ap (λ (z : ℕ). record (first_view {R = R} {E = E}) { splits = z }) same)

  pub split_right-dealt : (n : ℕ) (v w : View R E) → 1 ≤ n → v ≡ dealt_view n 0 → w ≡ split_right v → w ≡ record (first_view {R = R} {E = E}) { number = n }
  split_right-dealt n v w some was is =
      let same : (n - 1) + 1 ≡ n = omega arith in
      is ∙ (ap split_right was ∙ ap (λ (z : ℕ). record (first_view {R = R} {E = E}) { number = z }) same)

  pub all_dealt : (n i : ℕ) (v : View R E) → (i ≡ 0 → v ≡ dealt_view n 0) → (i ≢ 0 → v ≡ record (first_view {R = R} {E = E}) { number = i }) → v ≡ dealt_view n i
  all_dealt n zero v first later = first refl
  all_dealt n (suc i) v first later = later (λ e. absurd (omega arith))

  pub dealt_bare : (n i : ℕ) → (dealt_view {R = R} {E = E} n i).hands ≡ []
  dealt_bare n zero = refl
  dealt_bare n (suc i) = refl
