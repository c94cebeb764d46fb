-- What a seat keeps while it works.
use Rattle.std.specs.Prelude.{◌≡◌}
use Rattle.quiet_table.specs.declared.view.View.{View}

-- it holds the same slots, and has the same number, splits and joins
pub record StaysSeat {R E : Type 0} (v w : View R E) : Type 0 where
  pub hands : w.hands ≡ v.hands
  pub number : w.number ≡ v.number
  pub splits : w.splits ≡ v.splits
  pub joins : w.joins ≡ v.joins
