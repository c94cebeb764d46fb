-- The order of wishes is that of the levels that they ask for.
use Rattle.std.specs.Prelude.{ℕ}
use Rattle.block_index.specs.declared.wish.Wish.{Wish}
use Rattle.block_index.specs.declared.wish.Wish.TheVariants.{Coarsen, Stay, Refine}

-- where a wish stands: coarser levels first
abbrev pub wish_rank : Wish → ℕ
wish_rank Coarsen = 0
wish_rank Stay = 1
wish_rank Refine = 2
