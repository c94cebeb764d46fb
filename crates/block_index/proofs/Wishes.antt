-- Wishes are told apart by their ranks.
use Rattle.std.proofs.Common.{◌≡◌, refl, arith}
use Rattle.block_index.specs.Wishes.{wish_rank}
use Rattle.block_index.specs.declared.wish.Wish.{Wish}
use Rattle.block_index.specs.declared.wish.Wish.TheVariants.{Coarsen, Stay, Refine}

pub same_from_wish_rank : (a b : Wish) → wish_rank a ≡ wish_rank b → a ≡ b
same_from_wish_rank Coarsen Coarsen e = refl
same_from_wish_rank Coarsen Stay e = absurd (omega arith)
same_from_wish_rank Coarsen Refine e = absurd (omega arith)
same_from_wish_rank Stay Coarsen e = absurd (omega arith)
same_from_wish_rank Stay Stay e = refl
same_from_wish_rank Stay Refine e = absurd (omega arith)
same_from_wish_rank Refine Coarsen e = absurd (omega arith)
same_from_wish_rank Refine Stay e = absurd (omega arith)
same_from_wish_rank Refine Refine e = refl
