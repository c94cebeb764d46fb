use Rattle.std.proofs.Common.{◌≡◌, [], replicate}
use Rattle.post_office.proofs.opening.empty_piles.Given as goal

abbrev pub invariant-loop : goal.invariant-loop
invariant-loop g l = l.mail.items ≡ replicate l.counter []
