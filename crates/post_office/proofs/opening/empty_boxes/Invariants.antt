use Rattle.std.proofs.Common.{map, None}
use Rattle.post_office.specs.Lemmas.Dealt.{Bare}
use Rattle.post_office.proofs.opening.empty_boxes.Given as goal

abbrev pub invariant-loop-shard : goal.invariant-loop-shard
invariant-loop-shard g l = Bare {P = g.row.P.Denot} {Q = g.row.P-Problem.Denot} {C = g.row.P-Cell.Denot} l.owners.items l.shard (map (λ b. record { owners = b.owners.value.items; shard = b.shard; waits = 0; stood = None }) l.boxes.items) (map (λ b. b.envelopes) l.boxes.items)
