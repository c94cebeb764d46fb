use Rattle.std.proofs.Common.{ap}
use Rattle.std.specs.Prelude.{slice_get}
use Rattle.post_tests.proofs.seats.rest_of.Goals as goal

pub close_at_rest-requires-clause-own : goal.close_at_rest-requires-clause-own
close_at_rest-requires-clause-own c =
    let first = c.in_ok-post.ensures.seats 0 c.two_seats-first.result.0 (ap (λ xs. slice_get xs 0) c.two_seats-first.ensures) in
    let second = c.in_ok-post.ensures.seats 1 c.two_seats-first.result.1 (ap (λ xs. slice_get xs 1) c.two_seats-first.ensures) in
    (first.1, second.1)

pub close_at_rest-requires-clause-dealt_first : goal.close_at_rest-requires-clause-dealt_first
close_at_rest-requires-clause-dealt_first c = (c.in_ok-post.ensures.seats 0 c.two_seats-first.result.0 (ap (λ xs. slice_get xs 0) c.two_seats-first.ensures)).2

pub close_at_rest-requires-clause-dealt_second : goal.close_at_rest-requires-clause-dealt_second
close_at_rest-requires-clause-dealt_second c = (c.in_ok-post.ensures.seats 1 c.two_seats-first.result.1 (ap (λ xs. slice_get xs 1) c.two_seats-first.ensures)).2
