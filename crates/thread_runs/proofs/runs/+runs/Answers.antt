-- What holds of the first places and of the others holds of all.
use Rattle.std.proofs.Common.{◌+◌, sym, ap}
use Rattle.thread_runs.proofs.Parts.{all_changed, one_refused}
use Rattle.thread_runs.proofs.runs.+runs.Goals as goal

pub side_by_side-returns-clause-changed : goal.side_by_side-returns-clause-changed
side_by_side-returns-clause-changed g t c =
    let cut = c.split_at_mut-first in
    let both = c.first_and_rest in
    all_changed g.F.Fn c.args.f.now c.args.base (c.args.base + c.min-count.result) c.args.elements.now cut.result.0.now cut.result.1.now cut.ensures.value
    (ap (λ n. c.args.base + n) (sym cut.ensures.front_len)) both.new.first both.new.rest both.result both.ensures.first_changed both.ensures.rest_changed

pub side_by_side-returns-clause-refused : goal.side_by_side-returns-clause-refused
side_by_side-returns-clause-refused g t c =
    let cut = c.split_at_mut-first in
    let both = c.first_and_rest in
    one_refused g.F.Fn c.args.f.now c.args.base (c.args.base + c.min-count.result) c.args.elements.now cut.result.0.now cut.result.1.now cut.ensures.value
    (ap (λ n. c.args.base + n) (sym cut.ensures.front_len)) both.result both.ensures.refused
