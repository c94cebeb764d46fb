use Rattle.std.proofs.Common.{◌≡◌, ℕ, ◌-◌, ◌*◌, ◌^◌, ◌≤◌, true, false, List, length, slice_index, ap, sym, ◌∙◌, subst, arith}
use Rattle.advect.specs.Lemmas.Lines.{axis_named}
use Rattle.advect.specs.Lemmas.Passes.{passed}
use Rattle.advect.specs.Lemmas.Streams.{field_of}
use Rattle.advect.proofs.Beside.{entry-small, faces-count, ghosts-high, ghosts-low, high-small, low-small}
use Rattle.advect.proofs.Moves.{downwards, upwards}
use Rattle.advect.proofs.step.move_along.Goals as goal

pub enter-requires-clause-ghosts : goal.enter-requires-clause-ghosts
enter-requires-clause-ghosts c =
    c.ghosts_toward-beside.ensures.size
    ∙ ghosts-low c.args.n c.args.depth (axis_named c.args.line) c.low_direction.result c.runs-runs.result c.wide-wide.result c.low_direction.ensures.direction c.runs-runs.ensures.runs c.wide-wide.ensures.wide

pub enter-requires-else-stream-clause-ghosts : goal.enter-requires-else-stream-clause-ghosts
enter-requires-else-stream-clause-ghosts c =
    c.ghosts_toward-beside-else-stream.ensures.size
    ∙ ghosts-high c.args.n c.args.depth (axis_named c.args.line) c.high_direction.result c.runs-runs.result c.wide-wide.result c.high_direction.ensures.direction c.runs-runs.ensures.runs c.wide-wide.ensures.wide

pub enter-requires-clause-small : goal.enter-requires-clause-small
enter-requires-clause-small c =
    low-small c.args.n c.args.depth c.args.amounts.now c.args.ghosts.now (axis_named c.args.line) c.low_direction.result c.ghosts_toward-beside.result.now c.runs-runs.result c.wide-wide.result (omega arith)
    c.ghosts_toward-beside.ensures.ghosts c.runs-runs.ensures.runs c.wide-wide.ensures.wide c.low_direction.ensures.direction c.requires.below

pub enter-requires-else-stream-clause-small : goal.enter-requires-else-stream-clause-small
enter-requires-else-stream-clause-small c =
    high-small c.args.n c.args.depth c.args.amounts.now c.args.ghosts.now (axis_named c.args.line) c.high_direction.result c.ghosts_toward-beside-else-stream.result.now c.runs-runs.result c.wide-wide.result (omega arith)
    c.ghosts_toward-beside-else-stream.ensures.ghosts c.runs-runs.ensures.runs c.wide-wide.ensures.wide c.high_direction.ensures.direction c.requires.above

pub pass_over-requires-clause-entry : goal.pass_over-requires-clause-entry
pass_over-requires-clause-entry c =
    let beside = c.ghosts_toward-beside.result.now in
    let small = low-small c.args.n c.args.depth c.args.amounts.now c.args.ghosts.now (axis_named c.args.line) c.low_direction.result beside c.runs-runs.result c.wide-wide.result (omega arith)
    c.ghosts_toward-beside.ensures.ghosts c.runs-runs.ensures.runs c.wide-wide.ensures.wide c.low_direction.ensures.direction c.requires.below in
    let long : length c.enter.new.faces ≡ c.runs-runs.result * c.wide-wide.result = c.enter.auto.faces ∙ c.requires.low ∙ faces-count c.args.n (axis_named c.args.line) c.runs-runs.result c.wide-wide.result c.runs-runs.ensures.runs c.wide-wide.ensures.wide in
    subst (λ (l : List ℕ). (k : ℕ) → slice_index l k ≤ 2 ^ 42) (sym c.copy_from_slice.ensures.after)
    (entry-small c.args.stream.share c.args.stream.low_barred beside c.enter.new.faces c.runs-runs.result c.args.depth (c.args.depth - 1) c.wide-wide.result c.wide-wide.ensures.some long c.enter.ensures.entry small)

pub pass_over-requires-else-stream-clause-entry : goal.pass_over-requires-else-stream-clause-entry
pass_over-requires-else-stream-clause-entry c =
    let beside = c.ghosts_toward-beside-else-stream.result.now in
    let small = high-small c.args.n c.args.depth c.args.amounts.now c.args.ghosts.now (axis_named c.args.line) c.high_direction.result beside c.runs-runs.result c.wide-wide.result (omega arith)
    c.ghosts_toward-beside-else-stream.ensures.ghosts c.runs-runs.ensures.runs c.wide-wide.ensures.wide c.high_direction.ensures.direction c.requires.above in
    let long : length c.enter-else-stream.new.faces ≡ c.runs-runs.result * c.wide-wide.result = c.enter-else-stream.auto.faces ∙ c.requires.high ∙ faces-count c.args.n (axis_named c.args.line) c.runs-runs.result c.wide-wide.result c.runs-runs.ensures.runs c.wide-wide.ensures.wide in
    subst (λ (l : List ℕ). (k : ℕ) → slice_index l k ≤ 2 ^ 42) (sym c.copy_from_slice-else-stream.ensures.after)
    (entry-small c.args.stream.share c.args.stream.high_barred beside c.enter-else-stream.new.faces c.runs-runs.result c.args.depth 0 c.wide-wide.result c.wide-wide.ensures.some long c.enter-else-stream.ensures.entry small)

pub returns-then-stream : goal.returns-then-stream
returns-then-stream c =
    let s = c.args.stream in
    let am = c.args.amounts.now in
    let entry = c.enter.new.faces in
    let same = c.copy_from_slice.ensures.after in
    let all = upwards s c.args.first (field_of c.args.n c.args.depth am c.args.ghosts.now) (axis_named c.args.line) c.args.next.now c.pass_over.new.next entry c.pass_over.new.faces (omega arith)
    c.runs-runs.result c.wide-wide.result c.low_direction.result c.ghosts_toward-beside.result.now c.runs-runs.ensures.runs c.wide-wide.ensures.wide c.ghosts_toward-beside.ensures.ghosts
    c.if-stream.true c.low_direction.ensures.direction
    record {
      came = c.enter.ensures.entry;
      moved = λ r v i hr hv hi. c.pass_over.ensures.moved r v i hr hv hi
          ∙ ap (λ (f : List ℕ). passed (record { up = true; first = c.args.first; closed = s.high_barred; share = s.share }) c.args.n c.wide-wide.result r am c.args.next.now f v i) same;
      left = c.pass_over.ensures.leaves;
    } in
    record { moved = all.moved; low = all.low; high = all.high }

pub returns-else-stream : goal.returns-else-stream
returns-else-stream c =
    let s = c.args.stream in
    let am = c.args.amounts.now in
    let entry = c.enter-else-stream.new.faces in
    let same = c.copy_from_slice-else-stream.ensures.after in
    let all = downwards s c.args.first (field_of c.args.n c.args.depth am c.args.ghosts.now) (axis_named c.args.line) c.args.next.now c.pass_over-else-stream.new.next entry c.pass_over-else-stream.new.faces (omega arith)
    c.runs-runs.result c.wide-wide.result c.high_direction.result c.ghosts_toward-beside-else-stream.result.now c.runs-runs.ensures.runs c.wide-wide.ensures.wide c.ghosts_toward-beside-else-stream.ensures.ghosts
    c.if-stream.false c.high_direction.ensures.direction
    record {
      came = c.enter-else-stream.ensures.entry;
      moved = λ r v i hr hv hi. c.pass_over-else-stream.ensures.moved r v i hr hv hi
          ∙ ap (λ (f : List ℕ). passed (record { up = false; first = c.args.first; closed = s.low_barred; share = s.share }) c.args.n c.wide-wide.result r am c.args.next.now f v i) same;
      left = c.pass_over-else-stream.ensures.leaves;
    } in
    record { moved = all.moved; low = all.low; high = all.high }
