use Rattle.std.proofs.Common.{◌<◌, ◌-◌, ℕ, length, map, get_or, refl, ap, ◌∙◌, arith}
use Rattle.post_office.specs.Lemmas.PartLaws.{length_put}
use Rattle.post_office.proofs.Lists.{get_at}
use Rattle.post_office.proofs.DealtOut.{map_length}
use Rattle.post_office.proofs.PutBack.{left_begins, next_there, left_more, put_back}
use Rattle.post_office.proofs.gathering.gather.Goals as goal

pub loop-taken-init : goal.loop-taken-init
loop-taken-init g c =
    let rows = map (λ p. p.cells.items) c.args.posts.items in
    record {
      shards = refl;
      count = (let n = ap length c.requires.room.0 in omega (arith, n, c.args.room.ok.0));
      room = c.requires.room.1;
      left = λ cells owned there. left_begins c.args.owners.now cells rows c.args.room.items owned there c.requires.room.0;
    }

pub take_last-cell-requires : goal.take_last-cell-requires
take_last-cell-requires g c =
    let owners = c.args.owners.now in
    let taken = c.loop-taken.taken in
    let inv = c.loop-taken.invariant in
    let rows = map (λ p. p.cells.items) c.loop-taken.posts.items in
    let i : ℕ = length owners - 1 - taken in
    let more = c.loop-taken-test.true in
    let low : i < length owners = omega (arith, more) in
    let wide = map_length (λ p. p.cells.items) c.loop-taken.posts.items in
    let all = c.requires.rows in
    record { some_cell = next_there owners all.0 rows taken c.loop-taken.cells.items (get_or owners i 0) i (inv.left all.0 all.1 all.2) (omega (arith, more)) (get_at owners i 0 low) (let w = c.requires.within i 0 low in let s = inv.shards in omega (arith, w, s, wide)) }

pub loop-taken-preserved : goal.loop-taken-preserved
loop-taken-preserved g c =
    let owners = c.args.owners.now in
    let taken = c.loop-taken.taken in
    let inv = c.loop-taken.invariant in
    let before = c.loop-taken.posts.items in
    let after = c.take_last-cell.new.posts.items in
    let rows = map (λ p. p.cells.items) before in
    let rows' = map (λ p. p.cells.items) after in
    let i : ℕ = length owners - 1 - taken in
    let more = c.loop-taken-test.true in
    let low : i < length owners = omega (arith, more) in
    let t = c.take_last-cell.ensures in
    let pushed = c.push_reserved.ensures in
    record {
      shards = (let a = map_length (λ p. p.cells.items) before in let b = map_length (λ p. p.cells.items) after in let n = ap length t.2 ∙ length_put rows (get_or owners i 0) t.0 in let s = inv.shards in omega (arith, a, b, n, s));
      count = (let n = pushed.len in let m = inv.count in omega (arith, n, m));
      room = (let n = pushed.capacity in let m = inv.room in omega (arith, n, m));
      left = λ cells owned there. left_more owners cells rows rows' taken c.loop-taken.cells.items c.push_reserved.new.self.items (get_or owners i 0) i t.0 c.take_last-cell.result (inv.left cells owned there) (omega (arith, more)) (get_at owners i 0 low) t.1 t.2 pushed.items;
    }

pub returns : goal.returns
returns g c =
    let owners = c.args.owners.now in
    let taken = c.loop-taken.taken in
    let rows = map (λ p. p.cells.items) c.loop-taken.posts.items in
    let done = c.loop-taken-test.false in
    λ cells owned there. c.reverse.ensures.items ∙ put_back owners cells rows taken c.loop-taken.cells.items (c.loop-taken.invariant.left cells owned there) (omega (arith, done))
