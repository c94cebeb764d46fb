-- What is left of the proof of this function.
use Rattle.std.proofs.Common.{ap, length, arith}
use Rattle.std.proofs.lemmas.List.{length-map}
use Rattle.params_check.specs.TreeValues.{criterion_of}
use Rattle.params_check.specs.Values.{subs_among}
use Rattle.params_check.proofs.WalkedGroups.{subs_among-length}
use Rattle.params_check.proofs.criterion_walk.walk_criteria.Goals as goal

pub of-requires : goal.of-requires
of-requires c =
    let items = c.args.items.now in
    record {
      few = omega (arith, ap length c.in_ok-found.ensures.value, length-map (subs_among items) (criterion_of c.args.names.now), subs_among-length items, c.requires.few);
    }
