use Rattle.std.proofs.Common.{◌≡◌, Some, slice_get, sym, subst}
use Rattle.ghost_tests.specs.Delivering.{Fits}
use Rattle.ghost_tests.proofs.delivering.serve.Goals as goal

pub deliver_all-requires : goal.deliver_all-requires
deliver_all-requires c =
    let s = c.args.size in
    record { fit = λ k p e. subst (λ g. Fits g s.edge s.depth p) (sym c.domain.ensures.grid) (c.in_ok-pieces.ensures.fit k p e) }

pub repeat_all-requires : goal.repeat_all-requires
repeat_all-requires c =
    record { fit = λ k p e. (c.in_ok-pieces.ensures.fit k p (subst (λ l. slice_get l k ≡ Some p) c.deref.ensures.value e)).size }
