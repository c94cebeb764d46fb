-- Why a text isn't taken.
use Rattle.std.proofs.Common.{rules, ◌≡◌, refl, subst}
use Rattle.params_syntax.specs.Reading.{IsUnread}
use Rattle.params_check.specs.Walks.{IsRefused}
use Rattle.checkpoint.specs.Lemmas.PartEnds.{faulty}
use Rattle.checkpoint.proofs.Texts.{unread-none, refused-none, other-none}
use Rattle.checkpoint.proofs.text.parameters.Goals as goal

pub returns-in-Err-Syntax-clause-fault : goal.returns-in-Err-Syntax-clause-fault
returns-in-Err-Syntax-clause-fault c =
    let text = c.args.bytes.now in
    faulty (λ s. (unread-none text c.in-Err-Syntax.field-0-0 (subst (IsUnread text) c.in-Err-Syntax.field-0-is c.in-Err-Syntax.ensures.fault), refl))

pub returns-in-Err-Param-clause-fault : goal.returns-in-Err-Param-clause-fault
returns-in-Err-Param-clause-fault c =
    let tree = c.in-Ok.tree in
    faulty (λ s. (
      refused-none c.args.bytes.now tree c.in-Err-Param.field-0-0 c.in-Ok.ensures.tree
          (subst (IsRefused tree) c.in-Err-Param.field-0-is c.in-Err-Param.ensures.fault),
      refl,
    ))

pub returns-clause-fault : goal.returns-clause-fault
returns-clause-fault c =
    let p = c.in-Ok-check.params in
    let other : p.text ≡ c.args.bytes.now → ⊥ = λ e. search (rules, c.are_same.ensures.same, c.if-are_same, c.text.ensures.text, e) in
    faulty (λ s. (other-none c.args.bytes.now c.in-Ok.tree p c.in-Ok.ensures.tree c.in-Ok-check.ensures.params other, refl))
