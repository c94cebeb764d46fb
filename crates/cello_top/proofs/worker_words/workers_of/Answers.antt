-- A word that spells the number of workers is parsed as that number.
use Rattle.std.proofs.Common.{◌≡◌, sym, ap, ◌∙◌, arith}
use Rattle.std.specs.Prelude.{decimal}
use Rattle.std.specs.String.{string_bytes}
use Rattle.std.proofs.lemmas.Bool.{false≢true}
use Rattle.std.proofs.lemmas.Fmt.{parse-decimal}
use Rattle.cello_top.proofs.WorkerNumbers.{spells-none, spells-one}
use Rattle.cello_top.proofs.worker_words.workers_of.Goals as goal
use Rattle.cello_top.proofs.worker_words.workers_of.Goals.{then-workers-lt1-via-then-workers-lt1, then-workers-lt1-via-else-workers-lt1+then-workers-gt-MOST_WORKERS}

pub returns-in_default-clause-none : goal.returns-in_default-clause-none
returns-in_default-clause-none c = λ e. spells-none 16 _ (λ n some small spelled.
    c.in_default.not-Ok n
    (parse-decimal 32 n c.as_str-text.result.now c.parse.result (omega (arith, small)) (omega (arith, small)) (c.as_str-text.ensures.value ∙ spelled) c.parse.ensures.value.0))

pub returns-then-workers-lt1-clause-none : goal.returns-then-workers-lt1-clause-none
returns-then-workers-lt1-clause-none c = λ e. spells-none 16 _ (λ n some small spelled.
    let ok = parse-decimal 32 n c.as_str-text.result.now c.parse.result (omega (arith, small)) (omega (arith, small)) (c.as_str-text.ensures.value ∙ spelled) c.parse.ensures.value.0 in
    let same : c.in-Ok.workers ≡ n = cc in
    elim c.then-workers-lt1.branch [
      | then-workers-lt1-via-then-workers-lt1 w ↦ absurd (omega (arith, some, same, w.if-workers-lt1.true))
      | then-workers-lt1-via-else-workers-lt1+then-workers-gt-MOST_WORKERS w ↦ absurd (omega (arith, small, same, w.if-workers-gt-MOST_WORKERS.true))
    ])

pub returns-then-not-is_decimal-clause-none : goal.returns-then-not-is_decimal-clause-none
returns-then-not-is_decimal-clause-none c = λ e. spells-none 16 _ (λ n some small spelled.
    let ok = parse-decimal 32 n c.as_str-text.result.now c.parse.result (omega (arith, small)) (omega (arith, small)) (c.as_str-text.ensures.value ∙ spelled) c.parse.ensures.value.0 in
    let same : c.in-Ok.workers ≡ n = cc in
    let yes = c.is_decimal.ensures.decimal.1 (c.as_bytes.ensures.value ∙ c.as_str-text.ensures.value ∙ spelled ∙ ap decimal (sym same)) in
    absurd (false≢true (sym c.if-not-is_decimal.true ∙ yes)))

pub returns-clause-asks : goal.returns-clause-asks
returns-clause-asks c =
    let spelled : string_bytes c.args.word.now ≡ decimal c.in-Ok.workers = sym c.as_str-text.ensures.value ∙ sym c.as_bytes.ensures.value ∙ c.is_decimal.ensures.decimal.0 c.if-not-is_decimal.false in
    spells-one 16 c.in-Ok.workers _ (omega (arith, c.if-workers-lt1.false)) (omega (arith, c.if-workers-gt-MOST_WORKERS.false)) spelled
