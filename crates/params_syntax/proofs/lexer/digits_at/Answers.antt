-- The digits before a token's end are digits.
use Rattle.params_syntax.proofs.Digits.{AreDigits-front}
use Rattle.params_syntax.proofs.lexer.digits_at.Goals as goal

pub value_of-requires : goal.value_of-requires
value_of-requires c = record { digits = AreDigits-front c.args.text.now c.split_at.result.0.now c.digits_len.result c.digits_len.ensures.longest c.split_at.ensures.front }
