-- The digits of the number are those that are added to zeros.
use Rattle.std.proofs.Common.{arith}
use Rattle.meaning.proofs.Lengths.{one_digit_is, two_digits_are}
use Rattle.spelling.proofs.sign.Page.put_number.Goals as goal

pub put-requires : goal.put-requires
put-requires c = rw (one_digit_is c.args.number c.if-number-lt10.true) at c.requires.room

pub returns-then-number-lt10 : goal.returns-then-number-lt10
returns-then-number-lt10 c = rw (one_digit_is c.args.number c.if-number-lt10.true, ← c.digit.ensures) c.put.ensures

pub put-requires-else-number-lt10 : goal.put-requires-else-number-lt10
put-requires-else-number-lt10 c =
    rw (two_digits_are c.args.number c.if-number-lt10.false (omega (arith, c.requires.low))) at c.requires.room

pub returns-else-number-lt10 : goal.returns-else-number-lt10
returns-else-number-lt10 c =
    rw (
      two_digits_are c.args.number c.if-number-lt10.false (omega (arith, c.requires.low)),
      ← c.digit-else-number-lt10.ensures,
      ← c.digit-else-number-lt10-2.ensures,
    ) c.put-else-number-lt10.ensures
