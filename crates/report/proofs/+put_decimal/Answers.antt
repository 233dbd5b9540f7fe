-- The digits of a tenth, then the last digit.
-- Assumes nothing.
use Rattle.std.proofs.Common.{[], arith, refl, sym}
use Rattle.put.specs.OutputLaws.{wrote-is, wrote_then, left-start, left-room, left_step}
use Rattle.report.specs.DecimalLaws.{decimal-one, decimal-next}
use Rattle.report.proofs.+put_decimal.Goals as goal

pub put_digit-requires : goal.put_digit-requires
put_digit-requires t c = (c.if-n-lt10.true, left-room (left-start c.requires) [] (decimal-one _ c.if-n-lt10.true))

pub returns-then-n-lt10 : goal.returns-then-n-lt10
returns-then-n-lt10 t c = wrote-is c.put_digit.ensures (sym (decimal-one _ c.if-n-lt10.true))

pub put_decimal-a-requires : goal.put_decimal-a-requires
put_decimal-a-requires t c = (omega arith, left-room (left-start c.requires) _ (decimal-next _ c.if-n-lt10.false (omega arith)))

pub put_digit-requires-2 : goal.put_digit-requires-2
put_digit-requires-2 t c = (omega arith, left-room (left_step (left-start c.requires) (decimal-next _ c.if-n-lt10.false (omega arith)) c.put_decimal-a.ensures) [] refl)

pub returns : goal.returns
returns t c = wrote-is (wrote_then c.put_decimal-a.ensures c.put_digit-2.ensures) (sym (decimal-next _ c.if-n-lt10.false (omega arith)))
