-- 90, then what was asked for.
-- Assumes nothing.
use Rattle.std.proofs.Common.{ap, ◌∙◌}
use Rattle.std.specs.Prelude.{Err}
use Rattle.rows_check.specs.AnswerLaws.{good_90}
use Rattle.rows_check.proofs.SizeLaws.{exit_90, formed-only}
use Rattle.rows_check.proofs.layout_size.Goals as goal

pub well_formed-requires : goal.well_formed-requires
well_formed-requires c = good_90 _ _ _ c.all_good-good.ensures

pub returns-in_default : goal.returns-in_default
returns-in_default c = ap Err c.refused.ensures ∙ exit_90 _ _ _ c.in_default.ensures

pub whole_size-requires : goal.whole_size-requires
whole_size-requires c = record { counts = c.in-Some.ensures.1; judged = c.all_good-good.ensures; formed = c.in-Some.ensures.0 }

pub returns-then-whole : goal.returns-then-whole
returns-then-whole c = rw c.if-whole.true c.whole_size.ensures

pub returns : goal.returns
returns c = rw c.if-whole.false (formed-only _ _ c.in-Some.ensures.0 c.in-Some.ensures.1)
