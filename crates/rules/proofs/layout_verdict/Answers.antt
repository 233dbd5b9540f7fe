-- Reading into any table gives the verdict.
-- Assumes nothing.
use mathlib.Core.Path.{ap, ◌∙◌}
use Rattle.std.specs.Prelude.{Err}
use Rattle.layout.specs.LayoutOf.{layout_of}
use Rattle.layout.specs.AnswerLaws.{read-verdict, short-verdict, refused-verdict}
use Rattle.rules.proofs.layout_verdict.Goals as goal

pub returns-in-Ok : goal.returns-in-Ok
returns-in-Ok c = read-verdict _ (layout_of _) c.read_layout_rows.ensures.is c.in-Ok.is

pub returns-in-Err-Short : goal.returns-in-Err-Short
returns-in-Err-Short c = short-verdict _ (layout_of _) c.read_layout_rows.ensures.is (c.in-Err-Short.is ∙ ap Err c.in-Err-Short.field-0-is)

pub returns-in-Err-Refused : goal.returns-in-Err-Refused
returns-in-Err-Refused c = refused-verdict _ (layout_of _) c.read_layout_rows.ensures.is (c.in-Err-Refused.is ∙ ap Err c.in-Err-Refused.field-0-is)
