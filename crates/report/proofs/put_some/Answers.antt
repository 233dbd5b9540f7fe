-- The line, or nothing where the number is 0.
-- Assumes nothing.
use mathlib.Core.Path.{sym}
use Rattle.put.specs.OutputLaws.{left-start, left-done, wrote-is}
use Rattle.report.proofs.PartLaws.{none_of, some_of, room-is}
use Rattle.report.proofs.put_some.Goals as goal

pub returns-then-n-eq0 : goal.returns-then-n-eq0
returns-then-n-eq0 c = left-done (left-start c.requires) (none_of _ _ c.if-n-eq0.true)

pub put_line-requires : goal.put_line-requires
put_line-requires c = room-is c.requires (some_of _ _ c.if-n-eq0.false)

pub returns : goal.returns
returns c = wrote-is c.put_line.ensures (sym (some_of _ _ c.if-n-eq0.false))
