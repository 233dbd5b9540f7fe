-- By the kind.
-- Assumes nothing.
use mathlib.Core.Path.{sym}
use Rattle.row_bytes.specs.RowLaws.{more-interval, more-mapping, more-list}
use Rattle.row_bytes.proofs.more_of.Goals as goal

pub returns-then-kind-eq4 : goal.returns-then-kind-eq4
returns-then-kind-eq4 c = sym (more-interval c.args.kind c.if-kind-eq4.true)

pub returns-then-kind-eq3 : goal.returns-then-kind-eq3
returns-then-kind-eq3 c = sym (more-mapping c.args.kind c.if-kind-eq3.true)

pub returns : goal.returns
returns c = sym (more-list c.args.kind c.if-kind-eq4.false c.if-kind-eq3.false)
