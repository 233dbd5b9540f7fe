-- One count for each kind, twice where there are entries and names.
-- Assumes nothing.
use mathlib.Core.Path.{sym, ◌∙◌}
use Rattle.rows_check.specs.SectionLaws.{names-after, names-first}
use Rattle.writer.proofs.cells.next_row.Goals as goal

pub returns-then-has_fields : goal.returns-then-has_fields
returns-then-has_fields c =
    rw (names-after c.args.kind c.args.rows.now c.args.q (sym c.has_fields.ensures ∙ c.if-has_fields.true), c.count_of-n.ensures.0)

pub returns : goal.returns
returns c =
    rw (names-first c.args.kind c.args.rows.now c.args.q (sym c.has_fields.ensures ∙ c.if-has_fields.false), c.count_of-n.ensures.0)
