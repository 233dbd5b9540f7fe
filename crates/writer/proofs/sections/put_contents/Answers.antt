-- Fields where the kind has them, else labels.
-- Assumes nothing.
use mathlib.Core.Path.{sym, ◌∙◌}
use Rattle.rows_check.specs.SectionLaws.{names-after, names-first}
use Rattle.put.specs.OutputLaws.{wrote-is}
use Rattle.writer.proofs.sections.put_contents.Goals as goal

pub put_fields-requires : goal.put_fields-requires
put_fields-requires c =
    let e = sym c.has_fields.ensures ∙ c.if-has_fields.true in
    let m = names-after c.args.kind c.args.rows.now c.args.q e in
    rw c.count_of-n.ensures.0 record { n_in_bounds = rw m at c.requires.section_rows.inside; spans = rw m at c.requires.section_rows.names; room_for = rw e at c.requires.room_for }

pub returns-then-has_fields : goal.returns-then-has_fields
returns-then-has_fields c = wrote-is c.put_fields.ensures (rw (sym c.has_fields.ensures ∙ c.if-has_fields.true, c.count_of-n.ensures.0))

pub put_labels-requires : goal.put_labels-requires
put_labels-requires c =
    let e = sym c.has_fields.ensures ∙ c.if-has_fields.false in
    let m = names-first c.args.kind c.args.rows.now c.args.q e in
    rw c.count_of-n.ensures.0 record { n_in_bounds = rw m at c.requires.section_rows.inside; spans = rw m at c.requires.section_rows.names; room_for = rw e at c.requires.room_for }

pub returns : goal.returns
returns c = wrote-is c.put_labels.ensures (rw (sym c.has_fields.ensures ∙ c.if-has_fields.false, c.count_of-n.ensures.0))
