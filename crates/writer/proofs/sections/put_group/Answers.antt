-- The count, then the sections.
-- Assumes nothing.
use Rattle.rows_check.specs.SectionLaws.{group_is}
use Rattle.put.specs.OutputLaws.{left-start, left_stored, left-all, left-rest}
use Rattle.writer.proofs.sections.put_group.Goals as goal

pub put_sections-requires : goal.put_sections-requires
put_sections-requires c =
    let args = c.args in
    record { sections = c.requires.sections; room_for = left-all (left_stored (left-start c.requires.room_for) _ (group_is args.kind args.rows.now args.text.now args.q args.k) c.put_little-a.ensures) }

pub returns : goal.returns
returns c =
    let args = c.args in
    let l = left_stored (left-start c.requires.room_for) _ (group_is args.kind args.rows.now args.text.now args.q args.k) c.put_little-a.ensures in
    record { wrote = left-rest l c.put_sections.ensures.wrote; row = c.put_sections.ensures.row }
