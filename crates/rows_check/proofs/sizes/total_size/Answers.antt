-- Three groups of sections, one after the other.
-- Assumes nothing.
use native.Mathlib.Omega.{arith}
use mathlib.Core.Path.{◌∙◌}
use Rattle.rows_check.proofs.SizeLaws.{size-le, total}
use Rattle.rows_check.proofs.sizes.total_size.Goals as goal

pub sections_size-a-requires : goal.sections_size-a-requires
sections_size-a-requires c = record { sum_bound = omega arith; sections = rw c.requires.counts.records c.requires.sections }

pub sections_size-b-requires : goal.sections_size-b-requires
sections_size-b-requires c =
    let k = c.requires.counts in
    record { sum_bound = rw c.sections_size-a.ensures.0 (size-le _ _); sections = rw (c.sections_size-a.ensures.1, k.records, k.structs) c.requires.struct_sections }

pub sections_size-d-requires : goal.sections_size-d-requires
sections_size-d-requires c =
    let k = c.requires.counts in
    record { sum_bound = rw c.sections_size-b.ensures.0 (size-le _ _); sections = rw (c.sections_size-b.ensures.1, c.sections_size-a.ensures.1, k.records, k.structs, k.labels) c.requires.label_sections }

pub returns : goal.returns
returns c =
    let k = c.requires.counts in
    let first = c.sections_size-a.ensures in
    let second = c.sections_size-b.ensures in
    (c.sections_size-d.ensures.0 ∙ rw (second.1, second.0, first.1, first.0, k.records, k.structs, k.labels) (total c.args.rows.now c.args.text.now), second.1 ∙ rw (first.1, k.records, k.structs))
