-- What is not the names, and the names.
-- Assumes nothing.
use native.Mathlib.Omega.{arith}
use mathlib.Core.Path.{◌∙◌}
use Rattle.rows_check.proofs.SizeLaws.{body-length}
use Rattle.rows_check.proofs.sizes.body_size.Goals as goal

pub names_size-requires : goal.names_size-requires
names_size-requires c =
    let s = c.requires.section_rows in
    rw (c.names_from-from.ensures.0, c.count_of-n.ensures.0) record { sum_bound = omega arith; n_in_bounds = s.inside; spans = s.names }

pub returns : goal.returns
returns c =
    c.names_size.ensures ∙ rw (c.add_to-head.ensures, c.nameless_size.ensures.0, c.cell_of.ensures.0, c.names_from-from.ensures.0, c.count_of-n.ensures.0, body-length c.args.kind c.args.rows.now c.args.text.now c.args.q c.requires.section_rows) (omega arith)
