-- The rows' counts, then those of the groups.
-- Assumes nothing.
use Rattle.std.proofs.Common.{sym, ◌∙◌}
use Rattle.rows_check.specs.Check.{both, counts_fit}
use Rattle.rows_check.proofs.order.counts_fit.Goals as goal

pub returns-then-not-all_pass : goal.returns-then-not-all_pass
unfolding counts_fit both
returns-then-not-all_pass c = rw (sym c.all_pass.ensures ∙ c.if-not-all_pass.true)

pub returns : goal.returns
unfolding counts_fit both
returns c =
    let counts = c.requires.counts in
    c.groups_fit.ensures ∙ rw (counts.records, counts.structs, counts.labels, sym c.all_pass.ensures ∙ c.if-not-all_pass.false)
