-- The rows of the records, then those of the structs, are there; then the rules. Assumes nothing.
use mathlib.Core.Path.{refl, sym, ap, ◌∙◌}
use Rattle.codec.specs.Telling.{passed, all_passed}
use Rattle.item_rules.proofs.Verdicts.{ready, table_none, table-out, table_done}
use Rattle.item_rules.proofs.table_rules.Goals as goal

pub rules-requires : goal.rules-requires
rules-requires c = ready _ _ _ _ c.in-Some-reach.ensures.0 c.in-Some.ensures.0

pub returns-in_default : goal.returns-in_default
returns-in_default c = all_passed _ (sym (table_none _ _ _ _ _ _ _ c.in_default.ensures))

pub returns-in_default-reach : goal.returns-in_default-reach
returns-in_default-reach c = all_passed _ (sym (table-out _ _ _ _ _ _ _ c.in-Some.ensures c.in_default-reach.ensures))

pub returns : goal.returns
returns c = c.rules.ensures ∙ ap passed (table_done _ _ _ _ _ _ _ c.in-Some.ensures c.in-Some-reach.ensures refl)
