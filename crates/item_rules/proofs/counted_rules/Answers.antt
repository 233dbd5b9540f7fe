-- The structs are there, and the records; then the rules. Assumes nothing.
use mathlib.Core.Path.{refl, sym, ap, ◌∙◌}
use Rattle.codec.specs.Telling.{passed, all_passed}
use Rattle.item_rules.proofs.Verdicts.{ready, counted-out, counted-done}
use Rattle.item_rules.proofs.counted_rules.Goals as goal

pub rules-requires : goal.rules-requires
rules-requires c = ready _ _ _ _ c.in-Some.ensures.0 c.requires.records_stand

pub returns-in_default : goal.returns-in_default
returns-in_default c = all_passed _ (sym (counted-out _ _ _ _ _ _ c.in_default.ensures))

pub returns : goal.returns
returns c = c.rules.ensures ∙ ap passed (counted-done _ _ _ _ _ _ c.in-Some.ensures c.requires.left_bound c.u16_of.ensures.0 refl)
