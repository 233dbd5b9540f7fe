-- The number, told as a refusal. Assumes nothing.
use mathlib.Core.Path.{sym, ap, ◌∙◌}
use Rattle.codec.specs.Telling.{passed, all_passed, refuses_by}
use Rattle.item_rules.proofs.items.rules.Goals as goal

pub returns-then-number-eq0 : goal.returns-then-number-eq0
returns-then-number-eq0 c = all_passed _ c.if-number-eq0.true ∙ ap passed c.first_number-number.ensures

pub returns : goal.returns
returns c = refuses_by _ c.if-number-eq0.false ∙ ap passed c.first_number-number.ensures
