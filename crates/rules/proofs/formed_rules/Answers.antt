-- The records and structs of well-formed rows stand where they are looked for. Assumes nothing.
use mathlib.Core.Path.{refl, ap, ◌∙◌}
use Rattle.codec.specs.Telling.{passed}
use Rattle.rows_check.specs.CheckLaws.{formed}
use Rattle.rules.specs.RowRuleLaws.{rows_are}
use Rattle.rules.proofs.formed_rules.Goals as goal

pub returns : goal.returns
returns c = let pre = c.requires in (rw (pre.counts.0, pre.counts.1.0) at c.check_items.ensures) ∙ ap passed (rows_are _ _ _ _ _ (formed _ _ pre.formed) pre.counts.1.1 refl)
