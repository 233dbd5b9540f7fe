-- An accepted layout's records, structs and label defs stand where they are looked for. Assumes nothing.
use mathlib.Core.Path.{refl, ap, ◌∙◌}
use Rattle.codec.specs.Telling.{passed}
use Rattle.rules.specs.LayoutRuleLaws.{layout_is}
use Rattle.rules.proofs.layout_rules.Goals as goal

pub returns : goal.returns
returns c = c.check_items.ensures ∙ ap passed (layout_is _ _ _ _ c.requires refl)
