-- Nobody owns a new place. Assumes nothing.
use native.Mathlib.Omega.{arith}
use Rattle.plain_tiling.proofs.MarkingLaws.{unowned}
use Rattle.item_rules.specs.TriedLaws.{tried-none}
use Rattle.item_rules.proofs.items.rules_near.Goals as goal

pub rules_few-requires : goal.rules_few-requires
rules_few-requires c = record { ready = c.requires.ready; left_bound = c.requires.left_bound; unowned = unowned 8192 (omega arith) }

pub returns : goal.returns
returns c = tried-none c.rules_few.ensures
