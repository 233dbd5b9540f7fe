-- The first try, or all owners where it gave up. Assumes nothing.
use Rattle.item_rules.specs.TriedLaws.{tried-is}
use Rattle.item_rules.proofs.items.first_number.Goals as goal

pub rules_tried-v-requires : goal.rules_tried-v-requires
rules_tried-v-requires c = record { ready = c.requires; left_bound = c.if-task-le4096.true }

pub returns-then-v-ne-GAVE_UP : goal.returns-then-v-ne-GAVE_UP
returns-then-v-ne-GAVE_UP c = tried-is c.rules_tried-v.ensures c.if-v-ne-GAVE_UP.true
