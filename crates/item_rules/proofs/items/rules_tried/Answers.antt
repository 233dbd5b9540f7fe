-- Either try gives the number or gives up. Assumes nothing.
use Rattle.item_rules.proofs.items.rules_tried.Goals as goal

pub rules_near-requires : goal.rules_near-requires
rules_near-requires c = c.requires

pub returns-then-task : goal.returns-then-task
returns-then-task c = c.rules_near.ensures

pub rules_searched-requires : goal.rules_searched-requires
rules_searched-requires c = c.requires

pub returns : goal.returns
returns c = c.rules_searched.ensures
