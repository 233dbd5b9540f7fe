-- The rules with the smallest table that does. Assumes nothing.
use Rattle.item_rules.proofs.items.rules_few.Goals as goal

pub returns-then-task-le64 : goal.returns-then-task-le64
returns-then-task-le64 c = c.rules_of.ensures
