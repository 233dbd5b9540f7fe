-- A struct has rtype 0. Assumes nothing.
use Rattle.item_rules.proofs.walk.rtype_at.Goals as goal

pub returns-then-is_record : goal.returns-then-is_record
returns-then-is_record c = rw c.if-is_record.true c.half.ensures.0

pub returns : goal.returns
returns c = rw c.if-is_record.false
