-- A hit after the last one is a hit in all; else the search from the front decides. Assumes nothing.
use Rattle.item_rules.proofs.Loops.{near_hit, far_hit}
use Rattle.item_rules.proofs.by_search.seek_on.Goals as goal

pub returns-in-Some : goal.returns-in-Some
returns-in-Some c = near_hit _ _ _ _ _ c.requires.part_of c.in-Some.ensures

pub returns : goal.returns
returns c = far_hit _ _ _ _ _ _ _ _ c.requires.proper c.seek-hit.ensures
