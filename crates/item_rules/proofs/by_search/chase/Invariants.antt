-- The invariant: the chase so far. Assumes nothing.
use Prim.Native.Nat.{◌-◌, ◌≤◌, ◌<◌}
use Rattle.item_rules.specs.Search.{Reached, PartOf}
use Rattle.item_rules.specs.Entries.{entries_of}
use Rattle.item_rules.specs.Rules.{spans}
use Rattle.item_rules.proofs.by_search.chase.Given as goal

abbrev pub invariant-loop-cursor : goal.invariant-loop-cursor
invariant-loop-cursor l =
    (l.used ≤ l.cursor) × (l.cursor < 131072) × Reached (spans l.frame.is_record l.frame.base l.ext (entries_of l.layout l.rows l.src)) l.start l.used l.cursor × PartOf l.layout l.rows l.frame.is_record l.frame.base l.ext l.src l.from

abbrev pub decreases-loop-cursor : goal.decreases-loop-cursor
decreases-loop-cursor l = 131072 - l.cursor
